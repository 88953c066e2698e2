-- What the counts in the hypervisor's answers mean, on demand 3's terms: a count that is not 0 is the number of accesses made since the last
-- such answer, of which the first is the first of a call; and these are at most 7 + `most_tries`, that is ten.
-- Assumes nothing.
use Rattle.std.specs.Prelude.{ℕ, zero, suc, ◌+◌, ◌^◌, ◌≤◌, ◌≡◌, Bool, List, [], ◌∷◌, eqb, length}
use Rattle.machine.specs.Exec.{exec_all}
use Rattle.machine.specs.declared.types.Step.{Step}
use Rattle.machine.specs.declared.types.Event.{Event}
use Rattle.machine.specs.declared.types.Event.TheVariants.{Nothing, HypervisorAccess, GuestAccess, ClearAccess, MaskAccess, HypervisorAnswer, GuestAnswer}
use Rattle.queue.specs.Budget.{most_tries}
use Rattle.interleaving.specs.Fresh.{fresh_world}
use Rattle.interleaving.specs.Rules.{KeepsRules}
use Rattle.interleaving.specs.Lengths.{is_first}

-- one access more, where the hypervisor has made so many since the last answer whose count is not 0
pub record OneMore (first : Bool) (made : ℕ) : Type 0 where
  pub start : first ≡ eqb made 0
  pub bound : suc made ≤ 7 + most_tries

-- an answer with count 0 is skipped
abbrev pub Counted : ℕ → List Event → Type 0
Counted made [] = Unit {0}
Counted made (Nothing ∷ es) = Counted made es
Counted made (HypervisorAccess c a seen ∷ es) = OneMore (is_first c.stage) made × Counted (suc made) es
Counted made (GuestAccess c a seen ∷ es) = Counted made es
Counted made (ClearAccess c a seen ∷ es) = Counted made es
Counted made (MaskAccess a seen ∷ es) = Counted made es
Counted made (HypervisorAnswer a zero ∷ es) = Counted made es
Counted made (HypervisorAnswer a (suc count) ∷ es) = (suc count ≡ made) × Counted 0 es
Counted made (GuestAnswer a count ∷ es) = Counted made es

unfoldable pub CountsOfEvents : ℕ → Type 0
CountsOfEvents n = (lent : List ℕ) (entries : ℕ) (steps : List Step) → 2 ^ n ≤ length lent → KeepsRules n (fresh_world lent entries) steps → Counted 0 (exec_all n (fresh_world lent entries) steps).events
