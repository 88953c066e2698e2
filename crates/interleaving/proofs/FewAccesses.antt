-- How few the accesses of a call of the hypervisor's are, which its counts bound, and what holds of a service's at each stage. Apart
-- from Lengths.antt, where the claim is: of an edited file that has what depends on a refused lemma, rt says that it can't read the edit.
-- Assumes nothing.
use mathlib.Core.Path.{◌≡◌, refl, sym, ap}
use mathlib.Core.Logic.{◌≢◌}
use mathlib.Core.Bool.{Bool, true, false}
use mathlib.Core.List.{List, [], ◌∷◌}
use Prim.Native.Nat.{ℕ, zero, suc, ◌≤◌}
use borrow.Author.Tests.{eqb-true, eqb-false}
use Rattle.calls.specs.declared.types.GuestStage.{GuestStage}
use Rattle.calls.specs.declared.types.GuestStage.TheVariants as guest_stage
use Rattle.machine.specs.declared.types.Event.{Event}
use Rattle.machine.specs.declared.types.Event.TheVariants.{Nothing, HypervisorAccess, GuestAccess, ClearAccess, MaskAccess, HypervisorAnswer, GuestAnswer}
use Rattle.interleaving.specs.Lengths.{is_first, counted, call_accesses}
use Rattle.interleaving.specs.Counts.{OneMore, Counted}

-- ---- the hypervisor's calls: the accesses from the first on are those since the last answer

one_more_lem : (first : Bool) (made latest : ℕ) → OneMore first made → (made ≢ 0 → latest ≡ made) → counted first latest ≡ suc made
one_more_lem true made latest o same = ap suc (sym (eqb-true made 0 (sym o.start)))
one_more_lem false made latest o same = ap suc (same (eqb-false made 0 (sym o.start)))

pub calls_few : (es : List Event) (made latest : ℕ) → Counted made es → latest ≤ 10 → (made ≢ 0 → latest ≡ made) → call_accesses latest es ≤ 10
calls_few [] made latest c few same = few
calls_few (Nothing ∷ es) made latest c few same = calls_few es made latest c few same
calls_few (HypervisorAccess x a seen ∷ es) made latest c few same = rw (one_more_lem (is_first x.stage) made latest c.0 same) (calls_few es (suc made) (suc made) c.1 c.0.bound (λ n. refl))
calls_few (GuestAccess x a seen ∷ es) made latest c few same = calls_few es made latest c few same
calls_few (ClearAccess x a seen ∷ es) made latest c few same = calls_few es made latest c few same
calls_few (MaskAccess a seen ∷ es) made latest c few same = calls_few es made latest c few same
calls_few (HypervisorAnswer a zero ∷ es) made latest c few same = calls_few es made latest c few same
calls_few (HypervisorAnswer a (suc count) ∷ es) made latest c few same = calls_few es 0 latest c.1 few (λ n. absurd (n refl))
calls_few (GuestAnswer a count ∷ es) made latest c few same = calls_few es made latest c few same

-- ---- a service: the most accesses that it has made, by its stage

abbrev pub Made : GuestStage → ℕ → Type 0
Made guest_stage.None made = Unit {0}
Made guest_stage.G0 made = Unit {0}
Made guest_stage.G1 made = made ≤ 1
Made guest_stage.G2 made = made ≤ 2
Made guest_stage.G3 made = made ≤ 3
Made guest_stage.G4 made = made ≤ 4

abbrev pub most_of_service : ℕ
most_of_service = 5

pub record Few (made : ℕ) (s : GuestStage) : Type 0 where
  pub few : made ≤ most_of_service
  pub stage : Made s made
