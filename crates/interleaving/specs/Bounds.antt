-- What else holds of every event on demand 3's terms: answers 2 and 18 never come up; a count is at most 7 + `most_tries`,
-- that is ten; R4 is tried at most `most_tries` times; R6 always finds its bit clear, so that it answers 1.
-- Assumes nothing.
use Rattle.std.specs.Prelude.{ℕ, ◌+◌, ◌^◌, ◌≤◌, ◌≡◌, ◌≢◌, false, List, [], ◌∷◌, length}
use Rattle.word.specs.Ready.{is_ready}
use Rattle.calls.specs.Answers.{code_of}
use Rattle.calls.specs.declared.types.Answer.{Answer}
use Rattle.calls.specs.declared.types.Stage.TheVariants as stage
use Rattle.calls.specs.declared.types.Call.{Call}
use Rattle.machine.specs.Exec.{exec_all}
use Rattle.machine.specs.declared.types.Step.{Step}
use Rattle.machine.specs.declared.types.Event.{Event}
use Rattle.machine.specs.declared.types.Event.TheVariants.{Nothing, HypervisorAccess, GuestAccess, ClearAccess, MaskAccess, HypervisorAnswer, GuestAnswer}
use Rattle.queue.specs.Budget.{most_tries}
use Rattle.interleaving.specs.Fresh.{fresh_world}
use Rattle.interleaving.specs.Rules.{KeepsRules}

-- an answer of the hypervisor's
pub record AnswerBounds (a : Answer) (count : ℕ) : Type 0 where
  pub link_not_abandoned : (code_of a).number ≢ 2
  pub accesses : count ≤ 7 + most_tries

-- an access of the hypervisor's call c
pub record AccessBounds (c : Call) (seen : ℕ) : Type 0 where
  pub accesses : c.count ≤ 7 + most_tries
  pub few_tries : c.stage ≡ stage.R4 → c.tries ≤ most_tries
  pub bit_clear : c.stage ≡ stage.R6 → is_ready c.queue.0 seen ≡ false

abbrev pub EventBounds : Event → Type 0
EventBounds Nothing = Unit {0}
EventBounds (HypervisorAccess c a seen) = AccessBounds c seen
EventBounds (GuestAccess c a seen) = Unit {0}
EventBounds (ClearAccess c a seen) = Unit {0}
EventBounds (MaskAccess a seen) = Unit {0}
EventBounds (HypervisorAnswer a count) = AnswerBounds a count
EventBounds (GuestAnswer a count) = (code_of a).number ≢ 18

abbrev pub Bounds : List Event → Type 0
Bounds [] = Unit {0}
Bounds (e ∷ es) = EventBounds e × Bounds es

unfoldable pub BoundsOfEvents : ℕ → Type 0
BoundsOfEvents n = (lent : List ℕ) (entries : ℕ) (steps : List Step) → 2 ^ n ≤ length lent → KeepsRules n (fresh_world lent entries) steps → Bounds (exec_all n (fresh_world lent entries) steps).events
