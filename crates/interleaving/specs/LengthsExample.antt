-- Ten accesses of a raise and five of a service are made in a list that keeps document 01's rules; more are refused.
-- Assumes nothing.
use Rattle.std.specs.Prelude.{ℕ, ◌≡◌, false, List, [], ◌∷◌, ◌++◌, replicate}
use Rattle.word.specs.Word.{link_bits, port_at}
use Rattle.calls.specs.declared.types.Access.{Access}
use Rattle.calls.specs.declared.types.Stage.{Stage}
use Rattle.calls.specs.declared.types.Stage.TheVariants as stage
use Rattle.calls.specs.declared.types.Call.{Call}
use Rattle.calls.specs.declared.types.GuestStage.{GuestStage}
use Rattle.calls.specs.declared.types.GuestStage.TheVariants as guest_stage
use Rattle.calls.specs.declared.types.GuestCall.{GuestCall}
use Rattle.machine.specs.Exec.{World, exec_all}
use Rattle.machine.specs.declared.types.Start.TheVariants.{InitControl, ExpandArray, Raise}
use Rattle.machine.specs.declared.types.GuestStart.TheVariants.{Service}
use Rattle.machine.specs.declared.types.Step.{Step}
use Rattle.machine.specs.declared.types.Step.TheVariants as step
use Rattle.machine.specs.declared.types.Event.{Event}
use Rattle.machine.specs.declared.types.Event.TheVariants.{HypervisorAccess, GuestAccess}
use Rattle.interleaving.specs.Fresh.{fresh_world}
use Rattle.interleaving.specs.Rules.{KeepsDocumentRules}
use Rattle.interleaving.specs.Lengths.{is_first, is_first_of_service, call_accesses, service_accesses, Lengths}
use Rattle.interleaving.specs.Example.{x, g, tell, mask, bind}

-- a page, of whose words she is told; ports 5 and 9 are bound
abbrev pub opening : List Step
opening = step.Hypervisor (InitControl 0 1 4 0) ∷ step.Hypervisor (ExpandArray 2 4) ∷ tell 1024 ∷ bind 5 ++ bind 9

-- 5 is raised; a service has taken it, and is to make G4; 5 is raised again, and stands on queue 7 alone
abbrev pub taken_and_raised : List Step
taken_and_raised =
    step.Hypervisor (Raise (port_at 5)) ∷ x ∷ x ∷ x ∷ x ∷ step.Guest Service ∷ g ∷ g ∷ g ∷ g
    ∷ step.Hypervisor (Raise (port_at 5)) ∷ x ∷ x ∷ x ∷ x ∷ []

-- 9 is to be linked behind 5. She masks 5 before the first cas, takes PENDING away by G4 before the second, and by another service
-- LINKED before the third
abbrev pub longest_raise : List Step
longest_raise =
    step.Hypervisor (Raise (port_at 9)) ∷ x ∷ x ∷ x ∷ mask 5 ∷ x ∷ x ∷ g ∷ x ∷ step.Guest Service ∷ g ∷ g ∷ g ∷ x ∷ x ∷ x ∷ x ∷ []

-- that service ends, and the next one takes 9
abbrev pub longest_service : List Step
longest_service = g ∷ step.Guest Service ∷ g ∷ g ∷ g ∷ g ∷ g ∷ []

abbrev pub longest : List Step
longest = opening ++ taken_and_raised ++ longest_raise ++ longest_service

-- lent words of 1, and behind a page any others; entries up to port 9
abbrev pub start : List ℕ → World
start rest = fresh_world (replicate 1024 1 ++ rest) 10

pub record LengthsReached (rest : List ℕ) : Type 0 where
  pub rules : KeepsDocumentRules link_bits false (start rest) longest
  pub calls : call_accesses 0 (exec_all link_bits (start rest) longest).events ≡ 10
  pub services : service_accesses 0 (exec_all link_bits (start rest) longest).events ≡ 5

-- ---- the claim refuses longer ones, whatever the call, the access and the word seen

abbrev pub call_access : Call → Access → ℕ → Stage → Event
call_access c a seen s = HypervisorAccess (record { owner = c.owner; stage = s; port = c.port; queue = c.queue; word = c.word; tries = c.tries; count = c.count }) a seen

abbrev pub service_access : GuestCall → Access → ℕ → GuestStage → Event
service_access c a seen s = GuestAccess (record { stage = s; port = c.port; queue = c.queue; count = c.count }) a seen

-- a call with eleven accesses, of which ten come after its first; a service with six
module _ (a : Access) (seen : ℕ) where
  pub record LongerRefused : Type 0 where
    pub call : (c : Call) (s : Stage) → is_first s ≡ false → Lengths (call_access c a seen stage.First ∷ replicate 10 (call_access c a seen s)) → ⊥
    pub service : (c : GuestCall) (s : GuestStage) → is_first_of_service s ≡ false → Lengths (service_access c a seen guest_stage.G0 ∷ replicate 5 (service_access c a seen s)) → ⊥
