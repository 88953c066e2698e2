-- T-10's second half is not vacuous: two queues, three ports that stand, and a local bit left over from an earlier service. The lowest ready
-- queue is ready by that bit alone, while READY has a higher one: so "ready" must mean either.
-- Assumes nothing.
use Rattle.std.specs.Prelude.{ℕ, ◌+◌, ◌^◌, ◌≤◌, ◌≡◌, true, false, cond, List, [], ◌∷◌, ◌++◌, eqb, length, replicate}
use Rattle.word.specs.Word.{link_bits, port_at}
use Rattle.word.specs.Ready.{is_ready}
use Rattle.word.specs.Entry.{priority_at}
use Rattle.calls.specs.declared.types.Answer.TheVariants.{HandedOver, NothingReady, Taken}
use Rattle.machine.specs.Exec.{World, exec_all}
use Rattle.machine.specs.declared.types.Start.TheVariants.{InitControl, ExpandArray, SetPriority, Raise}
use Rattle.machine.specs.declared.types.GuestStart.TheVariants.{Service}
use Rattle.machine.specs.declared.types.Step.{Step}
use Rattle.machine.specs.declared.types.Step.TheVariants as step
use Rattle.interleaving.specs.Fresh.{fresh_world}
use Rattle.interleaving.specs.Rules.{Told, NoGuestCall, KeepsDocumentRules}
use Rattle.interleaving.specs.Standing.{ready_word, Standing}
use Rattle.interleaving.specs.Example.{x, g, tell, mask, bind}
use Rattle.interleaving.specs.Progress.{only_services, Whole, services_in, LowestReady, InTurn, Progress}

-- ports 5 and 9 have priority 3, and 12 the default 7
abbrev pub opening : List Step
opening =
    step.Hypervisor (InitControl 0 1 4 0) ∷ step.Hypervisor (ExpandArray 2 4) ∷ tell 1024 ∷ bind 5 ++ bind 9 ++ bind 12
    ++ step.Hypervisor (SetPriority (port_at 5) (priority_at 3)) ∷ step.Hypervisor (SetPriority (port_at 9) (priority_at 3)) ∷ []

-- 5 is raised, and 9 behind it; a service takes 5, and queue 3 keeps its local bit
abbrev pub leaving : List Step
leaving =
    step.Hypervisor (Raise (port_at 5)) ∷ x ∷ x ∷ x ∷ x ∷ step.Hypervisor (Raise (port_at 9)) ∷ x ∷ x ∷ x ∷ x
    ∷ step.Guest Service ∷ g ∷ g ∷ g ∷ g ∷ g ∷ []

-- 12 is raised, and then 5 behind 9, where she masks it
abbrev pub raising : List Step
raising = step.Hypervisor (Raise (port_at 12)) ∷ x ∷ x ∷ x ∷ x ∷ step.Hypervisor (Raise (port_at 5)) ∷ x ∷ x ∷ x ∷ x ∷ mask 5 ∷ []

abbrev pub before : List Step
before = opening ++ leaving ++ raising

-- four services, with a start that is refused with 15 and an access that is refused with 16
abbrev pub serving : List Step
serving =
    step.Guest Service ∷ g ∷ step.Guest Service ∷ g ∷ g ∷ g ∷ g ∷ step.Guest Service ∷ g ∷ g ∷ g
    ∷ step.Guest Service ∷ g ∷ g ∷ g ∷ g ∷ g ∷ step.Guest Service ∷ g ∷ []

-- a service that hands a port over, and one that finds nothing
abbrev pub hands : ℕ → ℕ → Whole
hands made p = record { accesses = made; answer = HandedOver (port_at p) }

abbrev pub idles : Whole
idles = record { accesses = 1; answer = NothingReady }

-- 9 is handed over, 5 is taken, 12 is handed over, and then there is nothing
abbrev pub services : List Whole
services = hands 4 9 ∷ record { accesses = 3; answer = Taken (port_at 5) } ∷ hands 5 12 ∷ idles ∷ []

-- lent words of 1, and behind a page any others; entries up to port 12
abbrev pub start : List ℕ → World
start rest = fresh_world (replicate 1024 1 ++ rest) 13

module _ (rest : List ℕ) where
  abbrev pub stood : World
  stood = (exec_all link_bits (start rest) before).world

  pub record ServedExample : Type 0 where
    -- its terms are met
    pub rules : KeepsDocumentRules link_bits false (start rest) before
    pub told : Told stood
    pub idle : NoGuestCall stood
    pub only : only_services serving ≡ true
    -- 9 and 5 stand on queue 3, 12 on queue 7
    pub three : Standing link_bits stood 3 (9 ∷ 5 ∷ [])
    pub seven : Standing link_bits stood 7 (12 ∷ [])
    pub lowest : LowestReady stood 3
    pub left_over : is_ready 3 stood.guest.ready ≡ true
    pub not_in_ready : is_ready 3 (ready_word stood) ≡ false
    pub in_ready : is_ready 7 (ready_word stood) ≡ true
    pub served : services_in 0 (exec_all link_bits stood serving).events ≡ services

-- ---- the claim refuses other services, where 9 and 5 stand on queue 3 and 12 on queue 7

abbrev pub lists : ℕ → List ℕ
lists q = cond (eqb q 3) (9 ∷ 5 ∷ []) (cond (eqb q 7) (12 ∷ []) [])

module _ (w : World) where
  pub record TurnRefuses : Type 0 where
    -- 5 before 9; 12 before 5; 20 before 5; 21 behind the last
    pub swapped : InTurn w lists (hands 4 5 ∷ hands 4 9 ∷ []) → ⊥
    pub higher_first : InTurn w lists (hands 4 9 ∷ hands 5 12 ∷ []) → ⊥
    pub idle_early : InTurn w lists (hands 4 9 ∷ idles ∷ []) → ⊥
    pub never_idle : InTurn w lists (hands 4 9 ∷ hands 4 5 ∷ hands 5 12 ∷ hands 5 12 ∷ []) → ⊥
    -- six accesses of a service
    pub slow : InTurn w lists (hands 6 9 ∷ []) → ⊥
    -- another queue than the lowest ready one
    pub not_lowest : LowestReady w 7 → InTurn w lists (hands 4 9 ∷ hands 4 5 ∷ hands 5 12 ∷ idles ∷ []) → ⊥

-- so the claim's terms can be met, and it holds
abbrev pub ExampleProgress : Type 0
ExampleProgress = (rest : List ℕ) → 2 ^ link_bits ≤ 1024 + length rest → Progress link_bits (stood rest)
