-- Demand 3 is not vacuous, nor is the claim on BUSY: a list of steps that keeps document 01's rules, with steps of every kind in it,
-- and what it comes to.
-- Assumes nothing.
use Rattle.std.specs.Prelude.{ℕ, ◌+◌, ◌^◌, ◌≤◌, ◌<◌, ◌≡◌, true, false, cond, List, [], ◌∷◌, ◌++◌, length, replicate}
use Rattle.word.specs.declared.Flag.TheVariants.{Pending, Masked, Linked, Busy}
use Rattle.word.specs.Word.{link_bits, has, port_at}
use Rattle.word.specs.Entry.{priority_at}
use Rattle.calls.specs.declared.types.Answer.TheVariants.{Done, CallUnderWay, NoCall, CallUnmask}
use Rattle.machine.specs.Exec.{World, Stepped, is_answer, exec, exec_all}
use Rattle.machine.specs.declared.types.Side.TheVariants as side
use Rattle.machine.specs.declared.types.Start.TheVariants.{InitControl, ExpandArray, Bind, Close, SetPriority, Raise, Unmask}
use Rattle.machine.specs.declared.types.GuestStart.TheVariants.{Service, Mask, ClearMask, Tell}
use Rattle.machine.specs.declared.types.Step.{Step}
use Rattle.machine.specs.declared.types.Step.TheVariants as step
use Rattle.machine.specs.declared.types.Event.{Event}
use Rattle.machine.specs.declared.types.Event.TheVariants.{HypervisorAnswer, GuestAnswer}
use Rattle.interleaving.specs.Fresh.{fresh_world, word_at}
use Rattle.interleaving.specs.Rules.{KeepsDocumentRules}
use Rattle.interleaving.specs.Histories.{taken_in, given_out}
use Rattle.interleaving.specs.Standing.{Standing}
use Rattle.interleaving.specs.Held.{HeldByLinker, HeldByGuest}
use Rattle.interleaving.specs.Claim.{Rest, Claim}
use Rattle.interleaving.specs.Busy.{HasSetBusy}

-- ---- steps in short

-- an access of the hypervisor's call, of the guest's service or clear_mask, with its reply
abbrev pub x : Step
x = step.Perform side.Hypervisor

abbrev pub g : Step
g = step.Perform side.Guest

abbrev pub tell : ℕ → Step
tell words = step.Guest (Tell words)

abbrev pub mask : ℕ → Step
mask p = step.Guest (Mask (port_at p))

abbrev pub clear_mask : ℕ → Step
clear_mask p = step.Guest (ClearMask (port_at p))

abbrev pub bind : ℕ → List Step
bind p = step.Hypervisor (Bind (port_at p)) ∷ x ∷ []

-- ---- the list, in parts

-- a page, of which she is told half and then all; port 5 is bound, and its raise has made R1 and R2
abbrev pub linking : List Step
linking =
    step.Hypervisor (InitControl 0 1 4 0) ∷ step.Hypervisor (ExpandArray 2 4) ∷ tell 512 ∷ tell 1024
    ∷ bind 5 ++ step.Hypervisor (Raise (port_at 5)) ∷ x ∷ x ∷ []

-- a start during that raise and a guest's reply to nothing are refused; the raise ends, and port 9 is raised behind 5
abbrev pub refused_start : Step
refused_start = step.Hypervisor (Bind (port_at 9))

abbrev pub refused_reply : Step
refused_reply = step.HandBack side.Guest 0x80

abbrev pub raising : List Step
raising = refused_start ∷ refused_reply ∷ x ∷ x ∷ bind 9 ++ step.Hypervisor (Raise (port_at 9)) ∷ x ∷ x ∷ x ∷ x ∷ []

-- 5 is served, masked and raised, which leaves it pending; the unmask links it behind 9
abbrev pub unmasking : List Step
unmasking =
    step.Guest Service ∷ g ∷ g ∷ g ∷ g ∷ g ∷ mask 5 ∷ step.Hypervisor (Raise (port_at 5)) ∷ x
    ∷ step.Hypervisor (Unmask (port_at 5)) ∷ x ∷ x ∷ x ∷ x ∷ []

-- a second page, whose port 1030 is raised with priority 3
abbrev pub expanding : List Step
expanding =
    step.Hypervisor (ExpandArray 3 4) ∷ tell 2048 ∷ bind 1030
    ++ step.Hypervisor (SetPriority (port_at 1030) (priority_at 3)) ∷ step.Hypervisor (Raise (port_at 1030)) ∷ x ∷ x ∷ x ∷ x ∷ []

-- she masks 12 and clears its MASKED by a clear_mask, during which a service is refused
abbrev pub clearing : List Step
clearing = mask 12 ∷ clear_mask 12 ∷ step.Guest Service ∷ g ∷ g ∷ []

-- 12 is raised behind 1030; she masks 1030 after R3, so that the first cas is not taken, and BUSY is set
abbrev pub marking : List Step
marking =
    bind 12 ++ step.Hypervisor (SetPriority (port_at 12) (priority_at 3)) ∷ step.Hypervisor (Raise (port_at 12)) ∷ x ∷ x ∷ x ∷ mask 1030
    ∷ x ∷ x ∷ []

-- the second cas is taken; a clear_mask of 1030, which is pending, leaves its MASKED to an unmask
abbrev pub leaving : List Step
leaving = x ∷ clear_mask 1030 ∷ g ∷ step.Hypervisor (Unmask (port_at 1030)) ∷ x ∷ []

-- 1030 is served first, and closed; 12 is served
abbrev pub serving : List Step
serving = step.Guest Service ∷ g ∷ g ∷ g ∷ g ∷ g ∷ step.Hypervisor (Close (port_at 1030)) ∷ x ∷ step.Guest Service ∷ g ∷ g ∷ g ∷ g ∷ []

-- 9 is served, and of 5's service G0 and G2 are made
abbrev pub holding : List Step
holding = step.Guest Service ∷ g ∷ g ∷ g ∷ g ∷ step.Guest Service ∷ g ∷ g ∷ []

-- that service ends, and another finds nothing
abbrev pub ending : List Step
ending = g ∷ g ∷ step.Guest Service ∷ g ∷ []

-- both are raised; the second page is there; BUSY stands; 5 is taken
abbrev pub raised : List Step
raised = linking ++ raising

abbrev pub grown : List Step
grown = raised ++ unmasking ++ expanding

abbrev pub marked : List Step
marked = grown ++ clearing ++ marking

abbrev pub taking : List Step
taking = marked ++ leaving ++ serving ++ holding

abbrev pub example : List Step
example = taking ++ ending

-- ---- what it comes to

-- lent words of 1, and behind two pages any others; entries up to port 1030
abbrev pub start : List ℕ → World
start rest = fresh_world (replicate 2048 1 ++ rest) 1031

-- the answers among events
abbrev pub answers : List Event → List Event
answers [] = []
answers (e ∷ es) = cond (is_answer e) (e ∷ answers es) (answers es)

-- port p is pending and not masked, and no port stands on a queue
pub record OnNoQueue (w : World) (p : ℕ) : Type 0 where
  pub pending : has Pending (word_at w p) ≡ true
  pub unmasked : has Masked (word_at w p) ≡ false
  pub empty : (q : ℕ) → q < 16 → Standing link_bits w q []

module _ (rest : List ℕ) where
  abbrev pub after : List Step → Stepped
  after steps = exec_all link_bits (start rest) steps

  pub record ExampleHolds : Type 0 where
    pub rules : KeepsDocumentRules link_bits false (start rest) example
    -- the raises of 5 and 9 and the unmask of 5 are taken in, and given out, in that order
    pub taken : taken_in 7 (after example).events ≡ 5 ∷ 9 ∷ 5 ∷ []
    pub given : given_out 7 (after example).events ≡ 5 ∷ 9 ∷ 5 ∷ []
    pub taken_3 : taken_in 3 (after example).events ≡ 1030 ∷ 12 ∷ []
    pub given_3 : given_out 3 (after example).events ≡ 1030 ∷ 12 ∷ []
    pub at_rest : Rest (after example).world
    -- on a queue: 5 and then 9
    pub standing : Standing link_bits (after raised).world 7 (5 ∷ 9 ∷ [])
    -- or held: 5, which the raise has linked, and which the service has taken
    pub held_by_raise : OnNoQueue (after linking).world 5 × (has Linked (word_at (after linking).world 5) ≡ true) × HeldByLinker (after linking).world.domain.call 5
    pub held_by_service : OnNoQueue (after taking).world 5 × HeldByGuest (after taking).world.guest.call 5
    -- the mask, the refused service, the clear_mask with its two accesses
    pub cleared : answers (exec_all link_bits (after grown).world clearing).events ≡ GuestAnswer Done 1 ∷ GuestAnswer CallUnderWay 0 ∷ GuestAnswer Done 2 ∷ []
    -- BUSY stands in the word of 1030, behind which 12 is to be linked
    pub busy : HasSetBusy (after marked).world 1030 × (has Busy (word_at (after marked).world 1030) ≡ true)
    -- the raise of 12, with its six accesses; the clear_mask of 1030; the unmask
    pub left : answers (exec_all link_bits (after marked).world leaving).events ≡ HypervisorAnswer Done 6 ∷ GuestAnswer CallUnmask 1 ∷ HypervisorAnswer Done 1 ∷ []
    -- the refusals
    pub fifteen : (exec link_bits (after linking).world refused_start).events ≡ HypervisorAnswer CallUnderWay 0 ∷ []
    pub sixteen : (exec link_bits (after linking).world refused_reply).events ≡ GuestAnswer NoCall 0 ∷ []

-- so the claim's terms can be met, and it holds of the list
abbrev pub ExampleClaim : Type 0
ExampleClaim = (rest : List ℕ) → 2 ^ link_bits ≤ 2048 + length rest → Claim link_bits (after rest example).world (after rest example).events
