-- The stepped machine: what a step makes of the world, and what happens in it. The calls are the very definitions that
-- their code is proved equal to. n is the number of link bits.
-- Assumes nothing.
use Rattle.std.specs.Prelude.{Result, Ok, Err, ℕ, zero, suc, Bool, true, false, cond, List, [], ◌∷◌, ◌++◌, ltb}
use Rattle.word.specs.declared.Port.{Port}
use Rattle.calls.specs.declared.types.Access.{Access}
use Rattle.calls.specs.declared.types.Next.{Next}
use Rattle.calls.specs.declared.types.Next.TheVariants as next
use Rattle.calls.specs.declared.types.Made.{Made}
use Rattle.calls.specs.declared.types.Refused.{Refused}
use Rattle.calls.specs.declared.types.Domain.{Domain}
use Rattle.calls.specs.declared.types.Outcome.{Outcome}
use Rattle.calls.specs.declared.types.Guest.{Guest}
use Rattle.calls.specs.declared.types.GuestOutcome.{GuestOutcome}
use Rattle.calls.specs.Hypervisor.{Turn, init_control, expand_array, bind_start, close_start, set_priority, raise_start, unmask_start, reply_of, due_of}
use Rattle.calls.specs.Records.{is_clearing}
use Rattle.calls.specs.Guest.{service_start, mask_of, tell_of}
use Rattle.calls.specs.ClearMask.{clear_mask_start, guest_reply, guest_due_of}
use Rattle.machine.specs.Memory.{Memory, memory, performed, zero_page}
use Rattle.machine.specs.declared.types.Side.{Side}
use Rattle.machine.specs.declared.types.Side.TheVariants as side
use Rattle.machine.specs.declared.types.Start.{Start}
use Rattle.machine.specs.declared.types.Start.TheVariants.{InitControl, ExpandArray, Bind, Close, SetPriority, Raise, Unmask}
use Rattle.machine.specs.declared.types.GuestStart.{GuestStart}
use Rattle.machine.specs.declared.types.GuestStart.TheVariants.{Service, Mask, ClearMask, Tell}
use Rattle.machine.specs.declared.types.Step.{Step}
use Rattle.machine.specs.declared.types.Step.TheVariants as step
use Rattle.machine.specs.declared.types.Event.{Event}
use Rattle.machine.specs.declared.types.Event.TheVariants.{Nothing, HypervisorAccess, GuestAccess, ClearAccess, MaskAccess, HypervisorAnswer, GuestAnswer}
use Rattle.machine.specs.declared.types.Part.{Part}
use Rattle.machine.specs.declared.types.Sides.{Sides}
use Rattle.machine.specs.declared.types.Advance.{Advance}

-- ---- the world of one domain, and a step's events

pub record World : Type 0 where
  pub domain : Domain
  pub ledger : List ℕ
  pub guest : Guest
  pub memory : Memory

pub record Stepped : Type 0 where
  pub world : World
  pub events : List Event

abbrev pub list_of : Event → List Event
list_of Nothing = []
list_of (HypervisorAccess c a seen) = HypervisorAccess c a seen ∷ []
list_of (GuestAccess c a seen) = GuestAccess c a seen ∷ []
list_of (ClearAccess c a seen) = ClearAccess c a seen ∷ []
list_of (MaskAccess a seen) = MaskAccess a seen ∷ []
list_of (HypervisorAnswer a count) = HypervisorAnswer a count ∷ []
list_of (GuestAnswer a count) = GuestAnswer a count ∷ []

-- the world of code's records and slices
abbrev pub world : Sides → List ℕ → Memory → World
world s ledger m = record { domain = s.domain; ledger = ledger; guest = s.guest; memory = m }

-- a step as code gives it, with the ledger and the memory afterwards
pub record Advanced : Type 0 where
  pub advance : Advance
  pub ledger : List ℕ
  pub memory : Memory

abbrev pub advanced : Advance → List ℕ → Memory → Advanced
advanced a ledger m = record { advance = a; ledger = ledger; memory = m }

abbrev pub world_after : Advanced → World
world_after a = world a.advance.sides a.ledger a.memory

abbrev pub step_of : Advanced → Stepped
step_of a = record { world = world_after a; events = list_of a.advance.access ++ list_of a.advance.answer }

-- the answer that a call or reply gives, if it gives one
abbrev pub hypervisor_answer : Next → Event
hypervisor_answer (next.Access a) = Nothing
hypervisor_answer (next.Answer a count) = HypervisorAnswer a count

abbrev pub guest_answer : Next → Event
guest_answer (next.Access a) = Nothing
guest_answer (next.Answer a count) = GuestAnswer a count

abbrev pub answer_event : Side → Next → Event
answer_event side.Hypervisor x = hypervisor_answer x
answer_event side.Guest x = guest_answer x

abbrev pub hypervisor_advance : Part Outcome → Guest → Advance
hypervisor_advance t g = record { sides = record { domain = t.outcome.domain; guest = g }; access = t.access; answer = hypervisor_answer t.outcome.next }

abbrev pub guest_advance : Part GuestOutcome → Domain → Advance
guest_advance t d = record { sides = record { domain = d; guest = t.outcome.guest }; access = t.access; answer = guest_answer t.outcome.next }

-- ---- the hypervisor's part in a step

pub record HypervisorDid : Type 0 where
  pub turn : Part Outcome
  pub ledger : List ℕ
  pub memory : Memory

abbrev pub hypervisor_did : Part Outcome → List ℕ → Memory → HypervisorDid
hypervisor_did t ledger m = record { turn = t; ledger = ledger; memory = m }

-- an expand that adds a page zeroes it
pub record Expanded : Type 0 where
  pub outcome : Outcome
  pub words : List ℕ

abbrev pub expand_did : Outcome → List ℕ → Expanded
expand_did o ws = record { outcome = o; words = ws }

abbrev pub page_added : Domain → Outcome → List ℕ → List ℕ
page_added d o ws = cond (ltb d.pages o.domain.pages) (zero_page d.pages ws) ws

unfoldable pub expand_of : ℕ → Domain → List ℕ → ℕ → ℕ → Expanded
expand_of n d ws frame frames = expand_did (expand_array n d frame frames) (page_added d (expand_array n d frame frames) ws)

pub record Started : Type 0 where
  pub outcome : Outcome
  pub ledger : List ℕ
  pub words : List ℕ

abbrev pub started : Outcome → List ℕ → List ℕ → Started
started o ledger ws = record { outcome = o; ledger = ledger; words = ws }

abbrev pub turned : Turn → List ℕ → Started
turned t ws = started t.outcome t.ledger ws

unfoldable pub start_of : ℕ → Domain → List ℕ → List ℕ → Start → Started
start_of n d ledger ws (InitControl vcpu frame frames offset) = started (init_control n d vcpu frame frames offset) ledger ws
start_of n d ledger ws (ExpandArray frame frames) = started (expand_of n d ws frame frames).outcome ledger (expand_of n d ws frame frames).words
start_of n d ledger ws (Bind p) = turned (bind_start n d ledger p) ws
start_of n d ledger ws (Close p) = turned (close_start n d ledger p) ws
start_of n d ledger ws (SetPriority p r) = turned (set_priority n d ledger p r) ws
start_of n d ledger ws (Raise p) = turned (raise_start n d ledger p) ws
start_of n d ledger ws (Unmask p) = turned (unmask_start n d ledger p) ws

-- the access that is due is made and replied to; where no call is under way, the reply is given alone
abbrev pub hypervisor_replied : Turn → Event → Memory → HypervisorDid
hypervisor_replied t access m = hypervisor_did (record { outcome = t.outcome; access = access }) t.ledger m

abbrev pub perform_hypervisor_next : ℕ → Domain → List ℕ → Memory → Next → HypervisorDid
perform_hypervisor_next n d ledger m (next.Access a) =
    hypervisor_replied (reply_of n d ledger (performed m a).seen) (HypervisorAccess d.call a (performed m a).seen) (performed m a).memory
perform_hypervisor_next n d ledger m (next.Answer a count) = hypervisor_replied (reply_of n d ledger 0) Nothing m

unfoldable pub perform_hypervisor : ℕ → Domain → List ℕ → Memory → HypervisorDid
perform_hypervisor n d ledger m = perform_hypervisor_next n d ledger m (due_of n d)

-- ---- the guest's part

pub record GuestDid : Type 0 where
  pub turn : Part GuestOutcome
  pub memory : Memory

abbrev pub guest_did : Part GuestOutcome → Memory → GuestDid
guest_did t m = record { turn = t; memory = m }

abbrev pub guest_replied : GuestOutcome → Event → Memory → GuestDid
guest_replied o access m = guest_did (record { outcome = o; access = access }) m

-- her access: the clear_mask's while one is under way, else the service's
unfoldable pub guest_access : Guest → Access → ℕ → Event
guest_access g a seen = cond (is_clearing g.clear.stage) (ClearAccess g.clear a seen) (GuestAccess g.call a seen)

abbrev pub perform_guest_next : ℕ → Guest → Memory → Next → GuestDid
perform_guest_next n g m (next.Access a) = guest_replied (guest_reply n g (performed m a).seen) (guest_access g a (performed m a).seen) (performed m a).memory
perform_guest_next n g m (next.Answer a count) = guest_replied (guest_reply n g 0) Nothing m

unfoldable pub perform_guest : ℕ → Guest → Memory → GuestDid
perform_guest n g m = perform_guest_next n g m (guest_due_of n g)

-- a mask with its access
abbrev pub perform_masking : Guest → Memory → Result Made Refused → GuestDid
perform_masking g m (Err r) = guest_replied (record { guest = g; next = next.Answer r.answer r.count }) Nothing m
perform_masking g m (Ok x) =
    guest_replied (record { guest = g; next = next.Answer x.answer x.count }) (MaskAccess x.access (performed m x.access).seen) (performed m x.access).memory

unfoldable pub perform_mask : ℕ → Guest → Memory → Port → GuestDid
perform_mask n g m p = perform_masking g m (mask_of n p g.words)

unfoldable pub guest_start_of : ℕ → Guest → Memory → GuestStart → GuestDid
guest_start_of n g m Service = guest_replied (service_start n g) Nothing m
guest_start_of n g m (Mask p) = perform_mask n g m p
guest_start_of n g m (ClearMask p) = guest_replied (clear_mask_start n g p) Nothing m
guest_start_of n g m (Tell words) = guest_replied (tell_of g words) Nothing m

-- ---- a step

abbrev pub hypervisor_step : World → HypervisorDid → Advanced
hypervisor_step w did = advanced (hypervisor_advance did.turn w.guest) did.ledger did.memory

abbrev pub guest_step : World → GuestDid → Advanced
guest_step w did = advanced (guest_advance did.turn w.domain) w.ledger did.memory

abbrev pub start_step : World → Started → Advanced
start_step w s = advanced (hypervisor_advance (record { outcome = s.outcome; access = Nothing }) w.guest) s.ledger (memory s.words w.memory.block)

unfoldable pub perform_side : ℕ → World → Side → Advanced
perform_side n w side.Hypervisor = hypervisor_step w (perform_hypervisor n w.domain w.ledger w.memory)
perform_side n w side.Guest = guest_step w (perform_guest n w.guest w.memory)

-- a reply alone leaves the memory
pub record Replied : Type 0 where
  pub advance : Advance
  pub ledger : List ℕ

abbrev pub replied : Advance → List ℕ → Replied
replied a ledger = record { advance = a; ledger = ledger }

unfoldable pub hand_back : ℕ → Domain → Guest → List ℕ → Side → ℕ → Replied
hand_back n d g ledger side.Hypervisor word =
    replied (hypervisor_advance (record { outcome = (reply_of n d ledger word).outcome; access = Nothing }) g) (reply_of n d ledger word).ledger
hand_back n d g ledger side.Guest word = replied (guest_advance (record { outcome = guest_reply n g word; access = Nothing }) d) ledger

abbrev pub hand_back_step : World → Replied → Advanced
hand_back_step w r = advanced r.advance r.ledger w.memory

unfoldable pub advance_of : ℕ → World → Step → Advanced
advance_of n w (step.Hypervisor s) = start_step w (start_of n w.domain w.ledger w.memory.words s)
advance_of n w (step.Guest s) = guest_step w (guest_start_of n w.guest w.memory s)
advance_of n w (step.Perform s) = perform_side n w s
advance_of n w (step.HandBack s word) = hand_back_step w (hand_back n w.domain w.guest w.ledger s word)

abbrev pub exec : ℕ → World → Step → Stepped
exec n w s = step_of (advance_of n w s)

-- an access with its reply, or a reply alone
abbrev pub is_reply_step : Step → Bool
is_reply_step (step.Hypervisor s) = false
is_reply_step (step.Guest s) = false
is_reply_step (step.Perform s) = true
is_reply_step (step.HandBack s word) = true

-- the memory after events: as the accesses among them leave it
abbrev pub memory_after : Memory → List Event → Memory
memory_after m [] = m
memory_after m (Nothing ∷ es) = memory_after m es
memory_after m (HypervisorAccess c a seen ∷ es) = memory_after (performed m a).memory es
memory_after m (GuestAccess c a seen ∷ es) = memory_after (performed m a).memory es
memory_after m (ClearAccess c a seen ∷ es) = memory_after (performed m a).memory es
memory_after m (MaskAccess a seen ∷ es) = memory_after (performed m a).memory es
memory_after m (HypervisorAnswer a count ∷ es) = memory_after m es
memory_after m (GuestAnswer a count ∷ es) = memory_after m es

-- ---- lists of steps

-- the world after a list of steps, and its history: the events in their order
unfoldable pub exec_all : ℕ → World → List Step → Stepped
exec_all n w [] = record { world = w; events = [] }
exec_all n w (s ∷ ss) = record { world = (exec_all n (exec n w s).world ss).world; events = (exec n w s).events ++ (exec_all n (exec n w s).world ss).events }

-- ---- a whole call

abbrev pub is_answer : Event → Bool
is_answer Nothing = false
is_answer (HypervisorAccess c a seen) = false
is_answer (GuestAccess c a seen) = false
is_answer (ClearAccess c a seen) = false
is_answer (MaskAccess a seen) = false
is_answer (HypervisorAnswer a count) = true
is_answer (GuestAnswer a count) = true

pub record Ran : Type 0 where
  pub world : World
  pub answer : Event

abbrev pub ran : World → Event → Ran
ran w e = record { world = w; answer = e }

-- a side's accesses until an answer comes, at most `budget` of them; no answer where the budget is spent
unfoldable pub run_of : ℕ → ℕ → World → Side → Ran
run_of n zero w s = ran w Nothing
run_of n (suc budget) w s =
    cond (is_answer (perform_side n w s).advance.answer) (ran (world_after (perform_side n w s)) (perform_side n w s).advance.answer)
    (run_of n budget (world_after (perform_side n w s)) s)
