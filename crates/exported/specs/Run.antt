-- The exported functions run on bytes: a step calls one of them, or makes the access that a call waits for, as `performed` says, and
-- hands its word back. What is read and written is bytes; what happens is told by the results alone. n is the number of link bits.
-- Assumes nothing.
use Rattle.std.specs.Prelude.{ℕ, ◌≤◌, ◌≡◌, cond, List, [], ◌∷◌, ◌++◌, map, length, replicate, eqb}
use Rattle.word.specs.declared.Port.{Port}
use Rattle.word.specs.Word.{port_at}
use Rattle.word.specs.Entry.{priority_at}
use Rattle.calls.specs.declared.types.Answer.TheVariants.{Done}
use Rattle.calls.specs.declared.types.Next.{Next}
use Rattle.calls.specs.declared.types.Next.TheVariants as next
use Rattle.machine.specs.Memory.{Memory, memory, performed, zero_page}
use Rattle.machine.specs.Exec.{World, Stepped, list_of, hypervisor_answer, guest_answer, guest_access, exec_all}
use Rattle.machine.specs.declared.types.Side.TheVariants as side
use Rattle.machine.specs.declared.types.Start.{Start}
use Rattle.machine.specs.declared.types.Start.TheVariants.{InitControl, ExpandArray, Bind, Close, SetPriority, Raise, Unmask}
use Rattle.machine.specs.declared.types.GuestStart.{GuestStart}
use Rattle.machine.specs.declared.types.GuestStart.TheVariants.{Service, Mask, ClearMask, Tell}
use Rattle.machine.specs.declared.types.Step.{Step}
use Rattle.machine.specs.declared.types.Step.TheVariants as step
use Rattle.machine.specs.declared.types.Event.{Event}
use Rattle.machine.specs.declared.types.Event.TheVariants.{Nothing, HypervisorAccess, MaskAccess, GuestAnswer}
use Rattle.evtchn_fifo.specs.Numbers.{narrow}
use Rattle.evtchn_fifo.specs.Encoded.{Wrote, Carried, carried}
use Rattle.evtchn_fifo.specs.Ledger.{ledger_at, fresh_ledger_bytes}
use Rattle.evtchn_fifo.specs.DomainRecord.{domain_size, domain_at, pages_at}
use Rattle.evtchn_fifo.specs.GuestRecord.{guest_size, guest_at, words_at}
use Rattle.evtchn_fifo.specs.Hypervisor.{init_bytes, expand_bytes, bind_bytes, close_bytes, set_priority_bytes, raise_bytes, unmask_bytes, reply_bytes, due_bytes, fresh_domain_bytes}
use Rattle.evtchn_fifo.specs.Guest.{service_bytes, mask_bytes, tell_bytes, fresh_guest_bytes}
use Rattle.evtchn_fifo.specs.ClearMask.{clear_mask_bytes, guest_reply_bytes, guest_due_bytes}
use Rattle.exported.specs.Decoded.{decoded_next}

-- ---- what C has

-- a domain's record, its ledger, a guest's record, and the memory that both sides share
pub record Bytes : Type 0 where
  pub domain : List ℕ
  pub ledger : List ℕ
  pub guest : List ℕ
  pub memory : Memory

-- the world that they are
abbrev pub world_of : Bytes → World
world_of b = record { domain = domain_at b.domain; ledger = ledger_at b.ledger; guest = guest_at b.guest; memory = b.memory }

-- bytes made fresh, whatever they held, and a zeroed control block
abbrev pub fresh_bytes : List ℕ → List ℕ → List ℕ → List ℕ → Bytes
fresh_bytes r t g lent = record {
  domain = (fresh_domain_bytes r).record_bytes;
  ledger = (fresh_ledger_bytes t).record_bytes;
  guest = (fresh_guest_bytes g).record_bytes;
  memory = memory lent (replicate 18 0);
}

-- bytes after a step, and what happened in it
pub record SteppedBytes : Type 0 where
  pub bytes : Bytes
  pub events : List Event

abbrev pub stepped : SteppedBytes → Stepped
stepped s = record { world = world_of s.bytes; events = s.events }

-- ---- the hypervisor's part

-- what a call leaves and gives, the access made before, and the memory
abbrev pub hypervisor_did : Bytes → Carried → Event → Memory → SteppedBytes
hypervisor_did b c access m = record {
  bytes = record { domain = c.record_bytes; ledger = c.ledger_bytes; guest = b.guest; memory = m };
  events = list_of access ++ list_of (hypervisor_answer (decoded_next c.next));
}

-- a call that is lent no ledger leaves it
abbrev pub ledger_kept : List ℕ → Wrote → Carried
ledger_kept t w = carried w.next w.record_bytes t

unfoldable pub start_bytes : ℕ → List ℕ → List ℕ → Start → Carried
start_bytes n r t (InitControl vcpu frame frames offset) = ledger_kept t (init_bytes n r vcpu frame frames offset)
start_bytes n r t (ExpandArray frame frames) = ledger_kept t (expand_bytes n r frame frames)
start_bytes n r t (Bind p) = bind_bytes n r t p.0
start_bytes n r t (Close p) = close_bytes n r t p.0
start_bytes n r t (SetPriority p level) = set_priority_bytes n r t p.0 level.0
start_bytes n r t (Raise p) = raise_bytes n r t p.0
start_bytes n r t (Unmask p) = unmask_bytes n r t p.0

-- the host zeroes the page of an expand that answers 0
abbrev pub words_after : ℕ → List ℕ → List ℕ → Start → List ℕ
words_after n r ws (InitControl vcpu frame frames offset) = ws
words_after n r ws (ExpandArray frame frames) = cond (eqb (expand_bytes n r frame frames).next.code 0) (zero_page (pages_at r) ws) ws
words_after n r ws (Bind p) = ws
words_after n r ws (Close p) = ws
words_after n r ws (SetPriority p level) = ws
words_after n r ws (Raise p) = ws
words_after n r ws (Unmask p) = ws

abbrev pub start_did : ℕ → Bytes → Start → SteppedBytes
start_did n b s = hypervisor_did b (start_bytes n b.domain b.ledger s) Nothing (memory (words_after n b.domain b.memory.words s) b.memory.block)

-- the access that is due is made and its word handed back; where no call is under way, 0 is
abbrev pub perform_hypervisor : ℕ → Bytes → Next → SteppedBytes
perform_hypervisor n b (next.Access a) =
    hypervisor_did b (reply_bytes n b.domain b.ledger (performed b.memory a).seen) (HypervisorAccess (domain_at b.domain).call a (performed b.memory a).seen) (performed b.memory a).memory
perform_hypervisor n b (next.Answer a count) = hypervisor_did b (reply_bytes n b.domain b.ledger 0) Nothing b.memory

-- ---- the guest's part

abbrev pub guest_did : Bytes → Wrote → Event → Memory → SteppedBytes
guest_did b w access m = record {
  bytes = record { domain = b.domain; ledger = b.ledger; guest = w.record_bytes; memory = m };
  events = list_of access ++ list_of (guest_answer (decoded_next w.next));
}

abbrev pub perform_guest : ℕ → Bytes → Next → SteppedBytes
perform_guest n b (next.Access a) =
    guest_did b (guest_reply_bytes n b.guest (performed b.memory a).seen) (guest_access (guest_at b.guest) a (performed b.memory a).seen) (performed b.memory a).memory
perform_guest n b (next.Answer a count) = guest_did b (guest_reply_bytes n b.guest 0) Nothing b.memory

-- a mask's access says its answer 0 and its count 1, and takes no reply
abbrev pub perform_mask : Bytes → Next → SteppedBytes
perform_mask b (next.Access a) = record {
  bytes = record { domain = b.domain; ledger = b.ledger; guest = b.guest; memory = (performed b.memory a).memory };
  events = MaskAccess a (performed b.memory a).seen ∷ GuestAnswer Done 1 ∷ [];
}
perform_mask b (next.Answer a count) = record { bytes = b; events = GuestAnswer a count ∷ [] }

abbrev pub guest_start_did : ℕ → Bytes → GuestStart → SteppedBytes
guest_start_did n b Service = guest_did b (service_bytes n b.guest) Nothing b.memory
guest_start_did n b (Mask p) = perform_mask b (decoded_next (mask_bytes n p.0 (words_at b.guest)))
guest_start_did n b (ClearMask p) = guest_did b (clear_mask_bytes n b.guest p.0) Nothing b.memory
guest_start_did n b (Tell words) = guest_did b (tell_bytes b.guest words) Nothing b.memory

-- ---- a step, a list of steps

unfoldable pub step_bytes : ℕ → Bytes → Step → SteppedBytes
step_bytes n b (step.Hypervisor s) = start_did n b s
step_bytes n b (step.Guest s) = guest_start_did n b s
step_bytes n b (step.Perform side.Hypervisor) = perform_hypervisor n b (decoded_next (due_bytes n b.domain))
step_bytes n b (step.Perform side.Guest) = perform_guest n b (decoded_next (guest_due_bytes n b.guest))
step_bytes n b (step.HandBack side.Hypervisor word) = hypervisor_did b (reply_bytes n b.domain b.ledger word) Nothing b.memory
step_bytes n b (step.HandBack side.Guest word) = guest_did b (guest_reply_bytes n b.guest word) Nothing b.memory

unfoldable pub run_bytes : ℕ → Bytes → List Step → SteppedBytes
run_bytes n b [] = record { bytes = b; events = [] }
run_bytes n b (s ∷ ss) = record { bytes = (run_bytes n (step_bytes n b s).bytes ss).bytes; events = (step_bytes n b s).events ++ (run_bytes n (step_bytes n b s).bytes ss).events }

-- ---- the same list of steps

-- C's numbers have 64 bits: the step that a step with such numbers is
abbrev pub narrow_port : Port → Port
narrow_port p = port_at (narrow p.0)

abbrev pub narrow_start : Start → Start
narrow_start (InitControl vcpu frame frames offset) = InitControl (narrow vcpu) frame frames (narrow offset)
narrow_start (ExpandArray frame frames) = ExpandArray frame frames
narrow_start (Bind p) = Bind (narrow_port p)
narrow_start (Close p) = Close (narrow_port p)
narrow_start (SetPriority p level) = SetPriority (narrow_port p) (priority_at (narrow level.0))
narrow_start (Raise p) = Raise (narrow_port p)
narrow_start (Unmask p) = Unmask (narrow_port p)

abbrev pub narrow_step : Step → Step
narrow_step (step.Hypervisor s) = step.Hypervisor (narrow_start s)
narrow_step (step.Guest Service) = step.Guest Service
narrow_step (step.Guest (Mask p)) = step.Guest (Mask (narrow_port p))
narrow_step (step.Guest (ClearMask p)) = step.Guest (ClearMask (narrow_port p))
narrow_step (step.Guest (Tell words)) = step.Guest (Tell (narrow words))
narrow_step (step.Perform s) = step.Perform s
narrow_step (step.HandBack s word) = step.HandBack s word

-- records that are long enough
pub record LongEnough (b : Bytes) : Type 0 where
  pub domain : domain_size ≤ length b.domain
  pub guest : guest_size ≤ length b.guest

-- a run of the exported functions is the machine's: records, ledger, memory, accesses, words seen, answers, counts
abbrev pub RunsAreSteps : ℕ → Type 0
RunsAreSteps n = (b : Bytes) (steps : List Step) → LongEnough b → stepped (run_bytes n b steps) ≡ exec_all n (world_of b) (map narrow_step steps)
