-- Every step keeps a world's numbers small, and its events show small ones; a fresh world's are small.
-- Assumes nothing.
use Rattle.std.specs.Prelude.{Result, Ok, Err}
use Prim.Native.Nat.{ℕ, ◌^◌, ◌<◌}
use mathlib.Core.Path.{refl}
use mathlib.Core.List.{List, [], ◌∷◌, ◌++◌}
use native.Mathlib.Omega.{arith}
use lib.Dec.{ltb, lit≤}
use Rattle.word.specs.Word.{link_bits, Width, link_bits-width}
use Rattle.calls.specs.declared.types.Answer.TheVariants.{NoCall}
use Rattle.calls.specs.declared.types.Next.{Next}
use Rattle.calls.specs.declared.types.Next.TheVariants as next
use Rattle.calls.specs.declared.types.Made.{Made}
use Rattle.calls.specs.declared.types.Refused.{Refused}
use Rattle.calls.specs.declared.types.Domain.{Domain}
use Rattle.calls.specs.declared.types.Outcome.{Outcome}
use Rattle.calls.specs.declared.types.GuestOutcome.{GuestOutcome}
use Rattle.calls.specs.Answers.{code_of}
use Rattle.calls.specs.Records.{is_clearing}
use Rattle.calls.specs.Guest.{mask_of}
use Rattle.calls.specs.ClearMask.{guest_due_of}
use Rattle.calls.specs.Hypervisor.{due_of, expand_array}
use Rattle.calls.specs.Claims as acts
use Rattle.calls.proofs.Cases.{choose}
use Rattle.machine.specs.declared.types.Side.TheVariants as side
use Rattle.machine.specs.declared.types.Start.{Start}
use Rattle.machine.specs.declared.types.Start.TheVariants.{InitControl, ExpandArray, Bind, Close, SetPriority, Raise, Unmask}
use Rattle.machine.specs.declared.types.GuestStart.TheVariants.{Service, Mask, ClearMask, Tell}
use Rattle.machine.specs.declared.types.Step.{Step}
use Rattle.machine.specs.declared.types.Step.TheVariants as step
use Rattle.machine.specs.declared.types.Event.{Event}
use Rattle.machine.specs.declared.types.Event.TheVariants.{Nothing, HypervisorAccess, GuestAccess, ClearAccess, MaskAccess, HypervisorAnswer, GuestAnswer}
use Rattle.machine.specs.Memory.{Memory, performed}
use Rattle.machine.specs.Exec.{World, advanced, step_of, list_of, hypervisor_answer, guest_answer, hypervisor_advance, guest_advance, hypervisor_step, guest_step, start_step, page_added, turned, expand_of, start_of, perform_hypervisor_next, perform_hypervisor, guest_access, perform_guest_next, perform_guest, perform_masking, perform_mask, guest_start_of, perform_side, hand_back, advance_of, exec, exec_all}
use Rattle.machine.specs.Computes.{runs}
use Rattle.claims.specs.SmallSet.{x}
use Rattle.claims.specs.Numbers.{Small, All, SmallEvent, SmallMemory, SmallWorld, SmallStep, SmallStepped, NumbersStaySmall, RunsStaySmall, FreshIsSmall, start, linking, NumberExamples}
use Rattle.claims.proofs.NumberLaws.{SmallNext, zeros_small, page_small, events_small, answer_small, seen_small, performed_small}
use Rattle.claims.proofs.HypervisorNumbers.{SmallOutcome, idle_call_small, next_small, start_small, reply_small}
use Rattle.claims.proofs.GuestNumbers.{SmallGuestOutcome, SmallMasking, idle_service_small, idle_clear_small, guest_due_small, service_small, clear_mask_small, guest_reply_small, tell_small, mask_small}

-- ---- events

event_small : (e : Event) → SmallEvent e → All SmallEvent (list_of e)
event_small Nothing h = tt
event_small (HypervisorAccess c a seen) h = (h, tt)
event_small (GuestAccess c a seen) h = (h, tt)
event_small (ClearAccess c a seen) h = (h, tt)
event_small (MaskAccess a seen) h = (h, tt)
event_small (HypervisorAnswer a count) h = (h, tt)
event_small (GuestAnswer a count) h = (h, tt)

-- an access, then an answer
both_small : (e f : Event) → SmallEvent e → SmallEvent f → All SmallEvent (list_of e ++ list_of f)
both_small e f h l = events_small (list_of e) (list_of f) (event_small e h) (event_small f l)

hypervisor_answer_small : (x : Next) → SmallNext x → SmallEvent (hypervisor_answer x)
hypervisor_answer_small (next.Access a) h = tt
hypervisor_answer_small (next.Answer a count) h = h

guest_answer_small : (x : Next) → SmallNext x → SmallEvent (guest_answer x)
guest_answer_small (next.Access a) h = tt
guest_answer_small (next.Answer a count) h = h

-- ---- a side's part in a step, with its access and the memory afterwards

module _ (w : World) (i : SmallWorld w) (access : Event) (a : SmallEvent access) (m : Memory) (j : SmallMemory m) where
  by_hypervisor_lem : (o : Outcome) (ledger : List ℕ) → SmallOutcome o → SmallStepped (step_of (advanced (hypervisor_advance (record { outcome = o; access = access }) w.guest) ledger m))
  by_hypervisor_lem o ledger h = record {
    world = record { domain = h.domain; guest = i.guest; memory = j };
    events = both_small access (hypervisor_answer o.next) a (hypervisor_answer_small o.next h.next);
  }

  by_guest_lem : (o : GuestOutcome) → SmallGuestOutcome o → SmallStepped (step_of (advanced (guest_advance (record { outcome = o; access = access }) w.domain) w.ledger m))
  by_guest_lem o h = record {
    world = record { domain = i.domain; guest = h.guest; memory = j };
    events = both_small access (guest_answer o.next) a (guest_answer_small o.next h.next);
  }

-- ---- every step

added_small : (d : Domain) (o : Outcome) (ws : List ℕ) → All Small ws → All Small (page_added d o ws)
added_small d o ws h = choose (All Small) (ltb d.pages o.domain.pages) (page_small d.pages ws h) h

module _ {n : ℕ} (wide : Width n) (w : World) (i : SmallWorld w) where
  begins : (s : acts.Start) (ws : List ℕ) → All Small ws → SmallStepped (step_of (start_step w (turned (acts.start_of n w.domain s w.ledger) ws)))
  begins s ws h = by_hypervisor_lem w i Nothing tt _ (record { words = h; block = i.memory.block }) _ _ (start_small wide w.domain i.domain s w.ledger)

  starts : (s : Start) → SmallStepped (step_of (advance_of n w (step.Hypervisor s)))
  unfolding advance_of start_of expand_of
  starts (InitControl vcpu frame frames offset) = begins (acts.InitControl vcpu frame frames offset) w.memory.words i.memory.words
  starts (ExpandArray frame frames) = begins (acts.ExpandArray frame frames) _ (added_small w.domain (expand_array n w.domain frame frames) w.memory.words i.memory.words)
  starts (Bind p) = begins (acts.Bind p) w.memory.words i.memory.words
  starts (Close p) = begins (acts.Close p) w.memory.words i.memory.words
  starts (SetPriority p r) = begins (acts.SetPriority p r) w.memory.words i.memory.words
  starts (Raise p) = begins (acts.Raise p) w.memory.words i.memory.words
  starts (Unmask p) = begins (acts.Unmask p) w.memory.words i.memory.words

  masks : (x : Result Made Refused) → SmallMasking x → SmallStepped (step_of (guest_step w (perform_masking w.guest w.memory x)))
  masks (Err r) h =
      by_guest_lem w i Nothing tt w.memory i.memory (record { guest = w.guest; next = next.Answer r.answer r.count }) (record { guest = i.guest; next = h })
  masks (Ok y) h =
      by_guest_lem w i (MaskAccess y.access (performed w.memory y.access).seen) (h.0, seen_small w.memory i.memory y.access) _ (performed_small w.memory i.memory y.access h.0)
      (record { guest = w.guest; next = next.Answer y.answer y.count }) (record { guest = i.guest; next = h.1 })

  hypervisor_performs : (x : Next) → SmallNext x → SmallStepped (step_of (hypervisor_step w (perform_hypervisor_next n w.domain w.ledger w.memory x)))
  hypervisor_performs (next.Access x) h =
      let seen = seen_small w.memory i.memory x in
      by_hypervisor_lem w i (HypervisorAccess w.domain.call x (performed w.memory x).seen) (h, seen) _ (performed_small w.memory i.memory x h) _ _
      (reply_small wide w.domain i.domain w.ledger _ seen)
  hypervisor_performs (next.Answer a count) h = by_hypervisor_lem w i Nothing tt w.memory i.memory _ _ (reply_small wide w.domain i.domain w.ledger 0 (lit≤ tt))

  guest_performs : (x : Next) → SmallNext x → SmallStepped (step_of (guest_step w (perform_guest_next n w.guest w.memory x)))
  unfolding guest_access
  guest_performs (next.Access x) h =
      let seen = seen_small w.memory i.memory x in
      by_guest_lem w i (guest_access w.guest x (performed w.memory x).seen) (choose SmallEvent (is_clearing w.guest.clear.stage) (h, seen) (h, seen)) _
      (performed_small w.memory i.memory x h) _ (guest_reply_small wide w.guest i.guest _ seen)
  guest_performs (next.Answer a count) h = by_guest_lem w i Nothing tt w.memory i.memory _ (guest_reply_small wide w.guest i.guest 0 (lit≤ tt))

  steps : (s : Step) → SmallStep s → SmallStepped (step_of (advance_of n w s))
  unfolding advance_of guest_start_of perform_mask perform_side perform_hypervisor perform_guest hand_back code_of
  steps (step.Hypervisor s) h = starts s
  steps (step.Guest Service) h = by_guest_lem w i Nothing tt w.memory i.memory _ (service_small wide w.guest i.guest)
  steps (step.Guest (Mask p)) h = masks (mask_of n p w.guest.words) (mask_small wide p w.guest.words)
  steps (step.Guest (ClearMask p)) h = by_guest_lem w i Nothing tt w.memory i.memory _ (clear_mask_small wide w.guest i.guest p)
  steps (step.Guest (Tell words)) h = by_guest_lem w i Nothing tt w.memory i.memory _ (tell_small wide w.guest i.guest words)
  steps (step.Perform side.Hypervisor) h = hypervisor_performs (due_of n w.domain) (next_small wide w.domain i.domain NoCall 0 (answer_small refl))
  steps (step.Perform side.Guest) h = guest_performs (guest_due_of n w.guest) (guest_due_small wide w.guest i.guest)
  steps (step.HandBack side.Hypervisor word) h = by_hypervisor_lem w i Nothing tt w.memory i.memory _ _ (reply_small wide w.domain i.domain w.ledger word h)
  steps (step.HandBack side.Guest word) h = by_guest_lem w i Nothing tt w.memory i.memory _ (guest_reply_small wide w.guest i.guest word h)

pub numbers_stay_small : NumbersStaySmall
numbers_stay_small n wide w s i h = steps wide w i s h

pub runs_stay_small : RunsStaySmall
unfolding exec_all
runs_stay_small n wide w [] i h = record { world = i; events = tt }
runs_stay_small n wide w (s ∷ ss) i h =
    let one = numbers_stay_small n wide w s i h.0 in
    let rest = runs_stay_small n wide (exec n w s).world ss one.world h.1 in
    record { world = rest.world; events = events_small (exec n w s).events _ one.events rest.events }

pub fresh_is_small : FreshIsSmall
fresh_is_small ledger words =
    record {
      domain = record { tails = zeros_small 16; call = idle_call_small };
      guest = record { heads = zeros_small 16; call = idle_service_small; clear = idle_clear_small };
      memory = record { words = zeros_small words; block = zeros_small 18 };
    }

-- ---- by computation

pub number_examples : NumberExamples
unfolding runs
number_examples = record {
  meets = runs_stay_small link_bits link_bits-width start (linking ++ x ∷ x ∷ []) (fresh_is_small _ 10) (search tt depth 40);
  seen = refl;
  outside = refl;
  refused = λ h. let l : 0x120000000 < 2 ^ 32 = h.0.0.1 in omega arith;
}
