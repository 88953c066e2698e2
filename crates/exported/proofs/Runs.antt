-- A step of the exported functions is a step of the machine, and so is a run.
-- Assumes nothing.
use Rattle.std.specs.Prelude.{Result, Ok}
use Prim.Native.Nat.{ℕ, ◌+◌, ◌^◌, ◌≤◌, ◌<◌}
use mathlib.Core.Path.{◌≡◌, refl, sym, ap, ◌∙◌}
use mathlib.Core.Bool.{Bool, true, false, cond, not}
use mathlib.Core.List.{List, [], ◌∷◌, ◌++◌, map}
use mathlib.Core.Logic.{◌≢◌}
use native.Mathlib.Nat.{le_refl, pow-le-pow_right}
use native.Mathlib.Omega.{arith}
use borrow.Author.Tests.{leb-false, lt-ltb, le-ltb}
use lib.Dec.{eqb, ltb, leb, lit≤}
use Rattle.word.specs.declared.Port.{Port}
use Rattle.word.specs.declared.Flag.TheVariants.{Masked}
use Rattle.word.specs.Word.{Width, mask, port_at}
use Rattle.calls.specs.declared.types.Answer.{Answer}
use Rattle.calls.specs.declared.types.Place.TheVariants as place
use Rattle.calls.specs.declared.types.Access.TheVariants.{Or}
use Rattle.calls.specs.declared.types.Next.{Next}
use Rattle.calls.specs.declared.types.Next.TheVariants as next
use Rattle.calls.specs.declared.types.Made.{Made}
use Rattle.calls.specs.declared.types.Refused.{Refused}
use Rattle.calls.specs.declared.types.Domain.{Domain}
use Rattle.calls.specs.declared.types.Guest.{Guest}
use Rattle.calls.specs.Answers.{code_of}
use Rattle.calls.specs.Records.{one_more, is_port, is_free, page_limit}
use Rattle.calls.specs.Hypervisor.{accept_expand, expand_array_of, expand_array, due_of}
use Rattle.calls.specs.Guest.{mask_of}
use Rattle.calls.specs.ClearMask.{guest_due_of}
use Rattle.calls.specs.Claims.{turn_of, GuestAct, Serves, ClearsMask, GuestReplies, Tells, guest_turn_of}
use Rattle.calls.proofs.Cases.{choose, by_test}
use Rattle.machine.specs.Memory.{Memory, performed, zero_page}
use Rattle.machine.specs.Exec.{Stepped, advanced, step_of, list_of, hypervisor_answer, guest_answer, guest_access, hypervisor_advance, guest_advance, hypervisor_step, guest_step, page_added, expand_of, start_of, perform_hypervisor_next, perform_hypervisor, perform_guest_next, perform_guest, perform_masking, perform_mask, guest_start_of, perform_side, hand_back, advance_of, exec, exec_all}
use Rattle.machine.specs.declared.types.Side.TheVariants as side
use Rattle.machine.specs.declared.types.Start.{Start}
use Rattle.machine.specs.declared.types.Start.TheVariants.{InitControl, ExpandArray, Bind, Close, SetPriority, Raise, Unmask}
use Rattle.machine.specs.declared.types.GuestStart.TheVariants.{Service, Mask, ClearMask, Tell}
use Rattle.machine.specs.declared.types.Step.{Step}
use Rattle.machine.specs.declared.types.Step.TheVariants as step
use Rattle.machine.specs.declared.types.Event.{Event}
use Rattle.machine.specs.declared.types.Event.TheVariants.{Nothing, HypervisorAccess}
use Rattle.evtchn_fifo.specs.Numbers.{narrow}
use Rattle.evtchn_fifo.specs.Encoded.{encoded_next, encoded_answer, encoded_masking}
use Rattle.evtchn_fifo.specs.Ledger.{ledger_at}
use Rattle.evtchn_fifo.specs.DomainRecord.{domain_at, pages_at}
use Rattle.evtchn_fifo.specs.GuestRecord.{guest_at, words_at}
use Rattle.evtchn_fifo.specs.Hypervisor.{expand_bytes, due_bytes}
use Rattle.evtchn_fifo.specs.Guest.{mask_bytes}
use Rattle.evtchn_fifo.specs.ClearMask.{guest_due_bytes}
use Rattle.evtchn_fifo.specs.Claims.{Meant, MeantAlone, MeantGuest}
use Rattle.evtchn_fifo.proofs.Meaning.{domain_calls}
use Rattle.evtchn_fifo.proofs.GuestMeaning.{guest_calls}
use Rattle.evtchn_fifo.proofs.Narrow.{narrow_twice, narrow_numbers}
use Rattle.exported.specs.Decoded.{decoded_next, decoded_answer}
use Rattle.exported.specs.Run as run
use Rattle.exported.specs.Run.{Bytes, world_of, stepped, hypervisor_did, guest_did, words_after, start_did, step_bytes, run_bytes, narrow_port, narrow_start, narrow_step, LongEnough, RunsAreSteps}
use Rattle.exported.specs.Demands.{Request, Starts, Replies, carried_by, wrote_by}
use Rattle.exported.proofs.Decoding.{access_back}
use Rattle.exported.proofs.ReadBack.{turn_back, due_back, guest_turn_back, guest_due_back}
use Rattle.exported.proofs.Meanings.{act_of, guest_act_of, request_means, guest_means, request_length, guest_length}

-- ---- the page that an expand adds

-- its answer is 0 exactly where it adds one
abbrev Adds : Domain → Result Unit Answer → Type 0
Adds d x = eqb (encoded_next (expand_array_of d x).next).code 0 ≡ ltb d.pages (expand_array_of d x).domain.pages

adds : {n : ℕ} → Width n → (d : Domain) (frame frames : ℕ) → Adds d (accept_expand n d.call.owner d.given d.pages frame frames)
unfolding accept_expand encoded_next encoded_answer code_of one_more
adds {n} wide d frame frames =
    choose (Adds d) (not (is_free d.call.owner)) none
    (choose (Adds d) (not d.given) none
    (by_test (Adds d) (leb (page_limit n) d.pages) (λ h. none)
    (λ h. choose (Adds d) (leb frames frame) none (more (leb-false (page_limit n) d.pages h)))))
  where
    none : false ≡ ltb d.pages d.pages
    none = sym (le-ltb d.pages d.pages (le_refl d.pages))

    more : d.pages < page_limit n → Adds d (Ok tt)
    more h =
        let l : 2 ^ n ≤ 2 ^ 20 = pow-le-pow_right (lit≤ tt) wide.most in
        let s : ltb d.pages 0xFFFFFFFF ≡ true = lt-ltb d.pages 0xFFFFFFFF (omega arith) in
        rw s (sym (lt-ltb d.pages (d.pages + 1) (omega arith)))

-- ---- each step

abbrev hypervisor_stepped : Bytes → Event → Memory → Meant → Stepped
hypervisor_stepped b access m x = record {
  world = record { domain = x.domain; ledger = x.ledger; guest = guest_at b.guest; memory = m };
  events = list_of access ++ list_of (hypervisor_answer (decoded_next x.next));
}

abbrev guest_stepped : Bytes → Event → Memory → MeantGuest → Stepped
guest_stepped b access m x = record {
  world = record { domain = domain_at b.domain; ledger = ledger_at b.ledger; guest = x.guest; memory = m };
  events = list_of access ++ list_of (guest_answer (decoded_next x.next));
}

module _ {n : ℕ} (wide : Width n) (b : Bytes) (long : LongEnough b) where
  abbrev domain : Domain
  domain = domain_at b.domain

  abbrev ledger : List ℕ
  ledger = ledger_at b.ledger

  abbrev guest : Guest
  guest = guest_at b.guest

  some : n ≢ 0
  some e = let l = wide.least in omega arith

  -- ---- what is asked of a domain

  asked_is : (q : Request) (access : Event) (m : Memory) → stepped (hypervisor_did b (carried_by n b.domain q) access m)
      ≡ step_of (advanced (hypervisor_advance (record { outcome = (turn_of n domain (act_of q)).outcome; access = access }) guest) (turn_of n domain (act_of q)).ledger m)
  asked_is q access m = ap (hypervisor_stepped b access m) (request_means n b.domain long.domain q) ∙ rw (turn_back n some domain (act_of q))

  -- a page is added exactly where the answer is 0
  pub added_is : (frame frames : ℕ) → eqb (expand_bytes n b.domain frame frames).next.code 0 ≡ ltb domain.pages (expand_array n domain frame frames).domain.pages
  unfolding expand_array
  added_is frame frames =
      ap (λ (x : MeantAlone). eqb x.next.code 0) (((domain_calls n).expand_array_lem frame frames).means b.domain long.domain) ∙ adds wide domain frame frames

  -- the host's zeroed page is the machine's
  page_is : (frame frames : ℕ) → words_after n b.domain b.memory.words (ExpandArray frame frames) ≡ page_added domain (expand_array n domain frame frames) b.memory.words
  unfolding domain_at
  page_is frame frames =
      ap (λ (t : Bool). cond t (zero_page (pages_at b.domain) b.memory.words) b.memory.words) (added_is frame frames)

  start_is : (s : Start) → stepped (start_did n b s) ≡ exec n (world_of b) (step.Hypervisor (narrow_start s))
  unfolding advance_of start_of expand_of
  start_is (InitControl vcpu frame frames offset) = asked_is (Starts (InitControl vcpu frame frames offset) b.ledger) Nothing b.memory
  start_is (ExpandArray frame frames) = asked_is (Starts (ExpandArray frame frames) b.ledger) Nothing _ ∙ rw (page_is frame frames)
  start_is (Bind p) = asked_is (Starts (Bind p) b.ledger) Nothing b.memory
  start_is (Close p) = asked_is (Starts (Close p) b.ledger) Nothing b.memory
  start_is (SetPriority p level) = asked_is (Starts (SetPriority p level) b.ledger) Nothing b.memory
  start_is (Raise p) = asked_is (Starts (Raise p) b.ledger) Nothing b.memory
  start_is (Unmask p) = asked_is (Starts (Unmask p) b.ledger) Nothing b.memory

  perform_is : (x : Next) → stepped (run.perform_hypervisor n b x) ≡ step_of (hypervisor_step (world_of b) (perform_hypervisor_next n domain ledger b.memory x))
  unfolding domain_at
  perform_is (next.Access a) =
      let seen = (performed b.memory a).seen in
      asked_is (Replies seen b.ledger) (HypervisorAccess domain.call a seen) (performed b.memory a).memory
  perform_is (next.Answer a count) = asked_is (Replies 0 b.ledger) Nothing b.memory

  pub due_is : decoded_next (due_bytes n b.domain) ≡ due_of n domain
  due_is = ap decoded_next ((domain_calls n).due b.domain long.domain) ∙ due_back n domain

  -- ---- what is asked of a guest

  served_is : (act : GuestAct) (access : Event) (m : Memory) → stepped (guest_did b (wrote_by n b.guest act) access m)
      ≡ step_of (advanced (guest_advance (record { outcome = guest_turn_of n guest (guest_act_of act); access = access }) domain) ledger m)
  served_is act access m = ap (guest_stepped b access m) (guest_means n b.guest long.guest act) ∙ rw (guest_turn_back n guest (guest_act_of act))

  guest_perform_is : (x : Next) → stepped (run.perform_guest n b x) ≡ step_of (guest_step (world_of b) (perform_guest_next n guest b.memory x))
  unfolding guest_at
  guest_perform_is (next.Access a) =
      let seen = (performed b.memory a).seen in
      served_is (GuestReplies seen) (guest_access guest a seen) (performed b.memory a).memory
  guest_perform_is (next.Answer a count) = served_is (GuestReplies 0) Nothing b.memory

  pub guest_due_is : decoded_next (guest_due_bytes n b.guest) ≡ guest_due_of n guest
  guest_due_is = ap decoded_next ((guest_calls n).due b.guest long.guest) ∙ guest_due_back n guest

  -- ---- a mask, which her number of words of 32 bits refuses as that of 64 does

  abbrev MaskIs : Result Made Refused → Type 0
  MaskIs x = stepped (run.perform_mask b (decoded_next (encoded_masking x))) ≡ step_of (guest_step (world_of b) (perform_masking guest b.memory x))

  masking_is : (p : Port) (words : ℕ) → MaskIs (mask_of n p words)
  unfolding mask_of encoded_masking encoded_answer code_of decoded_next decoded_answer
  masking_is p words = choose MaskIs (not (is_port n p.0)) refl (choose MaskIs (leb words p.0) refl (rw (access_back (Or (place.Word p) (mask Masked)))))

  pub mask_narrow : (p words : ℕ) → mask_bytes n p words ≡ encoded_masking (mask_of n (port_at (narrow p)) words)
  unfolding mask_bytes
  mask_narrow p words = ap encoded_masking (ap (λ (q : ℕ). mask_of n (port_at q) (narrow words)) (sym (narrow_twice p)) ∙ (narrow_numbers wide).mask (narrow p) words)

  mask_is : (p : Port) → stepped (run.perform_mask b (decoded_next (mask_bytes n p.0 (words_at b.guest)))) ≡ exec n (world_of b) (step.Guest (Mask (narrow_port p)))
  unfolding advance_of guest_start_of perform_mask guest_at
  mask_is p = rw (mask_narrow p.0 (words_at b.guest)) (masking_is (narrow_port p) (words_at b.guest))

  -- ---- a step

  pub step_is : (s : Step) → stepped (step_bytes n b s) ≡ exec n (world_of b) (narrow_step s)
  unfolding step_bytes advance_of guest_start_of perform_side perform_hypervisor perform_guest hand_back
  step_is (step.Hypervisor s) = start_is s
  step_is (step.Guest Service) = served_is Serves Nothing b.memory
  step_is (step.Guest (Mask p)) = mask_is p
  step_is (step.Guest (ClearMask p)) = served_is (ClearsMask p) Nothing b.memory
  step_is (step.Guest (Tell words)) = served_is (Tells words) Nothing b.memory
  step_is (step.Perform side.Hypervisor) = rw due_is (perform_is (due_of n domain))
  step_is (step.Perform side.Guest) = rw guest_due_is (guest_perform_is (guest_due_of n guest))
  step_is (step.HandBack side.Hypervisor word) = asked_is (Replies word b.ledger) Nothing b.memory
  step_is (step.HandBack side.Guest word) = served_is (GuestReplies word) Nothing b.memory

-- ---- the records stay long enough

module _ (n : ℕ) (b : Bytes) (long : LongEnough b) where
  asked_long : (q : Request) (m : Memory) → LongEnough (hypervisor_did b (carried_by n b.domain q) Nothing m).bytes
  asked_long q m = record { domain = rw (request_length n b.domain q) long.domain; guest = long.guest }

  served_long : (act : GuestAct) (m : Memory) → LongEnough (guest_did b (wrote_by n b.guest act) Nothing m).bytes
  served_long act m = record { domain = long.domain; guest = rw (guest_length n b.guest act) long.guest }

  perform_long : (x : Next) → LongEnough (run.perform_hypervisor n b x).bytes
  perform_long (next.Access a) = asked_long (Replies _ b.ledger) _
  perform_long (next.Answer a count) = asked_long (Replies 0 b.ledger) _

  guest_perform_long : (x : Next) → LongEnough (run.perform_guest n b x).bytes
  guest_perform_long (next.Access a) = served_long (GuestReplies _) _
  guest_perform_long (next.Answer a count) = served_long (GuestReplies 0) _

  mask_long : (x : Next) → LongEnough (run.perform_mask b x).bytes
  mask_long (next.Access a) = record { domain = long.domain; guest = long.guest }
  mask_long (next.Answer a count) = long

  step_long : (s : Step) → LongEnough (step_bytes n b s).bytes
  unfolding step_bytes
  step_long (step.Hypervisor s) = asked_long (Starts s b.ledger) _
  step_long (step.Guest Service) = served_long Serves _
  step_long (step.Guest (Mask p)) = mask_long (decoded_next (mask_bytes n p.0 (words_at b.guest)))
  step_long (step.Guest (ClearMask p)) = served_long (ClearsMask p) _
  step_long (step.Guest (Tell words)) = served_long (Tells words) _
  step_long (step.Perform side.Hypervisor) = perform_long (decoded_next (due_bytes n b.domain))
  step_long (step.Perform side.Guest) = guest_perform_long (decoded_next (guest_due_bytes n b.guest))
  step_long (step.HandBack side.Hypervisor word) = asked_long (Replies word b.ledger) _
  step_long (step.HandBack side.Guest word) = served_long (GuestReplies word) _

-- ---- a run

-- what follows a step, after its events
abbrev followed : List Event → Stepped → Stepped
followed es s = record { world = s.world; events = es ++ s.events }

pub runs_long : (n : ℕ) (b : Bytes) (steps : List Step) → LongEnough b → LongEnough (run_bytes n b steps).bytes
unfolding run_bytes
runs_long n b [] long = long
runs_long n b (s ∷ ss) long = runs_long n (step_bytes n b s).bytes ss (step_long n b long s)

pub runs_are_steps : {n : ℕ} → Width n → RunsAreSteps n
unfolding run_bytes exec_all
runs_are_steps wide b [] long = refl
runs_are_steps {n} wide b (s ∷ ss) long =
    ap (followed (step_bytes n b s).events) (runs_are_steps wide (step_bytes n b s).bytes ss (step_long n b long s))
    ∙ ap (λ (t : Stepped). followed t.events (exec_all n t.world (map narrow_step ss))) (step_is wide b long s)
