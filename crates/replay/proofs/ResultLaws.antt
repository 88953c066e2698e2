-- A result by its numbers: whether it is an answer, the lines that it brings, and the access or answer that C reads out of it.
-- Assumes nothing.
use Prim.Native.Nat.{ℕ, ◌≤◌}
use mathlib.Core.Path.{◌≡◌, refl, ap, ◌∙◌, sym}
use mathlib.Core.Bool.{true, false}
use mathlib.Core.List.{List}
use mathlib.Core.Logic.{◌≢◌}
use lib.ListN.{length}
use lib.Dec.{ltb}
use Rattle.calls.specs.declared.types.Place.TheVariants.{Word, Ready, Head}
use Rattle.calls.specs.declared.types.Access.{Access}
use Rattle.calls.specs.declared.types.Access.TheVariants.{Read, Store, Or, And, Swap, Cas}
use Rattle.calls.specs.declared.types.Answer.{Answer}
use Rattle.calls.specs.declared.types.Answer.TheVariants.{Done, LinkBits, UpcallWanted, LinkAbandoned, BadPort, NotBound, AlreadyBound, OutsideArray, StillLinked, BadPriority, AlreadyGiven, NotGiven, BadFrame, BadOffset, TooManyPages, NoEntry, CallUnderWay, NoCall, BadVcpu, BadIndex, HandedOver, NothingReady, Taken, CallUnmask}
use Rattle.calls.specs.declared.types.Next.{Next}
use Rattle.calls.specs.declared.types.Next.TheVariants as next
use Rattle.calls.specs.Answers.{code_of}
use Rattle.calls.specs.Claims.{turn_of, GuestAct, guest_turn_of}
use Rattle.machine.specs.declared.types.Side.TheVariants as side
use Rattle.machine.specs.Exec.{list_of, hypervisor_answer, guest_answer}
use Rattle.access_log.specs.Event.{answer_line, line_of}
use Rattle.evtchn_fifo.specs.Encoded.{EncodedNext, encoded_place, encoded_access, encoded_answer, encoded_next}
use Rattle.evtchn_fifo.specs.DomainRecord.{domain_size, domain_at}
use Rattle.evtchn_fifo.specs.GuestRecord.{guest_size, guest_at}
use Rattle.evtchn_fifo.specs.Claims.{Meant, MeantGuest}
use Rattle.exported.specs.Decoded.{decoded_next, decoded_answer, decoded_access}
use Rattle.exported.specs.Demands.{Request, carried_by, wrote_by}
use Rattle.exported.proofs.ReadBack.{turn_back, guest_turn_back}
use Rattle.exported.proofs.Meanings.{act_of, guest_act_of, request_means, guest_means}
use Rattle.replay.specs.Replay.{due_after}
use Rattle.replay.specs.State.{result_due}

-- ---- answers have numbers below 256, accesses from 256 on

small_number : (a : Answer) → ltb (code_of a).number 0x100 ≡ true
unfolding code_of
small_number Done = refl
small_number (LinkBits bits) = refl
small_number UpcallWanted = refl
small_number LinkAbandoned = refl
small_number BadPort = refl
small_number NotBound = refl
small_number AlreadyBound = refl
small_number OutsideArray = refl
small_number StillLinked = refl
small_number BadPriority = refl
small_number AlreadyGiven = refl
small_number NotGiven = refl
small_number BadFrame = refl
small_number BadOffset = refl
small_number TooManyPages = refl
small_number NoEntry = refl
small_number CallUnderWay = refl
small_number NoCall = refl
small_number BadVcpu = refl
small_number BadIndex = refl
small_number (HandedOver port) = refl
small_number NothingReady = refl
small_number (Taken port) = refl
small_number CallUnmask = refl

pub access_number : (a : Access) → ltb (encoded_access a).code 0x100 ≡ false
unfolding encoded_access encoded_place
access_number (Read (Word p)) = refl
access_number (Read Ready) = refl
access_number (Read (Head q)) = refl
access_number (Store (Word p) v) = refl
access_number (Store Ready v) = refl
access_number (Store (Head q) v) = refl
access_number (Or (Word p) v) = refl
access_number (Or Ready v) = refl
access_number (Or (Head q) v) = refl
access_number (And (Word p) v) = refl
access_number (And Ready v) = refl
access_number (And (Head q) v) = refl
access_number (Swap (Word p) v) = refl
access_number (Swap Ready v) = refl
access_number (Swap (Head q) v) = refl
access_number (Cas (Word p) old new) = refl
access_number (Cas Ready old new) = refl
access_number (Cas (Head q) old new) = refl

-- ---- the lines that a result brings are those of its event

pub hypervisor_due : (x : Next) → result_due side.Hypervisor (encoded_next x) ≡ due_after (list_of (hypervisor_answer x))
unfolding result_due encoded_next due_after encoded_answer line_of answer_line
hypervisor_due (next.Access a) = simp (access_number a)
hypervisor_due (next.Answer a count) = simp (small_number a)

pub guest_due_lem : (x : Next) → result_due side.Guest (encoded_next x) ≡ due_after (list_of (guest_answer x))
unfolding result_due encoded_next due_after encoded_answer line_of answer_line
guest_due_lem (next.Access a) = simp (access_number a)
guest_due_lem (next.Answer a count) = simp (small_number a)

-- of what a domain or a guest is asked
pub request_due : (n : ℕ) → n ≢ 0 → (r : List ℕ) → domain_size ≤ length r → (q : Request) →
    result_due side.Hypervisor (carried_by n r q).next ≡ due_after (list_of (hypervisor_answer (decoded_next (carried_by n r q).next)))
request_due n some r long q =
    let e : (carried_by n r q).next ≡ encoded_next (turn_of n (domain_at r) (act_of q)).outcome.next = ap (λ (x : Meant). x.next) (request_means n r long q) in
    rw e (hypervisor_due _ ∙ ap (λ (x : Next). due_after (list_of (hypervisor_answer x))) (sym (turn_back n some (domain_at r) (act_of q))))

pub guest_request_due : (n : ℕ) (r : List ℕ) → guest_size ≤ length r → (act : GuestAct) →
    result_due side.Guest (wrote_by n r act).next ≡ due_after (list_of (guest_answer (decoded_next (wrote_by n r act).next)))
guest_request_due n r long act =
    let e : (wrote_by n r act).next ≡ encoded_next (guest_turn_of n (guest_at r) (guest_act_of act)).next = ap (λ (x : MeantGuest). x.next) (guest_means n r long act) in
    rw e (guest_due_lem _ ∙ ap (λ (x : Next). due_after (list_of (guest_answer x))) (sym (guest_turn_back n (guest_at r) (guest_act_of act))))

-- ---- what C reads out of one

pub answer_read : (x : EncodedNext) → ltb x.code 0x100 ≡ true → decoded_next x ≡ next.Answer (decoded_answer x.code x.index) x.value
unfolding decoded_next
answer_read x h = simp h

pub access_read : (x : EncodedNext) → ltb x.code 0x100 ≡ false → decoded_next x ≡ next.Access (decoded_access x)
unfolding decoded_next
access_read x h = simp h
