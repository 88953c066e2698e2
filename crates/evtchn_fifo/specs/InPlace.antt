-- Words for the contracts of functions private to this crate, which start calls on a record that is long enough and write their stages
-- in place: r is such a record, t its ledger or the two bytes of an entry, n the number of link bits. No claim of the exported functions
-- needs them.
-- Assumes nothing.
use Rattle.std.specs.Prelude.{ℕ, Bool, true, false, cond, List, eqb, Result, Ok, Err}
use Rattle.word.specs.declared.Port.{Port}
use Rattle.word.specs.declared.Queue.{Queue}
use Rattle.word.specs.declared.Flag.TheVariants.{Linked, Busy}
use Rattle.word.specs.Word.{port_at, queue_at, mask, all_but}
use Rattle.calls.specs.declared.types.Place.TheVariants.{Word, Head}
use Rattle.calls.specs.declared.types.Access.TheVariants.{Read, Store, Or, And, Cas}
use Rattle.calls.specs.declared.types.Answer.{Answer}
use Rattle.calls.specs.declared.types.Answer.TheVariants.{NoCall}
use Rattle.calls.specs.declared.types.Stage.{Stage}
use Rattle.calls.specs.declared.types.Stage.TheVariants.{First, R2, R3, R4, R5, R6, SetBusy, ClearBusy}
use Rattle.calls.specs.declared.hypervisor.stage.Move.{Move}
use Rattle.calls.specs.Records.{is_free, is_clearing}
use Rattle.calls.specs.Hypervisor.{named, comparing, clearing, linking_word, due}
use Rattle.calls.specs.ClearMask.{clear_due}
use Rattle.evtchn_fifo.specs.declared.encoded.PackedNext.{PackedNext}
use Rattle.evtchn_fifo.specs.Numbers.{number_at, put_number}
use Rattle.evtchn_fifo.specs.Encoded.{EncodedNext, Wrote, wrote, Carried, carried, unpacked, encoded_answer, encoded_access}
use Rattle.evtchn_fifo.specs.Ledger.{entry_in}
use Rattle.evtchn_fifo.specs.DomainRecord.{owner_at, given_at, pages_at, tail_at, call_at, put_next, put_tail, put_end}
use Rattle.evtchn_fifo.specs.GuestRecord.{service_at, clear_call_at}
use Rattle.evtchn_fifo.specs.Guest.{service_next_at}
use Rattle.evtchn_fifo.specs.Hypervisor.{Starts, start_bytes, reply_found_bytes}

-- ---- starts

-- what comes next, or the answer that refuses the start
abbrev pub next_or_answer : Result PackedNext Answer → EncodedNext
next_or_answer (Ok x) = unpacked x
next_or_answer (Err a) = encoded_answer a 0

-- a call on port p
abbrev pub started : ℕ → Starts → List ℕ → List ℕ → Port → Carried
started n starts r t p = start_bytes n r t p (starts (owner_at r) (given_at r) (pages_at r) p (entry_in t p.0))

-- ---- the reply

abbrev pub replied : ℕ → List ℕ → List ℕ → ℕ → Carried
replied n r t seen = cond (is_free (call_at r).owner) (carried (encoded_answer NoCall 0) r t) (reply_found_bytes n r t seen (entry_in t (call_at r).port.0))

-- whether a move ends its call, told by the stage that it leaves: no call goes on at the first
abbrev pub has_ended : Stage → Bool
has_ended First = true
has_ended R2 = false
has_ended R3 = false
has_ended R4 = false
has_ended R5 = false
has_ended R6 = false
has_ended SetBusy = false
has_ended ClearBusy = false

-- a move on r: the owner and the port of a call that goes on stay
unfoldable pub in_place : ℕ → List ℕ → Move → Wrote
in_place n r m =
    cond (has_ended m.call.stage) (wrote (encoded_answer m.answer m.count) (put_end (put_tail r m.queue.0 m.tail)))
    (wrote (encoded_access (due n m.call (tail_at (put_tail r m.queue.0 m.tail) m.call.queue.0))) (put_next (put_tail r m.queue.0 m.tail) m.call))

-- the entry that two bytes are, and those of another
abbrev pub entry_at : List ℕ → ℕ
entry_at t = number_at 1 t 0

abbrev pub put_entry_at : List ℕ → ℕ → List ℕ
put_entry_at t e = put_number 1 t 0 e

-- the call goes on at R2; at R3 or R5 on a queue
abbrev pub r2_in_place : List ℕ → Wrote
r2_in_place r = wrote (encoded_access (Or (Word (call_at r).port) (mask Linked))) (put_next r (named (call_at r) R2 (queue_at 0)))

abbrev pub r3_in_place : List ℕ → Queue → Wrote
r3_in_place r q = wrote (encoded_access (Read (Word (port_at (tail_at r q.0))))) (put_next r (named (call_at r) R3 q))

-- at a cas of the tail's word; at the and that clears BUSY of it
abbrev tail_of : List ℕ → Port
tail_of r = port_at (tail_at r (call_at r).queue.0)

abbrev pub r4_in_place : ℕ → List ℕ → ℕ → ℕ → Wrote
r4_in_place n r tries w = wrote (encoded_access (Cas (Word (tail_of r)) w (linking_word n w (call_at r).port.0))) (put_next r (comparing (call_at r) tries w))

abbrev pub clear_busy_in_place : List ℕ → ℕ → Wrote
clear_busy_in_place r w = wrote (encoded_access (And (Word (tail_of r)) (all_but Busy))) (put_next r (clearing (call_at r) w))

abbrev pub r5_in_place : List ℕ → Queue → Wrote
r5_in_place r q = wrote (encoded_access (Store (Head q) (call_at r).port.0)) (put_next r (named (call_at r) R5 q))

-- and after R2, once the tail of the port's last queue is cleared
abbrev pub after_r2_in_place : List ℕ → Queue → Wrote
after_r2_in_place r q =
    cond (eqb (tail_at r q.0) 0) (r5_in_place r q)
    (cond (eqb (tail_at r q.0) (call_at r).port.0) (r5_in_place r q)
    (r3_in_place r q))

-- ---- the guest's side

-- what is due, by a guest's record r
abbrev pub guest_due_at : ℕ → List ℕ → EncodedNext
guest_due_at n r =
    cond (is_clearing (clear_call_at r).stage) (encoded_access (clear_due (clear_call_at r)))
    (service_next_at n (service_at r) NoCall 0)
