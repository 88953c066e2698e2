-- The guest's calls on bytes, but for clear_mask and her reply (ClearMask): r is a guest's record, n the number of link bits. Where
-- r is too short, or document 01 refuses with a number other than 18, it stays byte for byte.
-- Assumes nothing.
use Rattle.std.specs.Prelude.{ℕ, cond, not, List, length, ltb}
use Rattle.word.specs.Word.{port_at}
use Rattle.calls.specs.declared.types.Answer.{Answer}
use Rattle.calls.specs.declared.types.Answer.TheVariants.{NoCall}
use Rattle.calls.specs.declared.types.Next.{Next}
use Rattle.calls.specs.declared.types.Next.TheVariants as next
use Rattle.calls.specs.declared.types.GuestCall.{GuestCall}
use Rattle.calls.specs.declared.types.GuestOutcome.{GuestOutcome}
use Rattle.calls.specs.declared.guest.GuestMove.{GuestMove}
use Rattle.calls.specs.Records.{guest_idle, clear_idle, fresh_guest}
use Rattle.calls.specs.Guest.{is_serving, guest_staged, service_queue, guest_due, service_start, mask_of, tell_of}
use Rattle.evtchn_fifo.specs.Numbers.{put_number, narrow}
use Rattle.evtchn_fifo.specs.Encoded.{EncodedNext, Wrote, wrote, Freshened, freshened, encoded_answer, encoded_access, encoded_next, encoded_masking, too_short}
use Rattle.evtchn_fifo.specs.GuestRecord.{guest_size, head_at, ready_at, words_at, service_at, clear_call_at, without_heads, put_service, put_guest_move, put_guest}

-- the access that the service c waits for, or the answer with its count where c is none
unfoldable pub service_next_at : ℕ → GuestCall → Answer → ℕ → EncodedNext
service_next_at n c a count = cond (not (is_serving c.stage)) (encoded_answer a count) (encoded_access (guest_due n c))

-- service: what its start comes to
abbrev pub began_bytes : List ℕ → GuestCall → Next → Wrote
began_bytes r c (next.Answer a count) = wrote (encoded_answer a count) r
began_bytes r c (next.Access x) = wrote (encoded_access x) (put_service r c)

abbrev pub began_of : List ℕ → GuestOutcome → Wrote
began_of r o = began_bytes r o.guest.call o.next

unfoldable pub service_bytes : ℕ → List ℕ → Wrote
service_bytes n r =
    cond (ltb (length r) guest_size) (wrote too_short r)
    (began_of r (service_start n (without_heads 0 (service_at r) (clear_call_at r))))

-- the service's reply
abbrev pub guest_move_at : ℕ → List ℕ → ℕ → GuestMove
guest_move_at n r seen = guest_staged n (service_at r) (ready_at r) (words_at r) (head_at r (service_queue (ready_at r) seen).0) seen

unfoldable pub guest_move_bytes : ℕ → List ℕ → GuestMove → Wrote
guest_move_bytes n r m = wrote (service_next_at n m.call m.answer m.count) (put_guest_move r m)

abbrev pub served_bytes : ℕ → List ℕ → ℕ → Wrote
served_bytes n r seen =
    cond (not (is_serving (service_at r).stage)) (wrote (encoded_answer NoCall 0) r)
    (guest_move_bytes n r (guest_move_at n r seen))

unfoldable pub mask_bytes : ℕ → ℕ → ℕ → EncodedNext
mask_bytes n p words = encoded_masking (mask_of n (port_at (narrow p)) (narrow words))

-- tell: only the number of words can change
abbrev pub told_bytes : List ℕ → GuestOutcome → Wrote
told_bytes r o = wrote (encoded_next o.next) (put_number 3 r 68 o.guest.words)

unfoldable pub tell_bytes : List ℕ → ℕ → Wrote
tell_bytes r words =
    cond (ltb (length r) guest_size) (wrote too_short r)
    (told_bytes r (tell_of (without_heads (words_at r) guest_idle clear_idle) (narrow words)))

unfoldable pub fresh_guest_bytes : List ℕ → Freshened
fresh_guest_bytes r = cond (ltb (length r) guest_size) (freshened 64 r) (freshened 0 (put_guest r fresh_guest))
