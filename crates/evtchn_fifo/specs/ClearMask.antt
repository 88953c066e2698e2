-- The guest's clear_mask on bytes (document 02, T-05), and her reply, which is the clear_mask's while one is under way: r is a guest's
-- record, n the number of link bits.
-- Assumes nothing.
use Rattle.std.specs.Prelude.{ℕ, cond, List, length, ltb}
use Rattle.word.specs.Word.{port_at}
use Rattle.calls.specs.declared.types.Answer.TheVariants.{NoCall}
use Rattle.calls.specs.declared.types.Next.{Next}
use Rattle.calls.specs.declared.types.Next.TheVariants as next
use Rattle.calls.specs.declared.types.ClearCall.{ClearCall}
use Rattle.calls.specs.declared.types.GuestOutcome.{GuestOutcome}
use Rattle.calls.specs.declared.clear_mask.ClearMove.{ClearMove}
use Rattle.calls.specs.Records.{guest_idle, is_clearing}
use Rattle.calls.specs.ClearMask.{clear_staged, clear_due, clear_next, clear_mask_start}
use Rattle.evtchn_fifo.specs.Numbers.{narrow}
use Rattle.evtchn_fifo.specs.Encoded.{EncodedNext, Wrote, wrote, encoded_answer, encoded_access, encoded_next, too_short}
use Rattle.evtchn_fifo.specs.GuestRecord.{guest_size, words_at, service_at, clear_call_at, without_heads, put_clear, put_clear_move}
use Rattle.evtchn_fifo.specs.Guest.{service_next_at, served_bytes}

-- clear_mask: what its start comes to
abbrev pub clear_began_bytes : List ℕ → ClearCall → Next → Wrote
clear_began_bytes r c (next.Answer a count) = wrote (encoded_answer a count) r
clear_began_bytes r c (next.Access x) = wrote (encoded_access x) (put_clear r c)

abbrev pub clear_began_of : List ℕ → GuestOutcome → Wrote
clear_began_of r o = clear_began_bytes r o.guest.clear o.next

unfoldable pub clear_mask_bytes : ℕ → List ℕ → ℕ → Wrote
clear_mask_bytes n r p =
    cond (ltb (length r) guest_size) (wrote too_short r)
    (clear_began_of r (clear_mask_start n (without_heads (words_at r) guest_idle (clear_call_at r)) (port_at (narrow p))))

-- its reply
unfoldable pub clear_move_bytes : List ℕ → ClearMove → Wrote
clear_move_bytes r m = wrote (encoded_next (clear_next m.call m.answer m.count)) (put_clear_move r m)

-- her reply
abbrev pub replied_bytes : ℕ → List ℕ → ℕ → Wrote
replied_bytes n r seen = cond (is_clearing (clear_call_at r).stage) (clear_move_bytes r (clear_staged (clear_call_at r) seen)) (served_bytes n r seen)

unfoldable pub guest_reply_bytes : ℕ → List ℕ → ℕ → Wrote
guest_reply_bytes n r seen = cond (ltb (length r) guest_size) (wrote too_short r) (replied_bytes n r seen)

-- the access that is due: the clear_mask's, else the service's; 16 where neither is under way
unfoldable pub guest_due_bytes : ℕ → List ℕ → EncodedNext
guest_due_bytes n r =
    cond (ltb (length r) guest_size) too_short
    (cond (is_clearing (clear_call_at r).stage) (encoded_access (clear_due (clear_call_at r)))
    (service_next_at n (service_at r) NoCall 0))
