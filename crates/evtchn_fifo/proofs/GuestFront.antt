-- A guest's calls on a record that has more bytes behind it.
-- Assumes nothing.
use Prim.Native.Nat.{ℕ}
use mathlib.Core.Path.{◌≡◌, refl, sym, ap, ◌∙◌}
use mathlib.Core.Bool.{Bool, true, false, cond, not}
use mathlib.Core.List.{List, ◌++◌}
use lib.ListN.{length, drop}
use native.Mathlib.Omega.{arith}
use Rattle.std.specs.Array.{IsFirstChunk}
use Rattle.word.specs.Word.{port_at}
use Rattle.calls.specs.declared.types.Answer.TheVariants.{NoCall}
use Rattle.calls.specs.declared.types.Next.{Next}
use Rattle.calls.specs.declared.types.Next.TheVariants as next
use Rattle.calls.specs.declared.types.GuestCall.{GuestCall}
use Rattle.calls.specs.declared.types.ClearCall.{ClearCall}
use Rattle.calls.specs.declared.types.Guest.{Guest}
use Rattle.calls.specs.declared.guest.GuestMove.{GuestMove}
use Rattle.calls.specs.declared.clear_mask.ClearMove.{ClearMove}
use Rattle.calls.specs.Records.{is_clearing, guest_idle, fresh_guest}
use Rattle.calls.specs.Guest.{is_serving, service_queue, service_start}
use Rattle.calls.specs.ClearMask.{clear_staged, clear_mask_start}
use Rattle.evtchn_fifo.specs.Numbers.{narrow}
use Rattle.evtchn_fifo.specs.Encoded.{EncodedNext, Wrote, wrote, freshened, encoded_answer}
use Rattle.evtchn_fifo.specs.GuestRecord.{guest_size, head_at, ready_at, words_at, service_at, clear_call_at, without_heads, put_service, put_ready, put_guest_move, put_clear, put_clear_move, put_guest}
use Rattle.evtchn_fifo.specs.Guest.{began_bytes, began_of, service_bytes, guest_move_at, guest_move_bytes, served_bytes, fresh_guest_bytes}
use Rattle.evtchn_fifo.specs.ClearMask.{clear_began_bytes, clear_began_of, clear_mask_bytes, clear_move_bytes, replied_bytes, guest_reply_bytes, guest_due_bytes}
use Rattle.evtchn_fifo.specs.InPlace.{guest_due_at}
use Rattle.evtchn_fifo.proofs.FrontLaws.{Front, with_rest, first_front, number_is, value_is_front, put, put_value_front, puts_front, long_enough}

abbrev Before : List ℕ → List ℕ → List ℕ → Type 0
Before b s r = Front guest_size b s r

module _ {b s r : List ℕ} (f : Before b s r) where
  -- ---- reading

  service_is : service_at r ≡ service_at s
  unfolding service_at
  service_is = rw (number_is f 3 72 (omega arith), number_is f 3 76 (omega arith), number_is f 3 80 (omega arith), number_is f 3 84 (omega arith))

  clear_is : clear_call_at r ≡ clear_call_at s
  unfolding clear_call_at
  clear_is = rw (number_is f 3 88 (omega arith), number_is f 3 92 (omega arith), number_is f 3 96 (omega arith), number_is f 3 100 (omega arith))

  ready_is : ready_at r ≡ ready_at s
  ready_is = number_is f 3 64 (omega arith)

  words_is : words_at r ≡ words_at s
  words_is = number_is f 3 68 (omega arith)

  head_is : (q : ℕ) → head_at r q ≡ head_at s q
  head_is q = value_is_front f 0 q (omega arith)

  -- ---- writing

  service_put : (c : GuestCall) → Before b (put_service s c) (put_service r c)
  unfolding put_service
  service_put c = put (put (put (put f 3 72 _ (omega arith)) 3 76 _ (omega arith)) 3 80 _ (omega arith)) 3 84 _ (omega arith)

  clear_put : (c : ClearCall) → Before b (put_clear s c) (put_clear r c)
  unfolding put_clear
  clear_put c = put (put (put (put f 3 88 _ (omega arith)) 3 92 _ (omega arith)) 3 96 _ (omega arith)) 3 100 _ (omega arith)

  ready_put : (m : GuestMove) → Before b (put_ready s m) (put_ready r m)
  ready_put m = put_value_front (put f 3 64 m.ready (omega arith)) 0 m.queue.0 m.head (omega arith)

module _ {b s r : List ℕ} (f : Before b s r) where
  move_by : (m : GuestMove) (c : Bool) → is_serving m.call.stage ≡ c → Before b (put_guest_move s m) (put_guest_move r m)
  move_by m true e = rw e (service_put (ready_put f m) m.call)
  move_by m false e = rw e (put (ready_put f m) 3 72 0 (omega arith))

  move_put : (m : GuestMove) → Before b (put_guest_move s m) (put_guest_move r m)
  move_put m = move_by m (is_serving m.call.stage) refl

  clear_by : (m : ClearMove) (c : Bool) → is_clearing m.call.stage ≡ c → Before b (put_clear_move s m) (put_clear_move r m)
  clear_by m true e = rw e (clear_put f m.call)
  clear_by m false e = rw e (put f 3 88 0 (omega arith))

  clear_move_put : (m : ClearMove) → Before b (put_clear_move s m) (put_clear_move r m)
  clear_move_put m = clear_by m (is_clearing m.call.stage) refl

  guest_put : (g : Guest) → length g.heads ≡ 16 → Before b (put_guest s g) (put_guest r g)
  unfolding put_guest
  guest_put g h = clear_put (service_put (put (put (puts_front g.heads _ _ 0 f (omega arith)) 3 64 _ (omega arith)) 3 68 _ (omega arith)) g.call) g.clear

  -- ---- the calls

  began_is : (c : GuestCall) (x : Next) → began_bytes r c x ≡ with_rest b (began_bytes s c x)
  began_is c (next.Answer a k) = rw f.whole
  began_is c (next.Access x) = rw (service_put f c).whole

  clear_began_is : (c : ClearCall) (x : Next) → clear_began_bytes r c x ≡ with_rest b (clear_began_bytes s c x)
  clear_began_is c (next.Answer a k) = rw f.whole
  clear_began_is c (next.Access x) = rw (clear_put f c).whole

  move_is : (n seen : ℕ) → guest_move_at n r seen ≡ guest_move_at n s seen
  move_is n seen = rw (service_is f, ready_is f, words_is f, head_is f (service_queue (ready_at s) seen).0)

  moved_is : (n : ℕ) (m : GuestMove) → guest_move_bytes n r m ≡ with_rest b (guest_move_bytes n s m)
  unfolding guest_move_bytes
  moved_is n m = rw (move_put m).whole

  cleared_is : (m : ClearMove) → clear_move_bytes r m ≡ with_rest b (clear_move_bytes s m)
  unfolding clear_move_bytes
  cleared_is m = rw (clear_move_put m).whole

  served_by : (n : ℕ) (m : GuestMove) (c : Bool) → cond c (wrote (encoded_answer NoCall 0) r) (guest_move_bytes n r m) ≡ with_rest b (cond c (wrote (encoded_answer NoCall 0) s) (guest_move_bytes n s m))
  served_by n m true = rw f.whole
  served_by n m false = moved_is n m

  served_is : (n seen : ℕ) → served_bytes n r seen ≡ with_rest b (served_bytes n s seen)
  served_is n seen = rw (move_is n seen, service_is f) (served_by n (guest_move_at n s seen) (not (is_serving (service_at s).stage)))

  replied_by : (n seen : ℕ) (c : Bool) → cond c (clear_move_bytes r (clear_staged (clear_call_at s) seen)) (served_bytes n r seen) ≡ with_rest b (cond c (clear_move_bytes s (clear_staged (clear_call_at s) seen)) (served_bytes n s seen))
  replied_by n seen true = cleared_is (clear_staged (clear_call_at s) seen)
  replied_by n seen false = served_is n seen

  replied_is : (n seen : ℕ) → replied_bytes n r seen ≡ with_rest b (replied_bytes n s seen)
  replied_is n seen = rw (clear_is f) (replied_by n seen (is_clearing (clear_call_at s).stage))

-- ---- by the first bytes of a record, as an exported function lends them

module _ {r s : List ℕ} (f : IsFirstChunk r s guest_size) where
  pub service_front : (n : ℕ) {x : EncodedNext} {d : List ℕ} → wrote x d ≡ began_of s (service_start n (without_heads 0 (service_at s) (clear_call_at s))) → wrote x (d ++ drop guest_size r) ≡ service_bytes n r
  unfolding service_bytes
  service_front n w =
      let g = first_front f in
      let o = service_start n (without_heads 0 (service_at s) (clear_call_at s)) in
      rw (long_enough g, service_is g, clear_is g) (ap (λ (c : Wrote). with_rest (drop guest_size r) c) w ∙ sym (began_is g o.guest.call o.next))

  pub clear_mask_front : (n p : ℕ) {x : EncodedNext} {d : List ℕ} → wrote x d ≡ clear_began_of s (clear_mask_start n (without_heads (words_at s) guest_idle (clear_call_at s)) (port_at (narrow p))) → wrote x (d ++ drop guest_size r) ≡ clear_mask_bytes n r p
  unfolding clear_mask_bytes
  clear_mask_front n p w =
      let g = first_front f in
      let o = clear_mask_start n (without_heads (words_at s) guest_idle (clear_call_at s)) (port_at (narrow p)) in
      rw (long_enough g, words_is g, clear_is g) (ap (λ (c : Wrote). with_rest (drop guest_size r) c) w ∙ sym (clear_began_is g o.guest.clear o.next))

  pub guest_reply_front : (n seen : ℕ) {x : EncodedNext} {d : List ℕ} → wrote x d ≡ replied_bytes n s seen → wrote x (d ++ drop guest_size r) ≡ guest_reply_bytes n r seen
  unfolding guest_reply_bytes
  guest_reply_front n seen w = let g = first_front f in rw (long_enough g) (ap (λ (c : Wrote). with_rest (drop guest_size r) c) w ∙ sym (replied_is g n seen))

  pub guest_due_front : (n : ℕ) → guest_due_at n s ≡ guest_due_bytes n r
  unfolding guest_due_bytes
  guest_due_front n = let g = first_front f in rw (long_enough g, clear_is g, service_is g) refl

  pub fresh_guest_front : {d : List ℕ} → d ≡ put_guest s fresh_guest → freshened 0 (d ++ drop guest_size r) ≡ fresh_guest_bytes r
  unfolding fresh_guest_bytes
  fresh_guest_front w =
      let g = first_front f in
      rw (long_enough g) (ap (λ (l : List ℕ). freshened 0 l) (ap (λ (l : List ℕ). l ++ drop guest_size r) w ∙ sym (guest_put g fresh_guest refl).whole))
