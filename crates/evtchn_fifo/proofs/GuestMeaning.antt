-- The guest's calls on bytes are the calls on the record that the bytes are.
-- Assumes nothing.
use Prim.Native.Nat.{ℕ, ◌<◌, ◌≤◌}
use mathlib.Core.Path.{◌≡◌, refl, sym, ap, ◌∙◌}
use mathlib.Core.Bool.{Bool, true, false, cond, not}
use mathlib.Core.List.{List}
use lib.ListN.{length, replicate}
use lib.Dec.{eqb, leb, ltb}
use borrow.Author.Tests.{le-leb, le-ltb, lt-ltb, not-false}
use Rattle.word.specs.declared.Queue.{Queue}
use Rattle.word.specs.declared.Flag.TheVariants.{Pending, Masked, Busy}
use Rattle.word.specs.Word.{has, link, port_at, queue_at}
use Rattle.word.specs.Effect.{cas_taken}
use Rattle.word.specs.Ready.{merged, lowest}
use Rattle.calls.specs.declared.types.Guest.{Guest}
use Rattle.calls.specs.declared.types.GuestCall.{GuestCall}
use Rattle.calls.specs.declared.types.GuestStage.{GuestStage}
use Rattle.calls.specs.declared.types.GuestStage.TheVariants.{None, G0, G1, G2, G3, G4}
use Rattle.calls.specs.declared.types.ClearStage.{ClearStage}
use Rattle.calls.specs.declared.types.ClearStage.TheVariants as clear_stage
use Rattle.calls.specs.declared.types.ClearCall.{ClearCall}
use Rattle.calls.specs.declared.types.Answer.TheVariants.{NoCall}
use Rattle.calls.specs.declared.guest.GuestMove.{GuestMove}
use Rattle.calls.specs.declared.clear_mask.ClearMove.{ClearMove}
use Rattle.calls.specs.Records.{is_port, guest_call_at, guest_idle, is_clearing, clear_at, clear_idle, fresh_guest}
use Rattle.calls.specs.ClearMask.{reply_read, reply_cas, clear_staged_at, clear_staged, clear_mask_start, clear_carried_out, guest_reply, guest_due_of}
use Rattle.calls.specs.Guest.{is_serving, service_queue, takes_index, reply_g0, reply_g2, reply_g3, reply_g4, guest_staged, guest_staged_at, guest_next, service_start, service_reply, guest_moved, guest_move, guest_carried_out, tell_of, with_words}
use Rattle.evtchn_fifo.specs.Numbers.{number_at, numbers_at, narrow}
use Rattle.evtchn_fifo.specs.Encoded.{encoded_next}
use Rattle.evtchn_fifo.specs.GuestRecord.{guest_size, guest_at, or_guest_idle, or_clear_idle, guest_stage_of, clear_stage_of, service_at, clear_call_at, ready_at, words_at, without_heads}
use Rattle.evtchn_fifo.specs.Guest.{service_next_at, told_bytes, service_bytes, served_bytes, guest_move_bytes, guest_move_at, tell_bytes, fresh_guest_bytes}
use Rattle.evtchn_fifo.specs.ClearMask.{clear_began_of, clear_mask_bytes, clear_move_bytes, guest_reply_bytes, guest_due_bytes}
use Rattle.evtchn_fifo.specs.Claims.{meant_guest, told_guest, GuestCalls}
use Rattle.evtchn_fifo.proofs.NumberLaws.{value_is}
use Rattle.evtchn_fifo.proofs.GuestLaws.{guest_call, guest_words, guest_move_lem, guest_clear, clear_move, guest_back, or_serving, the_stage, the_service, the_clear_stage, the_clear, service_next}

enough : (r : List ℕ) → guest_size ≤ length r → ltb (length r) guest_size ≡ false
enough r h = le-ltb (length r) guest_size h

too_few : (r : List ℕ) → length r < guest_size → ltb (length r) guest_size ≡ true
too_few r h = lt-ltb (length r) guest_size h

-- the number of words
the_words : (r : List ℕ) → (guest_at r).words ≡ words_at r
unfolding guest_at
the_words r = refl

-- ---- the start of a service

service_by : (n : ℕ) (r : List ℕ) (k b : Bool) → is_clearing (clear_call_at r).stage ≡ k → is_serving (service_at r).stage ≡ b → guest_size ≤ length r → meant_guest (service_bytes n r) ≡ told_guest (service_start n (guest_at r))
unfolding or_guest_idle service_bytes service_start guest_next encoded_next is_serving
service_by n r true b k e h =
    let k' : is_clearing (guest_at r).clear.stage ≡ true = rw (the_clear_stage r) k in
    rw (enough r h, k, k')
service_by n r false true k e h =
    let k' : is_clearing (guest_at r).clear.stage ≡ false = rw (the_clear_stage r) k in
    let e' : is_serving (guest_at r).call.stage ≡ true = rw (the_stage r) e in
    rw (enough r h, k, k', e, e')
service_by n r false false k e h =
    let k' : is_clearing (guest_at r).clear.stage ≡ false = rw (the_clear_stage r) k in
    let e' : is_serving (guest_at r).call.stage ≡ false = rw (the_stage r) e in
    rw (enough r h, k, k', e, e', guest_call r (guest_call_at G0 (port_at 0) (queue_at 0) 1) (le-leb guest_size (length r) h))

-- ---- the start of a clear_mask

clear_mask_by : (n : ℕ) (r : List ℕ) (p : ℕ) (k b o : Bool) → is_clearing (clear_call_at r).stage ≡ k → not (is_port n p) ≡ b → leb (words_at r) p ≡ o → guest_size ≤ length r →
    meant_guest (clear_began_of r (clear_mask_start n (without_heads (words_at r) guest_idle (clear_call_at r)) (port_at p))) ≡ told_guest (clear_mask_start n (guest_at r) (port_at p))
unfolding clear_mask_start encoded_next or_clear_idle is_clearing
clear_mask_by n r p true b o k e f h = let k' : is_clearing (guest_at r).clear.stage ≡ true = rw (the_clear_stage r) k in rw (k, k')
clear_mask_by n r p false true o k e f h = let k' : is_clearing (guest_at r).clear.stage ≡ false = rw (the_clear_stage r) k in rw (k, k', e)
clear_mask_by n r p false false true k e f h =
    let k' : is_clearing (guest_at r).clear.stage ≡ false = rw (the_clear_stage r) k in
    let f' : leb (guest_at r).words p ≡ true = rw (the_words r) f in
    rw (k, k', e, f, f')
clear_mask_by n r p false false false k e f h =
    let k' : is_clearing (guest_at r).clear.stage ≡ false = rw (the_clear_stage r) k in
    let f' : leb (guest_at r).words p ≡ false = rw (the_words r) f in
    rw (k, k', e, f, f', guest_clear r (clear_at clear_stage.Read (port_at p) 0 1) (le-leb guest_size (length r) h))

-- ---- the service's reply

move_is : (n : ℕ) (r : List ℕ) (seen : ℕ) → is_serving (service_at r).stage ≡ true → guest_move_at n r seen ≡ guest_move n (guest_at r) seen
unfolding guest_at
move_is n r seen e = rw (or_serving (service_at r) e, value_is 0 r (service_queue (ready_at r) seen).0)

-- a stage's service is none, or under way
abbrev Whole : GuestMove → Type 0
Whole m = or_guest_idle m.call ≡ m.call

whole_if : (b : Bool) (x y : GuestMove) → Whole x → Whole y → Whole (cond b x y)
whole_if true x y a b = a
whole_if false x y a b = b

idle_whole : or_guest_idle guest_idle ≡ guest_idle
unfolding or_guest_idle is_serving
idle_whole = refl

no_clear_whole : or_clear_idle clear_idle ≡ clear_idle
unfolding or_clear_idle is_clearing
no_clear_whole = refl

index_whole : (c : GuestCall) (ready words : ℕ) (q : Queue) (index : ℕ) → Whole (takes_index c ready words q index)
unfolding takes_index or_guest_idle is_serving
index_whole c ready words q index = whole_if (eqb index 0) _ _ refl (whole_if (leb words index) _ _ refl refl)

stage_whole : (n : ℕ) (s : GuestStage) (c : GuestCall) (ready words head seen : ℕ) → Whole (guest_staged_at n s c ready words head seen)
unfolding reply_g0 reply_g2 reply_g3 reply_g4 or_guest_idle is_serving
stage_whole n None c ready words head seen = refl
stage_whole n G0 c ready words head seen = whole_if (eqb (merged ready seen) 0) _ _ refl (whole_if (eqb head 0) _ _ refl (index_whole c (merged ready seen) words (queue_at (lowest (merged ready seen))) head))
stage_whole n G1 c ready words head seen = index_whole c ready words c.queue seen
stage_whole n G2 c ready words head seen = whole_if (eqb (link n seen) 0) _ _ refl refl
stage_whole n G3 c ready words head seen = whole_if (not (has Pending seen)) _ _ refl (whole_if (has Masked seen) _ _ refl refl)
stage_whole n G4 c ready words head seen = whole_if (has Pending seen) _ _ refl refl

staged_whole : (n : ℕ) (g : Guest) (seen : ℕ) → Whole (guest_move n g seen)
unfolding guest_staged
staged_whole n g seen = stage_whole n g.call.stage g.call g.ready g.words _ seen

moved_call : (g : Guest) (m : GuestMove) → (guest_moved g m).call ≡ m.call
unfolding guest_moved
moved_call g m = refl

moved_means : (n : ℕ) (r : List ℕ) (m : GuestMove) → Whole m → guest_size ≤ length r → meant_guest (guest_move_bytes n r m) ≡ told_guest (guest_carried_out n (guest_at r) m)
unfolding guest_move_bytes
moved_means n r m i h =
    let g = guest_moved (guest_at r) m in
    let s : service_next_at n m.call m.answer m.count ≡ encoded_next (guest_next n g m.answer m.count) = ap (λ (c : GuestCall). service_next_at n c m.answer m.count) (sym (moved_call (guest_at r) m)) ∙ service_next n g m.answer m.count in
    rw (s, guest_move_lem r m (le-leb guest_size (length r) h) i)

served_by : (n : ℕ) (r : List ℕ) (seen : ℕ) (b : Bool) → not (is_serving (service_at r).stage) ≡ b → guest_size ≤ length r → meant_guest (served_bytes n r seen) ≡ told_guest (service_reply n (guest_at r) seen)
unfolding service_reply encoded_next
served_by n r seen true e h =
    let e' : not (is_serving (guest_at r).call.stage) ≡ true = rw (the_stage r) e in
    rw (e, e')
served_by n r seen false e h =
    let e' : not (is_serving (guest_at r).call.stage) ≡ false = rw (the_stage r) e in
    rw (e, e') (ap (λ (m : GuestMove). meant_guest (guest_move_bytes n r m)) (move_is n r seen (not-false _ e)) ∙ moved_means n r (guest_move n (guest_at r) seen) (staged_whole n (guest_at r) seen) h)

-- ---- the clear_mask's reply, and hers

abbrev ClearWhole : ClearMove → Type 0
ClearWhole m = or_clear_idle m.call ≡ m.call

clear_if : (b : Bool) (x y : ClearMove) → ClearWhole x → ClearWhole y → ClearWhole (cond b x y)
clear_if true x y a b = a
clear_if false x y a b = b

clear_whole_at : (s : ClearStage) (c : ClearCall) (seen : ℕ) → ClearWhole (clear_staged_at s c seen)
unfolding reply_read reply_cas or_clear_idle is_clearing
clear_whole_at clear_stage.None c seen = refl
clear_whole_at clear_stage.Read c seen = clear_if (not (has Masked seen)) _ _ refl (clear_if (has Pending seen) _ _ refl (clear_if (has Busy seen) _ _ refl refl))
clear_whole_at clear_stage.Cas c seen = clear_if (cas_taken seen c.word) _ _ refl refl

clear_whole : (c : ClearCall) (seen : ℕ) → ClearWhole (clear_staged c seen)
unfolding clear_staged
clear_whole c seen = clear_whole_at c.stage c seen

cleared_means : (r : List ℕ) (m : ClearMove) → ClearWhole m → guest_size ≤ length r → meant_guest (clear_move_bytes r m) ≡ told_guest (clear_carried_out (guest_at r) m)
unfolding clear_move_bytes
cleared_means r m i h = rw (clear_move r m (le-leb guest_size (length r) h) i)

reply_by : (n : ℕ) (r : List ℕ) (seen : ℕ) (b : Bool) → is_clearing (clear_call_at r).stage ≡ b → guest_size ≤ length r → meant_guest (guest_reply_bytes n r seen) ≡ told_guest (guest_reply n (guest_at r) seen)
unfolding guest_reply_bytes guest_reply
reply_by n r seen true e h =
    let e' : is_clearing (guest_at r).clear.stage ≡ true = rw (the_clear_stage r) e in
    rw (enough r h, e, e', the_clear r e) (cleared_means r (clear_staged (clear_call_at r) seen) (clear_whole (clear_call_at r) seen) h)
reply_by n r seen false e h =
    let e' : is_clearing (guest_at r).clear.stage ≡ false = rw (the_clear_stage r) e in
    rw (enough r h, e, e') (served_by n r seen (not (is_serving (service_at r).stage)) refl h)

-- ---- tell

words_same : (r : List ℕ) → with_words (guest_at r) (words_at r) ≡ guest_at r
unfolding guest_at
words_same r = refl

tell_by : (r : List ℕ) (w : ℕ) (b : Bool) → ltb (words_at r) w ≡ b → leb guest_size (length r) ≡ true → meant_guest (told_bytes r (tell_of (without_heads (words_at r) guest_idle clear_idle) w)) ≡ told_guest (tell_of (guest_at r) w)
unfolding tell_of encoded_next
tell_by r w true e h = rw (e, the_words r, e, guest_words r w h)
tell_by r w false e h = rw (e, the_words r, e, guest_words r (words_at r) h, words_same r)

none_due : (n : ℕ) (c d : GuestCall) → is_serving c.stage ≡ false → is_serving d.stage ≡ false → service_next_at n c NoCall 0 ≡ service_next_at n d NoCall 0
unfolding service_next_at
none_due n c d e f = rw (e, f)

due_by : (n : ℕ) (r : List ℕ) (b : Bool) → is_serving (service_at r).stage ≡ b → service_next_at n (service_at r) NoCall 0 ≡ service_next_at n (guest_at r).call NoCall 0
due_by n r true e = rw (the_service r e)
due_by n r false e = none_due n (service_at r) (guest_at r).call e (rw (the_stage r) e)

service_due : (n : ℕ) (r : List ℕ) → service_next_at n (service_at r) NoCall 0 ≡ encoded_next (guest_next n (guest_at r) NoCall 0)
service_due n r = due_by n r (is_serving (service_at r).stage) refl ∙ service_next n (guest_at r) NoCall 0

due_means : (n : ℕ) (r : List ℕ) (b : Bool) → is_clearing (clear_call_at r).stage ≡ b → guest_size ≤ length r → guest_due_bytes n r ≡ encoded_next (guest_due_of n (guest_at r))
unfolding guest_due_bytes guest_due_of encoded_next
due_means n r true e h =
    let e' : is_clearing (guest_at r).clear.stage ≡ true = rw (the_clear_stage r) e in
    rw (enough r h, e, e', the_clear r e)
due_means n r false e h =
    let e' : is_clearing (guest_at r).clear.stage ≡ false = rw (the_clear_stage r) e in
    rw (enough r h, e, e') (service_due n r)

zeros_mean : guest_at (replicate guest_size 0) ≡ fresh_guest
unfolding guest_at or_guest_idle is_serving service_at guest_stage_of or_clear_idle is_clearing clear_call_at clear_stage_of number_at numbers_at
zeros_mean = refl

-- every call on a guest
pub guest_calls : (n : ℕ) → GuestCalls n
unfolding service_bytes clear_mask_bytes guest_reply_bytes tell_bytes fresh_guest_bytes
guest_calls n = record {
  read_back = λ r g h e. guest_back r g (le-leb guest_size (length r) h) e;
  service = record {
    means = λ r h. service_by n r (is_clearing (clear_call_at r).stage) (is_serving (service_at r).stage) refl refl h;
    short = λ r h. rw (too_few r h);
  };
  clear_mask_lem = λ p. record {
    means = λ r h. rw (enough r h) (clear_mask_by n r (narrow p) (is_clearing (clear_call_at r).stage) (not (is_port n (narrow p))) (leb (words_at r) (narrow p)) refl refl refl h);
    short = λ r h. rw (too_few r h);
  };
  reply = λ seen. record {
    means = λ r h. reply_by n r seen (is_clearing (clear_call_at r).stage) refl h;
    short = λ r h. rw (too_few r h);
  };
  due = λ r h. due_means n r (is_clearing (clear_call_at r).stage) refl h;
  tell = λ w. record {
    means = λ r h. rw (enough r h) (tell_by r (narrow w) (ltb (words_at r) (narrow w)) refl (le-leb guest_size (length r) h));
    short = λ r h. rw (too_few r h);
  };
  fresh = λ r h. rw (enough r h) (guest_back r fresh_guest (le-leb guest_size (length r) h) refl ∙ rw (idle_whole, no_clear_whole));
  zeros = zeros_mean;
}
