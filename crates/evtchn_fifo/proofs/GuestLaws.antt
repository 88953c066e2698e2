-- A guest's record in bytes: what a call writes, decoded.
-- Assumes nothing.
use Prim.Native.Nat.{ℕ, zero, suc, ◌+◌, ◌≤◌}
use mathlib.Core.Path.{◌≡◌, refl, ap, ◌∙◌}
use mathlib.Core.Bool.{Bool, true, false, cond, not}
use mathlib.Core.List.{List}
use lib.ListN.{length}
use lib.Dec.{leb, ltb}
use borrow.Author.Tests.{leb-true, le-ltb, lt-ltb, ne_eqb}
use native.Mathlib.Omega.{arith}
use Rattle.calls.specs.declared.types.GuestStage.{GuestStage}
use Rattle.calls.specs.declared.types.GuestStage.TheVariants.{None, G0, G1, G2, G3, G4}
use Rattle.calls.specs.declared.types.GuestCall.{GuestCall}
use Rattle.calls.specs.declared.types.ClearStage.{ClearStage}
use Rattle.calls.specs.declared.types.ClearStage.TheVariants as clear_stage
use Rattle.calls.specs.declared.types.ClearCall.{ClearCall}
use Rattle.calls.specs.declared.types.Guest.{Guest}
use Rattle.calls.specs.declared.types.Answer.{Answer}
use Rattle.calls.specs.Records.{guest_idle, is_clearing, clear_idle}
use Rattle.calls.specs.declared.guest.GuestMove.{GuestMove}
use Rattle.calls.specs.declared.clear_mask.ClearMove.{ClearMove}
use Rattle.calls.specs.Guest.{is_serving, guest_moved, guest_next, with_guest_call, with_words}
use Rattle.calls.specs.ClearMask.{with_clear}
use Rattle.evtchn_fifo.specs.Numbers.{number_at, put_number, numbers_at, put_values}
use Rattle.evtchn_fifo.specs.Encoded.{encoded_next}
use Rattle.evtchn_fifo.specs.GuestRecord.{guest_stage_code, guest_stage_of, clear_stage_code, clear_stage_of, service_at, or_guest_idle, clear_call_at, or_clear_idle, guest_at, put_service, put_service_end, put_ready, put_guest_move, put_clear, put_clear_end, put_clear_move, put_guest}
use Rattle.evtchn_fifo.specs.Guest.{service_next_at}
use Rattle.evtchn_fifo.proofs.NumberLaws.{length_put, length_value, before, after, read_back, kept_before, kept_after, numbers_kept, values_set, value_after, length_puts, sixteen_back}

guest_stage_back : (s : GuestStage) → guest_stage_of (guest_stage_code s) ≡ s
unfolding guest_stage_of
guest_stage_back None = refl
guest_stage_back G0 = refl
guest_stage_back G1 = refl
guest_stage_back G2 = refl
guest_stage_back G3 = refl
guest_stage_back G4 = refl

clear_stage_back : (s : ClearStage) → clear_stage_of (clear_stage_code s) ≡ s
unfolding clear_stage_of
clear_stage_back clear_stage.None = refl
clear_stage_back clear_stage.Read = refl
clear_stage_back clear_stage.Cas = refl

-- ---- the service under way, written and read

service_back : (r : List ℕ) (c : GuestCall) → leb 104 (length r) ≡ true → service_at (put_service r c) ≡ c
unfolding service_at put_service
service_back r c h = simp (read_back 104, kept_before, length_put, h, guest_stage_back)

number_kept : (r : List ℕ) (c : GuestCall) (at : ℕ) → leb (at + 4) 72 ≡ true → number_at 3 (put_service r c) at ≡ number_at 3 r at
unfolding put_service
number_kept r c at h =
    let l = leb-true (at + 4) 72 h in
    let stage = put_number 3 r 72 (guest_stage_code c.stage) in
    let port = put_number 3 stage 76 c.port.0 in
    let queue = put_number 3 port 80 c.queue.0 in
    before 3 3 queue 84 c.count at (omega arith) ∙ before 3 3 port 80 c.queue.0 at (omega arith) ∙ before 3 3 stage 76 c.port.0 at (omega arith) ∙ before 3 3 r 72 (guest_stage_code c.stage) at l

heads_kept : (r : List ℕ) (c : GuestCall) → numbers_at 3 (put_service r c) 0 16 ≡ numbers_at 3 r 0 16
unfolding put_service
heads_kept r c = simp numbers_kept

clear_apart : (r : List ℕ) (c : GuestCall) → clear_call_at (put_service r c) ≡ clear_call_at r
unfolding clear_call_at put_service
clear_apart r c = simp kept_after

length_service : (r : List ℕ) (c : GuestCall) → length (put_service r c) ≡ length r
unfolding put_service
length_service r c = simp length_put

-- the record with a service under way
pub guest_call : (r : List ℕ) (c : GuestCall) → leb 104 (length r) ≡ true → guest_at (put_service r c) ≡ with_guest_call (guest_at r) (or_guest_idle c)
unfolding guest_at
guest_call r c h = rw (heads_kept r c, number_kept r c 64 refl, number_kept r c 68 refl, service_back r c h, clear_apart r c)

-- ---- ready bits, words and one head changed

service_kept : (r : List ℕ) (i v : ℕ) → leb (i + 4) 72 ≡ true → service_at (put_number 3 r i v) ≡ service_at r
unfolding service_at
service_kept r i v h =
    let l = leb-true (i + 4) 72 h in
    rw (after 3 3 r i v 72 l, after 3 3 r i v 76 (omega arith), after 3 3 r i v 80 (omega arith), after 3 3 r i v 84 (omega arith))

clear_kept : (r : List ℕ) (i v : ℕ) → leb (i + 4) 88 ≡ true → clear_call_at (put_number 3 r i v) ≡ clear_call_at r
unfolding clear_call_at
clear_kept r i v h =
    let l = leb-true (i + 4) 88 h in
    rw (after 3 3 r i v 88 l, after 3 3 r i v 92 (omega arith), after 3 3 r i v 96 (omega arith), after 3 3 r i v 100 (omega arith))

pub guest_words : (r : List ℕ) (v : ℕ) → leb 104 (length r) ≡ true → guest_at (put_number 3 r 68 v) ≡ with_words (guest_at r) v
unfolding guest_at
guest_words r v h = rw (numbers_kept r 68 v 0 refl, kept_before r 68 v 64 refl, read_back 104 r 68 v h refl, service_kept r 68 v refl, clear_kept r 68 v refl)

-- ---- the service ended

or_free : (c : GuestCall) → is_serving c.stage ≡ false → or_guest_idle c ≡ guest_idle
unfolding or_guest_idle
or_free c e = rw e

pub or_serving : (c : GuestCall) → is_serving c.stage ≡ true → or_guest_idle c ≡ c
unfolding or_guest_idle
or_serving c e = rw e

ended_free : (r : List ℕ) → leb 104 (length r) ≡ true → is_serving (service_at (put_service_end r)).stage ≡ false
unfolding service_at guest_stage_of is_serving
ended_free r h = rw (read_back 104 r 72 0 h refl)

guest_end : (r : List ℕ) → leb 104 (length r) ≡ true → guest_at (put_service_end r) ≡ with_guest_call (guest_at r) guest_idle
unfolding guest_at
guest_end r h = rw (numbers_kept r 72 0 0 refl, kept_before r 72 0 64 refl, kept_before r 72 0 68 refl, or_free (service_at (put_service_end r)) (ended_free r h), clear_kept r 72 0 refl)

-- ---- the record after a stage

clear_ready : (r : List ℕ) (m : GuestMove) → clear_call_at (put_ready r m) ≡ clear_call_at r
unfolding clear_call_at
clear_ready r m = simp (value_after, kept_after)

guest_ready : (r : List ℕ) (m : GuestMove) → leb 104 (length r) ≡ true → with_guest_call (guest_at (put_ready r m)) m.call ≡ guest_moved (guest_at r) m
unfolding guest_moved guest_at
guest_ready r m h =
    let w = put_number 3 r 64 m.ready in
    let k : leb 104 (length w) ≡ true = rw (length_put 3 r 64 m.ready) h in
    let l = leb-true 104 (length w) k in
    rw (values_set 0 w m.queue.0 m.head (omega arith), numbers_kept r 64 m.ready 0 refl, value_after 0 w m.queue.0 m.head 64 refl, read_back 104 r 64 m.ready h refl, value_after 0 w m.queue.0 m.head 68 refl, kept_after r 64 m.ready 68 refl, clear_ready r m)

length_ready : (r : List ℕ) (m : GuestMove) → length (put_ready r m) ≡ length r
length_ready r m = length_value 0 (put_number 3 r 64 m.ready) m.queue.0 m.head ∙ length_put 3 r 64 m.ready

move_by : (r : List ℕ) (m : GuestMove) (b : Bool) → is_serving m.call.stage ≡ b → leb 104 (length r) ≡ true → guest_at (put_guest_move r m) ≡ with_guest_call (guest_at (put_ready r m)) (or_guest_idle m.call)
move_by r m true e h = rw e (guest_call (put_ready r m) m.call (rw (length_ready r m) h))
move_by r m false e h = rw (e, or_free m.call e) (guest_end (put_ready r m) (rw (length_ready r m) h))

pub guest_move_lem : (r : List ℕ) (m : GuestMove) → leb 104 (length r) ≡ true → or_guest_idle m.call ≡ m.call → guest_at (put_guest_move r m) ≡ guest_moved (guest_at r) m
guest_move_lem r m h i = move_by r m (is_serving m.call.stage) refl h ∙ ap (λ (c : GuestCall). with_guest_call (guest_at (put_ready r m)) c) i ∙ guest_ready r m h

-- ---- the clear_mask under way, written, ended and read

clear_back : (r : List ℕ) (c : ClearCall) → leb 104 (length r) ≡ true → clear_call_at (put_clear r c) ≡ c
unfolding clear_call_at put_clear
clear_back r c h = simp (read_back 104, kept_before, length_put, h, clear_stage_back)

service_apart : (r : List ℕ) (c : ClearCall) → service_at (put_clear r c) ≡ service_at r
unfolding service_at put_clear
service_apart r c = simp kept_before

clear_numbers_kept : (r : List ℕ) (c : ClearCall) → (numbers_at 3 (put_clear r c) 0 16 ≡ numbers_at 3 r 0 16) × (number_at 3 (put_clear r c) 64 ≡ number_at 3 r 64) × (number_at 3 (put_clear r c) 68 ≡ number_at 3 r 68)
unfolding put_clear
clear_numbers_kept r c = (simp numbers_kept, simp kept_before, simp kept_before)

-- the record with a clear_mask under way
pub guest_clear : (r : List ℕ) (c : ClearCall) → leb 104 (length r) ≡ true → guest_at (put_clear r c) ≡ with_clear (guest_at r) (or_clear_idle c)
unfolding guest_at
guest_clear r c h = let k = clear_numbers_kept r c in rw (k.0, k.1, k.2, service_apart r c, clear_back r c h)

or_none : (c : ClearCall) → is_clearing c.stage ≡ false → or_clear_idle c ≡ clear_idle
unfolding or_clear_idle
or_none c e = rw e

pub or_clearing : (c : ClearCall) → is_clearing c.stage ≡ true → or_clear_idle c ≡ c
unfolding or_clear_idle
or_clearing c e = rw e

cleared_free : (r : List ℕ) → leb 104 (length r) ≡ true → is_clearing (clear_call_at (put_clear_end r)).stage ≡ false
unfolding clear_call_at clear_stage_of is_clearing
cleared_free r h = rw (read_back 104 r 88 0 h refl)

service_before : (r : List ℕ) → service_at (put_clear_end r) ≡ service_at r
unfolding service_at
service_before r = simp kept_before

clear_end : (r : List ℕ) → leb 104 (length r) ≡ true → guest_at (put_clear_end r) ≡ with_clear (guest_at r) clear_idle
unfolding guest_at
clear_end r h =
    rw (numbers_kept r 88 0 0 refl, kept_before r 88 0 64 refl, kept_before r 88 0 68 refl, service_before r, or_none (clear_call_at (put_clear_end r)) (cleared_free r h))

-- the record after a stage of it
clear_by : (r : List ℕ) (m : ClearMove) (b : Bool) → is_clearing m.call.stage ≡ b → leb 104 (length r) ≡ true → guest_at (put_clear_move r m) ≡ with_clear (guest_at r) (or_clear_idle m.call)
clear_by r m true e h = rw e (guest_clear r m.call h)
clear_by r m false e h = rw (e, or_none m.call e) (clear_end r h)

pub clear_move : (r : List ℕ) (m : ClearMove) → leb 104 (length r) ≡ true → or_clear_idle m.call ≡ m.call → guest_at (put_clear_move r m) ≡ with_clear (guest_at r) m.call
clear_move r m h i = clear_by r m (is_clearing m.call.stage) refl h ∙ ap (λ (c : ClearCall). with_clear (guest_at r) c) i

-- ---- a record written whole

with_parts : (w : List ℕ) (g : Guest) (c : GuestCall) (k : ClearCall) → numbers_at 3 w 0 16 ≡ g.heads → number_at 3 w 64 ≡ g.ready → number_at 3 w 68 ≡ g.words → with_clear (with_guest_call (guest_at w) c) k ≡ with_clear (with_guest_call g c) k
unfolding guest_at
with_parts w g c k x y z = rw (x, y, z)

pub guest_back : (r : List ℕ) (g : Guest) → leb 104 (length r) ≡ true → length g.heads ≡ 16 → guest_at (put_guest r g) ≡ with_clear (with_guest_call g (or_guest_idle g.call)) (or_clear_idle g.clear)
unfolding put_guest
guest_back r g h n =
    let s = put_values 0 r g.heads in
    let u = put_number 3 s 64 g.ready in
    let w = put_number 3 u 68 g.words in
    let v = put_service w g.call in
    let ls : length s ≡ length r = length_puts g.heads 3 r 0 in
    let lu : length u ≡ length r = length_put 3 s 64 g.ready ∙ ls in
    let lw : length w ≡ length r = length_put 3 u 68 g.words ∙ lu in
    let lv : length v ≡ length r = length_service w g.call ∙ lw in
    let a : numbers_at 3 w 0 16 ≡ g.heads = numbers_kept u 68 g.words 0 refl ∙ numbers_kept s 64 g.ready 0 refl ∙ sixteen_back 104 g.heads r 0 n h refl in
    let b : number_at 3 w 64 ≡ g.ready = kept_before u 68 g.words 64 refl ∙ read_back 104 s 64 g.ready (rw ls h) refl in
    let c : number_at 3 w 68 ≡ g.words = read_back 104 u 68 g.words (rw lu h) refl in
    guest_clear v g.clear (rw lv h) ∙ ap (λ (x : Guest). with_clear x (or_clear_idle g.clear)) (guest_call w g.call (rw lw h)) ∙ with_parts w g (or_guest_idle g.call) (or_clear_idle g.clear) a b c

-- ---- the access that is due, or the answer

or_stage : (c : GuestCall) (s : GuestStage) → c.stage ≡ s → (or_guest_idle c).stage ≡ s
unfolding or_guest_idle is_serving
or_stage c None e = rw e
or_stage c G0 e = rw e
or_stage c G1 e = rw e
or_stage c G2 e = rw e
or_stage c G3 e = rw e
or_stage c G4 e = rw e

pub the_stage : (r : List ℕ) → (guest_at r).call.stage ≡ (service_at r).stage
unfolding guest_at
the_stage r = or_stage (service_at r) (service_at r).stage refl

-- a service under way is the one that the bytes are
pub the_service : (r : List ℕ) → is_serving (service_at r).stage ≡ true → (guest_at r).call ≡ service_at r
unfolding guest_at
the_service r e = or_serving (service_at r) e

next_by : (n : ℕ) (g : Guest) (a : Answer) (k : ℕ) (b : Bool) → not (is_serving g.call.stage) ≡ b → service_next_at n g.call a k ≡ encoded_next (guest_next n g a k)
unfolding service_next_at guest_next encoded_next
next_by n g a k true e = rw e
next_by n g a k false e = rw e

pub service_next : (n : ℕ) (g : Guest) (a : Answer) (k : ℕ) → service_next_at n g.call a k ≡ encoded_next (guest_next n g a k)
service_next n g a k = next_by n g a k (not (is_serving g.call.stage)) refl

-- ---- the clear_mask that the bytes are

clear_stage_by : (c : ClearCall) (s : ClearStage) → c.stage ≡ s → (or_clear_idle c).stage ≡ s
unfolding or_clear_idle is_clearing
clear_stage_by c clear_stage.None e = rw e
clear_stage_by c clear_stage.Read e = rw e
clear_stage_by c clear_stage.Cas e = rw e

pub the_clear_stage : (r : List ℕ) → (guest_at r).clear.stage ≡ (clear_call_at r).stage
unfolding guest_at
the_clear_stage r = clear_stage_by (clear_call_at r) (clear_call_at r).stage refl

pub the_clear : (r : List ℕ) → is_clearing (clear_call_at r).stage ≡ true → (guest_at r).clear ≡ clear_call_at r
unfolding guest_at
the_clear r e = or_clearing (clear_call_at r) e

-- a clear_mask is under way, told by the code of its stage
high_clearing : (k : ℕ) → 3 ≤ k → is_clearing (clear_stage_of k) ≡ cond (ltb 0 k) (ltb k 3) false
unfolding is_clearing clear_stage_of
high_clearing k h = simp (ne_eqb k 1 (λ e. omega arith), ne_eqb k 2 (λ e. omega arith), lt-ltb 0 k (omega arith), le-ltb k 3 h)

pub clearing_is : (k : ℕ) → is_clearing (clear_stage_of k) ≡ cond (ltb 0 k) (ltb k 3) false
unfolding is_clearing clear_stage_of
clearing_is zero = refl
clearing_is (suc zero) = refl
clearing_is (suc (suc zero)) = refl
clearing_is (suc (suc (suc k))) = high_clearing (suc (suc (suc k))) (omega arith)
