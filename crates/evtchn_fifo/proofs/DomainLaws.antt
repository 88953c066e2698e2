-- A domain's record in bytes: what a call writes, decoded.
-- Assumes nothing.
use Prim.Native.Nat.{ℕ}
use mathlib.Core.Path.{◌≡◌, refl, sym, ap, ◌∙◌}
use mathlib.Core.Bool.{Bool, true, false, cond, not, false≢true}
use mathlib.Core.List.{List}
use lib.ListN.{length, set}
use lib.Dec.{leb, ltb, eqb}
use borrow.Author.Tests.{leb-true}
use native.Mathlib.Omega.{arith}
use Rattle.word.specs.Entry.{priority, last_queue}
use Rattle.calls.specs.declared.types.Owner.{Owner}
use Rattle.calls.specs.declared.types.Owner.TheVariants as owner
use Rattle.calls.specs.declared.types.Stage.{Stage}
use Rattle.calls.specs.declared.types.Stage.TheVariants.{First, R2, R3, R4, SetBusy, ClearBusy, R5, R6}
use Rattle.calls.specs.declared.types.Call.{Call}
use Rattle.calls.specs.declared.types.Domain.{Domain}
use Rattle.calls.specs.declared.types.Answer.{Answer}
use Rattle.calls.specs.declared.hypervisor.stage.Move.{Move}
use Rattle.calls.specs.Records.{is_free, idle_call, with_call}
use Rattle.calls.specs.Hypervisor.{view_of, moved, next_of}
use Rattle.evtchn_fifo.specs.Numbers.{number_at, put_number, numbers_at, put_value, put_values}
use Rattle.evtchn_fifo.specs.Encoded.{encoded_next}
use Rattle.evtchn_fifo.specs.DomainRecord.{put_tail, owner_code, owner_of, stage_code, stage_of, given_code, given_at, owner_at, call_at, view_at, domain_at, or_idle, put_next, put_call, put_end, put_move, put_domain}
use Rattle.evtchn_fifo.specs.Hypervisor.{next_at}
use Rattle.evtchn_fifo.proofs.NumberLaws.{length_value, length_put, read_back, kept_before, kept_after, numbers_kept, value_is, values_set, value_before, value_after, length_puts, kept_below, sixteen_back, numbers_after}

-- ---- codes

owner_back : (o : Owner) → owner_of (owner_code o) ≡ o
unfolding owner_of
owner_back owner.None = refl
owner_back owner.Bind = refl
owner_back owner.Close = refl
owner_back owner.Raise = refl
owner_back owner.Unmask = refl

stage_back : (s : Stage) → stage_of (stage_code s) ≡ s
unfolding stage_of
stage_back First = refl
stage_back R2 = refl
stage_back R3 = refl
stage_back R4 = refl
stage_back R5 = refl
stage_back R6 = refl
stage_back SetBusy = refl
stage_back ClearBusy = refl

stage_known : (s : Stage) → ltb (stage_code s) 8 ≡ true
stage_known First = refl
stage_known R2 = refl
stage_known R3 = refl
stage_known R4 = refl
stage_known R5 = refl
stage_known R6 = refl
stage_known SetBusy = refl
stage_known ClearBusy = refl

given_back : (b : Bool) → not (eqb (given_code b) 0) ≡ b
given_back true = refl
given_back false = refl

-- ---- the call under way, written and read

call_back : (r : List ℕ) (c : Call) → leb 100 (length r) ≡ true → call_at (put_call r c) ≡ c
unfolding call_at owner_at put_call put_next
call_back r c h = simp (read_back 100, kept_before, kept_after, length_put, h, stage_known, owner_back, stage_back)

given_kept : (r : List ℕ) (c : Call) → given_at (put_call r c) ≡ given_at r
unfolding given_at put_call put_next
given_kept r c = simp kept_before

pages_kept : (r : List ℕ) (c : Call) → number_at 3 (put_call r c) 4 ≡ number_at 3 r 4
unfolding put_call put_next
pages_kept r c = simp kept_before

tails_kept : (r : List ℕ) (c : Call) → numbers_at 3 (put_call r c) 8 16 ≡ numbers_at 3 r 8 16
unfolding put_call put_next
tails_kept r c = simp numbers_kept

-- the record with a call under way
pub domain_call : (r : List ℕ) (c : Call) → leb 100 (length r) ≡ true → domain_at (put_call r c) ≡ with_call (domain_at r) (or_idle c)
unfolding domain_at
domain_call r c h = rw (given_kept r c, pages_kept r c, tails_kept r c, call_back r c h)

-- ---- one tail changed

pub call_apart : (r : List ℕ) (q v : ℕ) → call_at (put_value 8 r q v) ≡ call_at r
unfolding call_at owner_at
call_apart r q v = simp value_after

given_apart : (r : List ℕ) (q v : ℕ) → given_at (put_value 8 r q v) ≡ given_at r
unfolding given_at
given_apart r q v = simp value_before

abbrev tailed : List ℕ → ℕ → ℕ → Domain
tailed r q v = record { given = given_at r; pages = number_at 3 r 4; tails = set (numbers_at 3 r 8 16) q v; call = or_idle (call_at r) }

domain_tail : (r : List ℕ) (q v : ℕ) → leb 100 (length r) ≡ true → domain_at (put_value 8 r q v) ≡ tailed r q v
unfolding domain_at
domain_tail r q v h =
    let l = leb-true 100 (length r) h in
    rw (given_apart r q v, value_before 8 r q v 4 refl, values_set 8 r q v (omega arith), call_apart r q v)

-- ---- the call ended

free_none : (o : Owner) → is_free o ≡ true → o ≡ owner.None
unfolding is_free
free_none owner.None e = refl
free_none owner.Bind e = absurd (false≢true e)
free_none owner.Close e = absurd (false≢true e)
free_none owner.Raise e = absurd (false≢true e)
free_none owner.Unmask e = absurd (false≢true e)

owner_by : (c : Call) (b : Bool) → is_free c.owner ≡ b → (or_idle c).owner ≡ c.owner
unfolding or_idle
owner_by c true e = rw e (sym (free_none c.owner e))
owner_by c false e = rw e

pub or_owner : (c : Call) → (or_idle c).owner ≡ c.owner
or_owner c = owner_by c (is_free c.owner) refl

pub or_busy : (c : Call) → is_free c.owner ≡ false → or_idle c ≡ c
unfolding or_idle
or_busy c e = rw e

or_free : (c : Call) → is_free c.owner ≡ true → or_idle c ≡ idle_call
unfolding or_idle
or_free c e = rw e

none_if : (b : Bool) → is_free (cond b owner.None owner.None) ≡ true
unfolding is_free
none_if true = refl
none_if false = refl

ended_free : (r : List ℕ) → leb 100 (length r) ≡ true → is_free (call_at (put_end r)).owner ≡ true
unfolding call_at owner_at owner_of
ended_free r h = rw (read_back 100 r 72 0 h refl) (none_if (ltb (number_at 3 (put_end r) 76) 8))

pub domain_end : (r : List ℕ) → leb 100 (length r) ≡ true → domain_at (put_end r) ≡ with_call (domain_at r) idle_call
unfolding domain_at given_at
domain_end r h = rw (kept_before r 72 0 0 refl, kept_before r 72 0 4 refl, numbers_kept r 72 0 8 refl, or_free (call_at (put_end r)) (ended_free r h))

-- the record after a stage
move_by : (r : List ℕ) (m : Move) (b : Bool) → is_free m.call.owner ≡ b → leb 100 (length r) ≡ true → or_idle m.call ≡ m.call → domain_at (put_move r m) ≡ with_call (tailed r m.queue.0 m.tail) m.call
move_by r m true e h i =
    let s = put_tail r m.queue.0 m.tail in
    rw e (domain_end s (rw (length_value 8 r m.queue.0 m.tail) h) ∙ ap (λ (d : Domain). with_call d idle_call) (domain_tail r m.queue.0 m.tail h) ∙ ap (λ (c : Call). with_call (tailed r m.queue.0 m.tail) c) (sym (or_free m.call e) ∙ i))
move_by r m false e h i =
    let s = put_tail r m.queue.0 m.tail in
    rw e (domain_call s m.call (rw (length_value 8 r m.queue.0 m.tail) h) ∙ ap (λ (d : Domain). with_call d (or_idle m.call)) (domain_tail r m.queue.0 m.tail h) ∙ ap (λ (c : Call). with_call (tailed r m.queue.0 m.tail) c) i)

tailed_moved : (r : List ℕ) (m : Move) → with_call (tailed r m.queue.0 m.tail) m.call ≡ moved (domain_at r) m
unfolding domain_at moved
tailed_moved r m = refl

pub domain_move : (r : List ℕ) (m : Move) → leb 100 (length r) ≡ true → or_idle m.call ≡ m.call → domain_at (put_move r m) ≡ moved (domain_at r) m
domain_move r m h i = move_by r m (is_free m.call.owner) refl h i ∙ tailed_moved r m

-- ---- given and pages changed

abbrev given_with : List ℕ → Domain
given_with r = record { given = true; pages = (domain_at r).pages; tails = (domain_at r).tails; call = (domain_at r).call }

pub domain_given : (r : List ℕ) → leb 100 (length r) ≡ true → domain_at (put_number 3 r 0 1) ≡ given_with r
unfolding domain_at given_at call_at owner_at
domain_given r h = simp (read_back 100, kept_after, h, numbers_after 16 3 3 r 0 1 8 (omega arith))

abbrev pages_with : List ℕ → ℕ → Domain
pages_with r v = record { given = (domain_at r).given; pages = v; tails = (domain_at r).tails; call = (domain_at r).call }

pub domain_pages : (r : List ℕ) (v : ℕ) → leb 100 (length r) ≡ true → domain_at (put_number 3 r 4 v) ≡ pages_with r v
unfolding domain_at given_at call_at owner_at
domain_pages r v h = simp (read_back 100, kept_before, kept_after, h, numbers_after 16 3 3 r 4 v 8 (omega arith))

-- ---- a record written whole

with_parts : (w : List ℕ) (d : Domain) → given_at w ≡ d.given → number_at 3 w 4 ≡ d.pages → numbers_at 3 w 8 16 ≡ d.tails → with_call (domain_at w) (or_idle d.call) ≡ with_call d (or_idle d.call)
unfolding domain_at
with_parts w d g p t = rw (g, p, t)

pub domain_back : (r : List ℕ) (d : Domain) → leb 100 (length r) ≡ true → length d.tails ≡ 16 → domain_at (put_domain r d) ≡ with_call d (or_idle d.call)
unfolding put_domain given_at
domain_back r d h n =
    let s = put_number 3 (put_number 3 r 0 (given_code d.given)) 4 d.pages in
    let w = put_values 8 s d.tails in
    let ls : length s ≡ length r = simp length_put in
    let lw : length w ≡ length r = length_puts d.tails 3 s 8 ∙ ls in
    let g : given_at w ≡ d.given = simp (kept_below, kept_before, read_back 100, h) (given_back d.given) in
    let p : number_at 3 w 4 ≡ d.pages = simp (kept_below, read_back 100, length_put, h) in
    let t : numbers_at 3 w 8 16 ≡ d.tails = sixteen_back 100 d.tails s 8 n (rw ls h) refl in
    domain_call w d.call (rw lw h) ∙ with_parts w d g p t

-- ---- what a call looks at

pub view_is : (r : List ℕ) (e : ℕ) → view_at r e ≡ view_of (domain_at r) e
unfolding view_at view_of domain_at
view_is r e = rw (value_is 8 r (priority e), value_is 8 r (last_queue e))

-- a call's words hold no tail
pub next_kept : (n : ℕ) (r : List ℕ) (c : Call) (a : Answer) (k : ℕ) → next_at n (put_call r c) c a k ≡ next_at n r c a k
unfolding next_at
next_kept n r c a k = rw (value_is 8 (put_call r c) c.queue.0, tails_kept r c, ← (value_is 8 r c.queue.0))

next_by : (n : ℕ) (r : List ℕ) (a : Answer) (k : ℕ) (b : Bool) → is_free (call_at r).owner ≡ b → next_at n r (call_at r) a k ≡ encoded_next (next_of n (domain_at r) a k)
unfolding next_at next_of domain_at encoded_next
next_by n r a k true e = rw (or_owner (call_at r), e)
next_by n r a k false e = rw (or_busy (call_at r) e, e, value_is 8 r (call_at r).queue.0)

-- the access that is due, or the answer
pub next_is : (n : ℕ) (r : List ℕ) (a : Answer) (k : ℕ) → next_at n r (call_at r) a k ≡ encoded_next (next_of n (domain_at r) a k)
next_is n r a k = next_by n r a k (is_free (call_at r).owner) refl

call_next : (n : ℕ) (r : List ℕ) (c : Call) (a : Answer) (k : ℕ) (b : Bool) → is_free c.owner ≡ b → next_at n r c a k ≡ encoded_next (next_of n (with_call (domain_at r) c) a k)
unfolding next_at next_of domain_at encoded_next
call_next n r c a k true e = rw e
call_next n r c a k false e = rw (e, value_is 8 r c.queue.0)

-- the same after a call was written
pub next_call : (n : ℕ) (r : List ℕ) (c : Call) (a : Answer) (k : ℕ) → next_at n (put_call r c) c a k ≡ encoded_next (next_of n (with_call (domain_at r) c) a k)
next_call n r c a k = next_kept n r c a k ∙ call_next n r c a k (is_free c.owner) refl

free_next : (n : ℕ) (r s : List ℕ) (c : Call) (a : Answer) (k : ℕ) → is_free c.owner ≡ true → next_at n r c a k ≡ next_at n s c a k
unfolding next_at
free_next n r s c a k e = rw e

move_next : (n : ℕ) (r : List ℕ) (m : Move) (b : Bool) → is_free m.call.owner ≡ b → next_at n (put_move r m) m.call m.answer m.count ≡ next_at n (put_tail r m.queue.0 m.tail) m.call m.answer m.count
move_next n r m true e = free_next n (put_move r m) (put_tail r m.queue.0 m.tail) m.call m.answer m.count e
move_next n r m false e = rw e (next_kept n (put_tail r m.queue.0 m.tail) m.call m.answer m.count)

-- and after a stage
pub next_move : (n : ℕ) (r : List ℕ) (m : Move) → leb 100 (length r) ≡ true → next_at n (put_move r m) m.call m.answer m.count ≡ encoded_next (next_of n (moved (domain_at r) m) m.answer m.count)
next_move n r m h =
    let s = put_tail r m.queue.0 m.tail in
    move_next n r m (is_free m.call.owner) refl ∙ call_next n s m.call m.answer m.count (is_free m.call.owner) refl ∙ ap (λ (d : Domain). encoded_next (next_of n (with_call d m.call) m.answer m.count)) (domain_tail r m.queue.0 m.tail h) ∙ ap (λ (d : Domain). encoded_next (next_of n d m.answer m.count)) (tailed_moved r m)
