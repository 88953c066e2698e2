-- What a stage writes in place is what its move writes: the bytes of the calls' definitions, and no others.
-- Assumes nothing.
use Rattle.std.specs.Prelude.{Some}
use Prim.Native.Nat.{ℕ, zero, suc, ◌+◌, ◌*◌, ◌≤◌, ◌<◌}
use mathlib.Core.Path.{◌≡◌, refl, sym, ap, ◌∙◌}
use mathlib.Core.Bool.{Bool, true, false, cond, not, true≢false}
use mathlib.Core.List.{List, ◌++◌}
use mathlib.Core.Logic.{◌⊎◌, inl, inr}
use lib.ListN.{length, get_or, take, drop}
use lib.Dec.{eqb, ltb, leb}
use native.Mathlib.Omega.{arith}
use borrow.Author.Tests.{lt-ltb, le-ltb, not-true, not-false}
use Rattle.word.specs.declared.Queue.{Queue}
use Rattle.word.specs.declared.Port.{Port}
use Rattle.word.specs.declared.Flag.TheVariants.{Pending, Masked, Linked}
use Rattle.word.specs.Word.{has, queue_at}
use Rattle.word.specs.Effect.{cas_taken}
use Rattle.word.specs.Ready.{is_ready}
use Rattle.word.specs.Entry.{priority, last_queue, ever_linked, linked_entry}
use Rattle.calls.specs.declared.types.Owner.{Owner}
use Rattle.calls.specs.declared.types.Owner.TheVariants as owner
use Rattle.calls.specs.declared.types.Stage.{Stage}
use Rattle.calls.specs.declared.types.Stage.TheVariants.{First, R2, R3, R4, R5, R6, SetBusy, ClearBusy}
use Rattle.calls.specs.declared.types.Call.{Call}
use Rattle.calls.specs.declared.types.Answer.{Answer}
use Rattle.calls.specs.declared.types.Answer.TheVariants.{Done}
use Rattle.calls.specs.declared.hypervisor.stage.Move.{Move}
use Rattle.calls.specs.declared.hypervisor.stage.View.{View}
use Rattle.calls.specs.Records.{is_free, idle_call}
use Rattle.calls.specs.Hypervisor.{goes_on, named, due, stale_queue, reply_r1, reply_u1, reply_bind, reply_close, reply_first, reply_first_of, after_r2, reply_r2, reply_r3, after_first_cas, after_later_cas, reply_r4, reply_set_busy, reply_clear_busy, reply_r5, reply_r6, staged, staged_at}
use Rattle.evtchn_fifo.specs.Numbers.{number_at, put_number, put_value}
use Rattle.evtchn_fifo.specs.Encoded.{EncodedNext, Wrote, wrote, carried, encoded_access}
use Rattle.evtchn_fifo.specs.Ledger.{entries, entry_in, put_entry}
use Rattle.evtchn_fifo.specs.DomainRecord.{domain_size, owner_code, owner_of, owner_at, call_at, view_at, tail_at, put_next, put_call, put_tail}
use Rattle.evtchn_fifo.specs.Hypervisor.{next_at, move_at, move_bytes}
use Rattle.evtchn_fifo.specs.InPlace.{replied, has_ended, in_place, r3_in_place, r5_in_place, after_r2_in_place}
use Rattle.evtchn_fifo.proofs.NumberLaws.{put_same_from, value_other, value_after, byte_after}
use Rattle.evtchn_fifo.proofs.UnderWayLaws.{owner_is}
use Rattle.evtchn_fifo.proofs.DomainLaws.{next_kept, call_apart}
use Rattle.evtchn_fifo.proofs.PartLaws.{entry_among, put_entry_among}

-- ---- the words that a stage leaves

high_free : (k : ℕ) → 5 ≤ k → is_free (owner_of k) ≡ true
high_free k h = not-false _ (owner_is k ∙ simp (lt-ltb 0 k (omega arith), le-ltb k 5 h))

high_code : (k : ℕ) → 5 ≤ k → is_free (owner_of k) ≡ false → owner_code (owner_of k) ≡ k
high_code k h e = absurd (true≢false (sym (high_free k h) ∙ e))

-- the code of an owner that is one
code_back : (k : ℕ) → is_free (owner_of k) ≡ false → owner_code (owner_of k) ≡ k
unfolding is_free owner_of
code_back zero e = let z : ◌≡◌ {A = ℕ} 0 1 = cc in absurd (omega arith)
code_back (suc zero) e = refl
code_back (suc (suc zero)) e = refl
code_back (suc (suc (suc zero))) e = refl
code_back (suc (suc (suc (suc zero)))) e = refl
code_back (suc (suc (suc (suc (suc k))))) e = high_code (suc (suc (suc (suc (suc k))))) (omega arith) e

owner_by : (b : Bool) (k : ℕ) → is_free (cond b (owner_of k) owner.None) ≡ false → owner_code (cond b (owner_of k) owner.None) ≡ k
unfolding is_free
owner_by true k e = code_back k e
owner_by false k e = let z : ◌≡◌ {A = ℕ} 0 1 = cc in absurd (omega arith)

owner_there : (r : List ℕ) → is_free (owner_at r) ≡ false → owner_code (owner_at r) ≡ number_at 3 r 72
unfolding owner_at
owner_there r e = owner_by (ltb (number_at 3 r 76) 8) (number_at 3 r 72) e

-- ---- a move, in place

abbrev Bytes : List ℕ → Type 0
Bytes r = (j : ℕ) → get_or r j 0 < 256

-- its owner and its port are there
same_call : (s : List ℕ) (c : Call) → owner_code c.owner ≡ number_at 3 s 72 → c.port.0 ≡ number_at 3 s 80 → ((j : ℕ) → 72 ≤ j → get_or s j 0 < 256) → put_call s c ≡ put_next s c
unfolding put_call
same_call s c o p h = rw (o, put_same_from 3 s 72 h, p, put_same_from 3 s 80 (λ j l. h j (omega arith)))

on_next : (n : ℕ) (r : List ℕ) (c : Call) (a : Answer) (k : ℕ) → is_free c.owner ≡ false → next_at n r c a k ≡ encoded_access (due n c (tail_at r c.queue.0))
unfolding next_at
on_next n r c a k e = rw e

on_move : (n : ℕ) (r : List ℕ) (m : Move) → is_free m.call.owner ≡ false → move_bytes n r m ≡ wrote (encoded_access (due n m.call (tail_at (put_tail r m.queue.0 m.tail) m.call.queue.0))) (put_call (put_tail r m.queue.0 m.tail) m.call)
unfolding move_bytes
on_move n r m e =
    let s = put_tail r m.queue.0 m.tail in
    rw e (ap (λ (x : EncodedNext). wrote x (put_call s m.call)) (next_kept n s m.call m.answer m.count ∙ on_next n s m.call m.answer m.count e))

-- a move ends the call c, or goes on with its owner and its port
record GoesOn (c d : Call) : Type 0 where
  stage : has_ended d.stage ≡ false
  owner : d.owner ≡ c.owner
  port : d.port ≡ c.port

record IsNext (c : Call) (m : Move) : Type 0 where
  which : (m.call ≡ idle_call) ⊎ GoesOn c m.call

stops : {c : Call} {m : Move} → m.call ≡ idle_call → IsNext c m
stops e = record { which = inl e }

goes : {c : Call} {m : Move} → has_ended m.call.stage ≡ false → m.call.owner ≡ c.owner → m.call.port ≡ c.port → IsNext c m
goes h o p = record { which = inr (record { stage = h; owner = o; port = p }) }

next_if : (b : Bool) (c : Call) (x y : Move) → IsNext c x → IsNext c y → IsNext c (cond b x y)
next_if true c x y p q = p
next_if false c x y p q = q

first_next : (o : Owner) (c : Call) (e seen : ℕ) → IsNext c (reply_first_of o c e seen)
unfolding reply_bind reply_close reply_r1 reply_u1
first_next owner.None c e seen = stops refl
first_next owner.Bind c e seen = next_if (has Linked seen) c _ _ (stops refl) (stops refl)
first_next owner.Close c e seen = stops refl
first_next owner.Raise c e seen = next_if (has Masked seen) c _ _ (stops refl) (next_if (has Linked seen) c _ _ (stops refl) (goes refl refl refl))
first_next owner.Unmask c e seen = next_if (not (has Pending seen)) c _ _ (stops refl) (next_if (has Linked seen) c _ _ (stops refl) (goes refl refl refl))

after_goes : (a b : Bool) (c : Call) (q : Queue) → GoesOn c (cond a (named c R5 q) (cond b (named c R5 q) (named c R3 q)))
after_goes true b c q = record { stage = refl; owner = refl; port = refl }
after_goes false true c q = record { stage = refl; owner = refl; port = refl }
after_goes false false c q = record { stage = refl; owner = refl; port = refl }

r4_next : (c : Call) (e seen : ℕ) → IsNext c (reply_r4 c e seen)
unfolding reply_r4 after_first_cas after_later_cas
r4_next c e seen =
    next_if (cas_taken seen c.word) c _ _ (stops refl)
    (next_if (leb c.tries 1) c _ _ (next_if (not (has Linked seen)) c _ _ (goes refl refl refl) (goes refl refl refl))
    (next_if (not (has Linked seen)) c _ _ (goes refl refl refl) (next_if (leb 5 c.tries) c _ _ (goes refl refl refl) (goes refl refl refl))))

stage_next : (s : Stage) (c : Call) (e : ℕ) (v : View) (seen : ℕ) → IsNext c (staged_at s c e v seen)
unfolding reply_first reply_r2 after_r2 reply_r3 reply_set_busy reply_clear_busy reply_r5 reply_r6
stage_next First c e v seen = first_next c.owner c e seen
stage_next R2 c e v seen = next_if (has Linked seen) c _ _ (stops refl) (record { which = inr (after_goes (eqb v.tail 0) (eqb v.tail c.port.0) c (queue_at (priority e))) })
stage_next R3 c e v seen = next_if (not (has Linked seen)) c _ _ (goes refl refl refl) (goes refl refl refl)
stage_next R4 c e v seen = r4_next c e seen
stage_next SetBusy c e v seen = next_if (not (has Linked seen)) c _ _ (goes refl refl refl) (goes refl refl refl)
stage_next ClearBusy c e v seen = next_if (has Linked c.word) c _ _ (stops refl) (goes refl refl refl)
stage_next R5 c e v seen = goes refl refl refl
stage_next R6 c e v seen = next_if (is_ready c.queue.0 seen) c _ _ (stops refl) (stops refl)

ends_in_place : (n : ℕ) (r : List ℕ) (m : Move) → m.call ≡ idle_call → in_place n r m ≡ move_bytes n r m
unfolding in_place move_bytes next_at is_free
ends_in_place n r m e = rw e

goes_in_place : (n : ℕ) (r : List ℕ) (m : Move) → Bytes r → is_free (call_at r).owner ≡ false → GoesOn (call_at r) m.call → in_place n r m ≡ move_bytes n r m
unfolding in_place call_at
goes_in_place n r m h f g =
    let s = put_tail r m.queue.0 m.tail in
    let w : wrote (encoded_access (due n m.call (tail_at s m.call.queue.0))) (put_call s m.call) ≡ move_bytes n r m = sym (on_move n r m (rw g.owner f)) in
    let o : owner_code m.call.owner ≡ number_at 3 s 72 = rw g.owner (owner_there r f ∙ sym (value_after 8 r m.queue.0 m.tail 72 refl)) in
    let p : m.call.port.0 ≡ number_at 3 s 80 = ap (λ (q : Port). q.0) g.port ∙ sym (value_after 8 r m.queue.0 m.tail 80 refl) in
    rw (g.stage, ← same_call s m.call o p (λ j l. rw (byte_after 8 r m.queue.0 m.tail j l) (h j))) w

in_place_by : (n : ℕ) (r : List ℕ) (m : Move) → Bytes r → is_free (call_at r).owner ≡ false → (m.call ≡ idle_call) ⊎ GoesOn (call_at r) m.call → in_place n r m ≡ move_bytes n r m
in_place_by n r m h f (inl e) = ends_in_place n r m e
in_place_by n r m h f (inr g) = goes_in_place n r m h f g

in_place_is : (n : ℕ) (r : List ℕ) (e seen : ℕ) → Bytes r → is_free (call_at r).owner ≡ false → in_place n r (move_at r e seen) ≡ move_bytes n r (move_at r e seen)
unfolding staged
in_place_is n r e seen h f = in_place_by n r (move_at r e seen) h f (stage_next (call_at r).stage (call_at r) e (view_at r e) seen).which

pub r5_move : (n : ℕ) (r : List ℕ) (e : ℕ) (q : Queue) → in_place n r (goes_on e (named (call_at r) R5 q)) ≡ r5_in_place r q
unfolding in_place due put_value
r5_move n r e q = refl

-- ---- a stage that leaves the ledger's entry

entry_if : (b : Bool) (x y : Move) (e : ℕ) → x.entry ≡ e → y.entry ≡ e → (cond b x y).entry ≡ e
entry_if true x y e p q = p
entry_if false x y e p q = q

pub r1_entry : (c : Call) (e seen : ℕ) → (reply_r1 c e seen).entry ≡ e
unfolding reply_r1
r1_entry c e seen = entry_if (has Masked seen) _ _ e refl (entry_if (has Linked seen) _ _ e refl refl)

pub u1_entry : (c : Call) (e seen : ℕ) → (reply_u1 c e seen).entry ≡ e
unfolding reply_u1
u1_entry c e seen = entry_if (not (has Pending seen)) _ _ e refl (entry_if (has Linked seen) _ _ e refl refl)

pub r3_entry : (c : Call) (e seen : ℕ) → (reply_r3 c e seen).entry ≡ e
unfolding reply_r3
r3_entry c e seen = entry_if (not (has Linked seen)) _ _ e refl refl

pub r4_entry : (c : Call) (e seen : ℕ) → (reply_r4 c e seen).entry ≡ e
unfolding reply_r4 after_first_cas after_later_cas
r4_entry c e seen =
    entry_if (cas_taken seen c.word) _ _ e refl
    (entry_if (leb c.tries 1) _ _ e (entry_if (not (has Linked seen)) _ _ e refl refl)
    (entry_if (not (has Linked seen)) _ _ e refl (entry_if (leb 5 c.tries) _ _ e refl refl)))

pub set_busy_entry : (c : Call) (e seen : ℕ) → (reply_set_busy c e seen).entry ≡ e
unfolding reply_set_busy
set_busy_entry c e seen = entry_if (not (has Linked seen)) _ _ e refl refl

pub clear_busy_entry : (c : Call) (e : ℕ) → (reply_clear_busy c e).entry ≡ e
unfolding reply_clear_busy
clear_busy_entry c e = entry_if (has Linked c.word) _ _ e refl refl

pub r5_entry : (c : Call) (e : ℕ) → (reply_r5 c e).entry ≡ e
unfolding reply_r5
r5_entry c e = refl

pub r6_entry : (c : Call) (e seen : ℕ) → (reply_r6 c e seen).entry ≡ e
unfolding reply_r6
r6_entry c e seen = entry_if (is_ready c.queue.0 seen) _ _ e refl refl

pub ruleset staged_entries = (r3_entry, r4_entry, set_busy_entry, clear_busy_entry, r5_entry, r6_entry)

-- ---- R2

apart_if : (b : Bool) (r : List ℕ) (x y : Queue) (q : ℕ) → tail_at (put_tail r x.0 0) q ≡ tail_at r q → tail_at (put_tail r y.0 0) q ≡ tail_at r q → tail_at (put_tail r (cond b x y).0 0) q ≡ tail_at r q
apart_if true r x y q g h = g
apart_if false r x y q g h = h

none_apart : (r : List ℕ) (q : ℕ) → tail_at (put_tail r (queue_at 16).0 0) q ≡ tail_at r q
unfolding put_value
none_apart r q = refl

last_apart : (b : Bool) (r : List ℕ) (l : ℕ) (x : Queue) (q : ℕ) → domain_size ≤ length r → eqb l q ≡ b → (b ≡ false → tail_at (put_tail r x.0 0) q ≡ tail_at r q) → tail_at (put_tail r (cond b (queue_at 16) x).0 0) q ≡ tail_at r q
last_apart true r l x q h e f = none_apart r q
last_apart false r l x q h e f = f refl

-- the queue that loses its tail is another
stale_apart : (r : List ℕ) (e : ℕ) (p : Port) (q : Queue) (former : ℕ) → domain_size ≤ length r → tail_at (put_tail r (stale_queue e p q former).0 0) q.0 ≡ tail_at r q.0
unfolding stale_queue
stale_apart r e p q former h =
    apart_if (not (ever_linked e)) r _ _ q.0 (none_apart r q.0)
    (last_apart (eqb (last_queue e) q.0) r (last_queue e) _ q.0 h refl
    (λ f. apart_if (eqb former p.0) r _ _ q.0 (value_other 8 r (last_queue e) 0 q.0 (omega arith) f) (none_apart r q.0)))

abbrev queue_of : ℕ → Queue
queue_of e = queue_at (priority e)

abbrev stale : List ℕ → ℕ → Queue
stale r e = stale_queue e (call_at r).port (queue_of e) (tail_at r (last_queue e))

abbrev cleared : List ℕ → ℕ → List ℕ
cleared r e = put_tail r (stale r e).0 0

abbrev move_to : List ℕ → ℕ → Call → Move
move_to r e x = record { queue = stale r e; tail = 0; entry = linked_entry e (priority e); call = x; answer = Done; count = 0 }

same_tail : (r : List ℕ) (e : ℕ) → domain_size ≤ length r → tail_at (cleared r e) (priority e) ≡ tail_at r (priority e)
same_tail r e h = stale_apart r e (call_at r).port (queue_of e) (tail_at r (last_queue e)) h

-- to R5 or R3
by_tests : (n : ℕ) (r : List ℕ) (e : ℕ) → (a b : Bool) →
    in_place n r (move_to r e (cond a (named (call_at r) R5 (queue_of e)) (cond b (named (call_at r) R5 (queue_of e)) (named (call_at r) R3 (queue_of e)))))
    ≡ cond a (r5_in_place (cleared r e) (queue_of e)) (cond b (r5_in_place (cleared r e) (queue_of e)) (r3_in_place (cleared r e) (queue_of e)))
unfolding in_place due
by_tests n r e true b = rw (call_apart r (stale r e).0 0) refl
by_tests n r e false true = rw (call_apart r (stale r e).0 0) refl
by_tests n r e false false = rw (call_apart r (stale r e).0 0) refl

-- what R2's reply writes of the record
r2_moved : (n : ℕ) (r : List ℕ) (e : ℕ) → domain_size ≤ length r → in_place n r (move_to r e (after_r2 (call_at r) (queue_of e) (tail_at r (priority e)))) ≡ after_r2_in_place (cleared r e) (queue_of e)
unfolding after_r2
r2_moved n r e h =
    let m = by_tests n r e (eqb (tail_at r (priority e)) 0) (eqb (tail_at r (priority e)) (call_at r).port.0) in
    rw (same_tail r e h, call_apart r (stale r e).0 0) (rw (same_tail r e h, call_apart r (stale r e).0 0) at m)

-- and its reply, by what its code computes one after another
pub r2_steps : (n : ℕ) (r : List ℕ) (seen : ℕ) (c : Call) (e : ℕ) (q : Queue) (d : List ℕ) {x : EncodedNext} {s : List ℕ} → domain_size ≤ length r → has Linked seen ≡ false →
    c ≡ call_at r → q ≡ queue_at (priority e) → d ≡ put_tail r (stale_queue e c.port q (tail_at r (last_queue e))).0 0 → wrote x s ≡ after_r2_in_place d q →
    wrote x s ≡ in_place n r (reply_r2 (call_at r) e (view_at r e) seen)
unfolding reply_r2 view_at
r2_steps n r seen c e q d h l a g k w =
    let k' : d ≡ cleared r e = rw (a, g) at k in
    rw l ((rw (k', g) at w) ∙ sym (r2_moved n r e h))

-- ---- the reply to a call whose port has an entry

there : (t : List ℕ) (p : ℕ) → ltb p (entries t) ≡ true → entry_in t p ≡ Some (number_at 1 t (p * 2))
unfolding entry_in
there t p i = rw i

put_there : (t : List ℕ) (p e : ℕ) → ltb p (entries t) ≡ true → put_entry t p e ≡ put_number 1 t (p * 2) e
unfolding put_entry
put_there t p e i = rw i

port_there : (r : List ℕ) → (call_at r).port.0 ≡ number_at 3 r 80
unfolding call_at
port_there r = refl

module _ (n : ℕ) (r t : List ℕ) (seen : ℕ) (h : Bytes r) (f : not (is_free (call_at r).owner) ≡ true) where
  replies : {x : EncodedNext} {s w : List ℕ} → (call_at r).port.0 * 2 + 2 ≤ length t →
      wrote x s ≡ in_place n r (move_at r (number_at 1 (take 2 (drop ((call_at r).port.0 * 2) t)) 0) seen) →
      w ≡ put_number 1 (take 2 (drop ((call_at r).port.0 * 2) t)) 0 (move_at r (number_at 1 (take 2 (drop ((call_at r).port.0 * 2) t)) 0) seen).entry →
      carried x s (take ((call_at r).port.0 * 2) t ++ (w ++ drop 2 (drop ((call_at r).port.0 * 2) t))) ≡ replied n r t seen
  replies l w u =
      let p = (call_at r).port.0 in
      let e = number_at 1 t (p * 2) in
      let i : ltb p (entries t) ≡ true = lt-ltb p (entries t) (omega arith) in
      let free = not-true (is_free (call_at r).owner) f in
      let w' = rw (entry_among t (p * 2) l) at w in
      let u' = rw (entry_among t (p * 2) l) at u in
      let m = w' ∙ in_place_is n r e seen h free in
      rw (free, there t p i, u', put_entry_among t (p * 2) _ l, ← put_there t p (move_at r e seen).entry i) (ap (λ (q : Wrote). carried q.next q.record_bytes (put_entry t p (move_at r e seen).entry)) m)

  pub reply_there : (p : ℕ) → p ≡ number_at 3 r 80 → {x : EncodedNext} {s w : List ℕ} → p * 2 + 2 ≤ length t →
      wrote x s ≡ in_place n r (move_at r (number_at 1 (take 2 (drop (p * 2) t)) 0) seen) →
      w ≡ put_number 1 (take 2 (drop (p * 2) t)) 0 (move_at r (number_at 1 (take 2 (drop (p * 2) t)) 0) seen).entry →
      carried x s (take (p * 2) t ++ (w ++ drop 2 (drop (p * 2) t))) ≡ replied n r t seen
  reply_there p k l w u =
      let e : p ≡ (call_at r).port.0 = k ∙ sym (port_there r) in
      rw e (replies (rw e at l) (rw e at w) (rw e at u))
