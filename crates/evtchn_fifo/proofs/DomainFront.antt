-- A domain's calls on a record that has more bytes behind it.
-- Assumes nothing.
use Rattle.std.specs.Prelude.{None, Option, Some, Result, Ok, Err}
use Prim.Native.Nat.{ℕ}
use mathlib.Core.Path.{◌≡◌, refl, sym, ap, ◌∙◌}
use mathlib.Core.Bool.{Bool, true, false, cond}
use mathlib.Core.List.{List, ◌++◌}
use lib.ListN.{length, drop}
use native.Mathlib.Omega.{arith}
use Rattle.std.specs.Array.{IsFirstChunk}
use Rattle.word.specs.declared.Port.{Port}
use Rattle.word.specs.Entry.{priority, last_queue}
use Rattle.calls.specs.declared.types.Call.{Call}
use Rattle.calls.specs.declared.types.Answer.{Answer}
use Rattle.calls.specs.declared.types.Answer.TheVariants.{NoCall}
use Rattle.calls.specs.declared.types.Domain.{Domain}
use Rattle.calls.specs.declared.hypervisor.stage.Move.{Move}
use Rattle.calls.specs.declared.hypervisor.start.Begun.{Begun}
use Rattle.calls.specs.declared.hypervisor.start.Begun.TheVariants as begin
use Rattle.calls.specs.Records.{is_free, fresh_domain}
use Rattle.calls.specs.Hypervisor.{accept_init, accept_expand}
use Rattle.evtchn_fifo.specs.Numbers.{narrow}
use Rattle.evtchn_fifo.specs.Encoded.{EncodedNext, Wrote, wrote, Carried, carried, freshened, encoded_answer}
use Rattle.evtchn_fifo.specs.Ledger.{entry_in}
use Rattle.evtchn_fifo.specs.DomainRecord.{domain_size, given_at, pages_at, owner_at, call_at, view_at, put_next, put_call, put_move, put_domain}
use Rattle.evtchn_fifo.specs.Hypervisor.{Starts, next_at, start_bytes, on_port, init_bytes, init_bytes_of, expand_bytes, expand_bytes_of, move_at, move_bytes, reply_found_bytes, reply_bytes, due_bytes, fresh_domain_bytes}
use Rattle.evtchn_fifo.specs.InPlace.{started, replied}
use Rattle.evtchn_fifo.proofs.FrontLaws.{Front, with_rest, first_front, number_is, value_is_front, put, put_value_front, puts_front, long_enough}

abbrev Before : List ℕ → List ℕ → List ℕ → Type 0
Before b s r = Front domain_size b s r

-- what a call leaves, with b behind its record
abbrev both_with_rest : List ℕ → Carried → Carried
both_with_rest b c = carried c.next (c.record_bytes ++ b) c.ledger_bytes

module _ {b s r : List ℕ} (f : Before b s r) where
  -- ---- reading

  owner_is : owner_at r ≡ owner_at s
  unfolding owner_at
  owner_is = rw (number_is f 3 76 (omega arith), number_is f 3 72 (omega arith))

  given_is : given_at r ≡ given_at s
  unfolding given_at
  given_is = rw (number_is f 3 0 (omega arith))

  pages_is : pages_at r ≡ pages_at s
  pages_is = number_is f 3 4 (omega arith)

  call_is : call_at r ≡ call_at s
  unfolding call_at
  call_is =
      rw (owner_is, number_is f 3 76 (omega arith), number_is f 3 80 (omega arith), number_is f 3 84 (omega arith), number_is f 3 88 (omega arith), number_is f 3 92 (omega arith), number_is f 3 96 (omega arith))

  view_is : (e : ℕ) → view_at r e ≡ view_at s e
  unfolding view_at
  view_is e = rw (value_is_front f 8 (priority e) (omega arith), value_is_front f 8 (last_queue e) (omega arith))

  next_is : (n : ℕ) (c : Call) (a : Answer) (k : ℕ) → next_at n r c a k ≡ next_at n s c a k
  unfolding next_at
  next_is n c a k = rw (value_is_front f 8 c.queue.0 (omega arith))

  -- ---- writing

  next_put : (c : Call) → Before b (put_next s c) (put_next r c)
  unfolding put_next
  next_put c = put (put (put (put (put f 3 76 _ (omega arith)) 3 84 _ (omega arith)) 3 88 _ (omega arith)) 3 92 _ (omega arith)) 3 96 _ (omega arith)

module _ {b s r : List ℕ} (f : Before b s r) where
  call_put : (c : Call) → Before b (put_call s c) (put_call r c)
  unfolding put_call
  call_put c = next_put (put (put f 3 72 _ (omega arith)) 3 80 _ (omega arith)) c

module _ {b s r : List ℕ} (f : Before b s r) where
  move_by : (m : Move) (c : Bool) → is_free m.call.owner ≡ c → Before b (put_move s m) (put_move r m)
  move_by m true e = rw e (put (put_value_front f 8 m.queue.0 m.tail (omega arith)) 3 72 0 (omega arith))
  move_by m false e = rw e (call_put (put_value_front f 8 m.queue.0 m.tail (omega arith)) m.call)

  move_put : (m : Move) → Before b (put_move s m) (put_move r m)
  move_put m = move_by m (is_free m.call.owner) refl

  domain_put : (d : Domain) → length d.tails ≡ 16 → Before b (put_domain s d) (put_domain r d)
  unfolding put_domain
  domain_put d h = call_put (puts_front d.tails _ _ 8 (put (put f 3 0 _ (omega arith)) 3 4 _ (omega arith)) (omega arith)) d.call

  -- ---- the calls

  start_is : (n : ℕ) (t : List ℕ) (p : Port) (x : Result Begun Answer) → start_bytes n r t p x ≡ both_with_rest b (start_bytes n s t p x)
  unfolding start_bytes
  start_is n t p (Err a) = rw f.whole
  start_is n t p (Ok (begin.UnderWay c)) = rw (next_is (call_put f c) n c _ 0, (call_put f c).whole)
  start_is n t p (Ok (begin.Settled e)) = rw f.whole

  port_call_is : (n : ℕ) (starts : Starts) (t : List ℕ) (p : Port) → on_port n starts r t p ≡ both_with_rest b (started n starts s t p)
  unfolding on_port
  port_call_is n starts t p = rw (long_enough f, owner_is f, given_is f, pages_is f) (start_is n t p (starts (owner_at s) (given_at s) (pages_at s) p (entry_in t p.0)))

  move_is : (n : ℕ) (m : Move) → move_bytes n r m ≡ with_rest b (move_bytes n s m)
  unfolding move_bytes
  move_is n m = rw (next_is (move_put m) n m.call m.answer m.count, (move_put m).whole)

  found_is : (n : ℕ) (t : List ℕ) (seen : ℕ) (x : Option ℕ) → reply_found_bytes n r t seen x ≡ both_with_rest b (reply_found_bytes n s t seen x)
  found_is n t seen None = rw f.whole
  found_is n t seen (Some e) = rw (call_is f, view_is f e, move_is n (move_at s e seen))

  replied_by : (n : ℕ) (t : List ℕ) (seen : ℕ) (c : Bool) → cond c (carried (encoded_answer NoCall 0) r t) (reply_found_bytes n r t seen (entry_in t (call_at s).port.0)) ≡ both_with_rest b (cond c (carried (encoded_answer NoCall 0) s t) (reply_found_bytes n s t seen (entry_in t (call_at s).port.0)))
  replied_by n t seen true = rw f.whole
  replied_by n t seen false = found_is n t seen (entry_in t (call_at s).port.0)

  reply_is : (n : ℕ) (t : List ℕ) (seen : ℕ) → reply_bytes n r t seen ≡ both_with_rest b (replied n s t seen)
  unfolding reply_bytes
  reply_is n t seen = rw (long_enough f, call_is f) (replied_by n t seen (is_free (call_at s).owner))

  init_is : (n : ℕ) (a : Result Unit Answer) → init_bytes_of n r a ≡ with_rest b (init_bytes_of n s a)
  init_is n (Err a) = rw f.whole
  init_is n (Ok tt) = rw (put f 3 0 1 (omega arith)).whole

  expand_is : (a : Result Unit Answer) → expand_bytes_of r a ≡ with_rest b (expand_bytes_of s a)
  expand_is (Err a) = rw f.whole
  expand_is (Ok tt) = rw (pages_is f, (put f 3 4 _ (omega arith)).whole)

-- ---- by the first bytes of a record, as an exported function lends them

module _ {r s : List ℕ} (f : IsFirstChunk r s domain_size) where
  pub on_port_front : (n : ℕ) (starts : Starts) (t : List ℕ) (p : Port) {x : EncodedNext} {d u : List ℕ} → carried x d u ≡ started n starts s t p → carried x (d ++ drop domain_size r) u ≡ on_port n starts r t p
  on_port_front n starts t p w = ap (λ (c : Carried). both_with_rest (drop domain_size r) c) w ∙ sym (port_call_is (first_front f) n starts t p)

  pub reply_front : (n : ℕ) (t : List ℕ) (seen : ℕ) {x : EncodedNext} {d u : List ℕ} → carried x d u ≡ replied n s t seen → carried x (d ++ drop domain_size r) u ≡ reply_bytes n r t seen
  reply_front n t seen w = ap (λ (c : Carried). both_with_rest (drop domain_size r) c) w ∙ sym (reply_is (first_front f) n t seen)

  pub init_front : (n vcpu frame frames offset : ℕ) {x : EncodedNext} {d : List ℕ} → wrote x d ≡ init_bytes_of n s (accept_init (owner_at s) (given_at s) (narrow vcpu) frame frames (narrow offset)) → wrote x (d ++ drop domain_size r) ≡ init_bytes n r vcpu frame frames offset
  unfolding init_bytes
  init_front n vcpu frame frames offset w =
      let g = first_front f in
      rw (long_enough g, owner_is g, given_is g) (ap (λ (c : Wrote). with_rest (drop domain_size r) c) w ∙ sym (init_is g n (accept_init (owner_at s) (given_at s) (narrow vcpu) frame frames (narrow offset))))

  pub expand_front : (n frame frames : ℕ) {x : EncodedNext} {d : List ℕ} → wrote x d ≡ expand_bytes_of s (accept_expand n (owner_at s) (given_at s) (pages_at s) frame frames) → wrote x (d ++ drop domain_size r) ≡ expand_bytes n r frame frames
  unfolding expand_bytes
  expand_front n frame frames w =
      let g = first_front f in
      rw (long_enough g, owner_is g, given_is g, pages_is g) (ap (λ (c : Wrote). with_rest (drop domain_size r) c) w ∙ sym (expand_is g (accept_expand n (owner_at s) (given_at s) (pages_at s) frame frames)))

  pub due_front : (n : ℕ) → next_at n s (call_at s) NoCall 0 ≡ due_bytes n r
  unfolding due_bytes
  due_front n = let g = first_front f in rw (long_enough g, call_is g, next_is g n (call_at s) NoCall 0) refl

  pub fresh_domain_front : {d : List ℕ} → d ≡ put_domain s fresh_domain → freshened 0 (d ++ drop domain_size r) ≡ fresh_domain_bytes r
  unfolding fresh_domain_bytes
  fresh_domain_front w =
      let g = first_front f in
      rw (long_enough g) (ap (λ (l : List ℕ). freshened 0 l) (ap (λ (l : List ℕ). l ++ drop domain_size r) w ∙ sym (domain_put g fresh_domain refl).whole))
