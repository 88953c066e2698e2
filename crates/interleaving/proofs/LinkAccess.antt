-- R2: the port is linked on the queue of its priority.
-- Assumes nothing.
use mathlib.Core.Path.{◌≡◌, refl, sym, ap, subst}
use mathlib.Core.Bool.{Bool, true, false, cond, not, ◌&&◌, ◌||◌}
use mathlib.Core.List.{List}
use Prim.Native.Nat.{ℕ, suc, ◌^◌, ◌≤◌, ◌<◌, zero-le}
use native.Mathlib.Omega.{arith}
use lib.Dec.{eqb, lit≤}
use lib.ListN.{length, get_or, set}
use lib.Seq.{set_out}
use borrow.Author.Tests.{eqb-false}
use Rattle.word.specs.declared.Queue.{Queue}
use Rattle.word.specs.declared.Flag.TheVariants.{Linked}
use Rattle.word.specs.Word.{has, mask, Width, queue_at}
use Rattle.word.specs.Effect.{after_or}
use Rattle.word.specs.Entry.{priority, last_queue, ever_linked, linked_entry}
use Rattle.word.proofs.WordLaws.{mask_lt}
use Rattle.word.proofs.EffectLaws.{or_lt_32}
use Rattle.word.proofs.EntryLaws.{priority_lt, last_queue-lt, last_queue-linked_entry, ever_linked-linked_entry}
use Rattle.calls.specs.declared.types.Answer.TheVariants.{Done}
use Rattle.calls.specs.declared.types.Access.{Access}
use Rattle.calls.specs.declared.types.Access.TheVariants.{Or}
use Rattle.calls.specs.declared.types.Place.TheVariants as place
use Rattle.calls.specs.declared.types.Owner.{Owner}
use Rattle.calls.specs.declared.types.Stage.{Stage}
use Rattle.calls.specs.declared.types.Stage.TheVariants as stage
use Rattle.calls.specs.declared.types.Call as calls
use Rattle.calls.specs.declared.hypervisor.stage.Move.{Move}
use Rattle.calls.specs.Hypervisor.{ends, named, due, staged, reply_r2, stale_queue, after_r2}
use Rattle.calls.specs.Hypervisor as hypervisor
use Rattle.machine.specs.Memory.{memory, performed, place_of, after_access, loaded, saved}
use Rattle.machine.specs.Exec.{World, perform_side}
use Rattle.machine.specs.declared.types.Side.TheVariants as side
use Rattle.machine.specs.declared.types.Event.{Event}
use Rattle.queue.specs.Update.{update}
use Rattle.queue.specs.Model.{Call, View, with_linked}
use Rattle.queue.specs.Model.Kind.{at_r2}
use Rattle.queue.specs.Model.Stage.{at_r3, at_r5}
use Rattle.queue.specs.Model.Call.{idle, asks, holds}
use Rattle.queue.specs.Stages.{After, put, tails_at_r2, stale_tail, forget_tail, link_on}
use Rattle.queue.specs.Budget.{made_by}
use Rattle.queue.specs.Invariant.{Keeps}
use Rattle.queue.proofs.Cases.{clash, by_cond, and_both}
use Rattle.queue.proofs.UpdateLaws.{update_other}
use Rattle.queue.proofs.Link.{R2-keeps}
use Rattle.queue.proofs.Budget.{count_asks}
use Rattle.interleaving.specs.Held.{is_linking}
use Rattle.interleaving.proofs.Decode.{decoded, decoded_linked}
use Rattle.interleaving.proofs.HistoryLaws.{order_quiet}
use Rattle.interleaving.proofs.Good.{Fit, Core, Kept}
use Rattle.interleaving.specs.Fresh.{word_at}
use Rattle.interleaving.proofs.View.{view_of, call_of, guest_call_of, guests_of, clears_of, agree, set_update}
use Rattle.interleaving.proofs.Carried.{at_stage, port_of, entry_of, carried, perform_carried, Moves, kept, put_kept, sizes_word, in_words, no_bounds}
use Rattle.interleaving.proofs.Replies.{one_more_le, fit_named, ends_moves, done}
use Rattle.interleaving.proofs.Linking.{under_way_lem, not_free}

stale_tails : (tails : List ℕ) (last q p : ℕ) (ever : Bool) → length tails ≡ 16 → last < 16 → (r : ℕ)
    → get_or (set tails (cond (not ever) (queue_at 16) (cond (eqb last q) (queue_at 16) (cond (eqb (get_or tails last 0) p) (queue_at last) (queue_at 16)))).0 0) r 0
    ≡ cond (ever && (not (eqb last q) && eqb (get_or tails last 0) p)) (update (λ k. get_or tails k 0) last 0) (λ k. get_or tails k 0) r
stale_tails tails last q p ever h l r = go ever (eqb last q) (eqb (get_or tails last 0) p)
  where
    none : get_or (set tails 16 0) r 0 ≡ get_or tails r 0
    none = ap (λ x. get_or x r 0) (set_out tails 16 0 (omega arith))

    go : (a b c : Bool)
        → get_or (set tails (cond (not a) (queue_at 16) (cond b (queue_at 16) (cond c (queue_at last) (queue_at 16)))).0 0) r 0
        ≡ cond (a && (not b && c)) (update (λ k. get_or tails k 0) last 0) (λ k. get_or tails k 0) r
    go false b c = none
    go true true c = none
    go true false true = set_update (λ z. z) tails last 0 0 (omega arith) refl r
    go true false false = none

-- R2's own queue keeps its tail
own_tail : (v : View) (q p : ℕ) → tails_at_r2 v q p q ≡ v.tail q
own_tail v q p = by_cond (λ f. f q ≡ v.tail q) (stale_tail v q p) (forget_tail v p) v.tail
    (λ e. update_other v.tail (v.last_queue p) 0 q (λ d. eqb-false _ _ (not_eqb e) (sym d))) (λ e. refl)
  where
    not_eqb : stale_tail v q p ≡ true → eqb (v.last_queue p) q ≡ false
    not_eqb e = go (eqb (v.last_queue p) q) (and_both (not (eqb (v.last_queue p) q)) _ (and_both (v.ever_linked p) _ e).1).0
      where
        go : (b : Bool) → not b ≡ true → b ≡ false
        go true e = clash e refl
        go false e = refl

-- R5 or R3
after_call : (n : ℕ) (c : calls.Call) (q : Queue) → is_linking c.owner ≡ true → (a b : Bool)
    → call_of n (cond a (named c stage.R5 q) (cond b (named c stage.R5 q) (named c stage.R3 q))) ≡ cond (a || b) (holds q.0 c.port.0 at_r5) (holds q.0 c.port.0 at_r3)
after_call n c q l true b = under_way_lem c.owner _ l
after_call n c q l false true = under_way_lem c.owner _ l
after_call n c q l false false = under_way_lem c.owner _ l

module _ {n : ℕ} (wide : Width n) (w : World) (h : List Event) (o : Owner) (linking : is_linking o ≡ true)
    (k : Core n (at_stage w o stage.R2) (asks at_r2 (port_of w)) (guest_call_of w.guest.call) h) where
  abbrev port : ℕ
  port = port_of w

  abbrev entry : ℕ
  entry = entry_of w

  abbrev queue : ℕ
  queue = priority entry

  abbrev tail : ℕ → ℕ
  tail q = get_or w.domain.tails q 0

  abbrev seen : ℕ
  seen = word_at w port

  abbrev call : calls.Call
  call = (at_stage w o stage.R2).domain.call

  known : port < length w.ledger
  known = k.fit.entry (not_free o linking)

  small : after_or seen (mask Linked) < 2 ^ 32
  small = or_lt_32 seen (mask Linked) (k.sizes.small port k.inv.port.inside) (mask_lt Linked)

  -- what the queue level leaves, by whether the port was linked already
  abbrev left : Bool → After Call
  left b = cond b (record { view = put (view_of n w) port (with_linked true (decoded n seen)); call = idle; lists = k.lists }) (link_on queue port (view_of n w) k.lists)

  keeps : (b : Bool) → has Linked seen ≡ b → Keeps (left b) (guests_of w) (clears_of n w)
  keeps b d = subst (λ b. Keeps (left b) (guests_of w) (clears_of n w)) d (R2-keeps queue port k.inv)

  less : (b : Bool) → has Linked seen ≡ b → 1 < made_by (left b).call
  less b d = subst (λ b. 1 < made_by (left b).call) d (count_asks (view_of n w) k.lists queue at_r2 port)

  -- the reply where it was not
  abbrev move : Move
  move = record {
    queue = stale_queue entry call.port (queue_at queue) (tail (last_queue entry));
    tail = 0;
    entry = linked_entry entry queue;
    call = after_r2 call (queue_at queue) (tail queue);
    answer = Done;
    count = 0;
  }

  moves : Moves n (length w.ledger) call (left false).call move
  unfolding after_r2
  moves = record {
    call = rw (own_tail (view_of n w) queue port) (after_call n call (queue_at queue) linking (eqb (tail queue) 0) (eqb (tail queue) port));
    fit = either_stage (Fit (length w.ledger)) (fit stage.R5) (fit stage.R3);
    more = either_stage (λ z. z.count ≤ suc call.count) (one_more_le call.count) (one_more_le call.count);
    answer = done;
    count = zero-le;
  }
    where
      fit : (z : Stage) → Fit (length w.ledger) (named call z (queue_at queue))
      fit z = fit_named (length w.ledger) call z (queue_at queue) known (priority_lt entry) linking

      either_stage : (P : calls.Call → Type 0) → P (named call stage.R5 (queue_at queue)) → P (named call stage.R3 (queue_at queue))
          → P (cond (eqb (tail queue) 0) (named call stage.R5 (queue_at queue)) (cond (eqb (tail queue) port) (named call stage.R5 (queue_at queue)) (named call stage.R3 (queue_at queue))))
      either_stage P a b = by_cond P (eqb (tail queue) 0) _ _ (λ d. a) (λ d. by_cond P (eqb (tail queue) port) _ _ (λ f. a) (λ f. b))

  linked_kept : (acc : Access) → has Linked seen ≡ false → Kept n (carried n (at_stage w o stage.R2) acc seen (memory (set w.memory.words port (after_or seen (mask Linked))) w.memory.block) move) h
  unfolding stale_queue
  linked_kept acc un = kept (at_stage w o stage.R2) h k acc seen _ move (left false) (keeps false un)
      (agree (record {
        word = set_update (decoded n) w.memory.words port (after_or seen (mask Linked)) (with_linked true (decoded n seen)) (in_words k.sizes port k.inv.port.inside) (decoded_linked wide seen);
        size = refl;
        tail = stale_tails w.domain.tails (last_queue entry) queue port (ever_linked entry) k.sizes.tails (last_queue-lt entry);
        last_queue = set_update last_queue w.ledger port (linked_entry entry queue) queue known (last_queue-linked_entry entry queue (priority_lt entry));
        ever_linked = set_update ever_linked w.ledger port (linked_entry entry queue) true known (ever_linked-linked_entry entry queue);
        head = λ q. refl;
        ready = λ q. refl;
        guest_head = λ q. refl;
        local = λ q. refl;
        owner = λ q. refl;
      }))
      moves (sizes_word k.sizes port _ small) (less false un) (lit≤ tt) (order_quiet h _ k.lists k.order (λ q. refl) (λ q. refl)) (no_bounds _ _ refl)

  pub at-R2 : Kept n (perform_side n (at_stage w o stage.R2) side.Hypervisor) h
  unfolding due staged reply_r2 performed place_of after_access loaded saved hypervisor.view_of
  at-R2 = subst (λ a. Kept n a h) (sym (perform_carried n (at_stage w o stage.R2) (not_free o linking) known))
      (go (has Linked seen) refl)
    where
      go : (b : Bool) → has Linked seen ≡ b
          → Kept n (carried n (at_stage w o stage.R2) (Or (place.Word call.port) (mask Linked)) seen (memory (set w.memory.words port (after_or seen (mask Linked))) w.memory.block) (cond b (ends entry Done call.count) move)) h
      go true d = put_kept (at_stage w o stage.R2) h k _ seen port _ _ idle (ends_moves n (length w.ledger) entry call entry Done done refl refl) (less true d) (lit≤ tt) (λ q. refl) (no_bounds _ _ refl)
          (with_linked true (decoded n seen)) k.inv.port.inside small (decoded_linked wide seen) (keeps true d)
      go false d = linked_kept _ d
