-- R5 and R6: the port becomes the head of its vacant queue, and the queue is made ready.
-- Assumes nothing.
use mathlib.Core.Path.{◌≡◌, refl, sym, ap, ◌∙◌, subst}
use mathlib.Core.Bool.{true, false}
use mathlib.Core.List.{List, append-nil}
use Prim.Native.Nat.{ℕ, ◌+◌, ◌<◌, zero-le}
use native.Mathlib.Omega.{arith}
use lib.Dec.{eqb, lit≤}
use lib.ListN.{length, get_or}
use lib.Seq.{set_out, get_or-set_same, get_or-set_other}
use Rattle.word.specs.Ready.{is_ready}
use Rattle.word.specs.Entry.{last_queue, ever_linked}
use Rattle.word.proofs.EffectLaws.{store_puts}
use Rattle.calls.specs.declared.types.Answer.TheVariants.{UpcallWanted}
use Rattle.calls.specs.declared.types.Owner.{Owner}
use Rattle.calls.specs.declared.types.Stage.TheVariants as stage
use Rattle.calls.specs.Answers.{code_of}
use Rattle.calls.specs.Hypervisor.{ends, due, staged, reply_r5, reply_r6}
use Rattle.machine.specs.Memory.{performed, place_of, after_access, loaded, saved}
use Rattle.machine.specs.Exec.{World, perform_side}
use Rattle.machine.specs.declared.types.Side.TheVariants as side
use Rattle.machine.specs.declared.types.Event.{Event}
use Rattle.queue.specs.Model.Stage.{at_r5, at_r6}
use Rattle.queue.specs.Model.Call.{holds}
use Rattle.queue.specs.Stages.{R5, R6}
use Rattle.queue.proofs.QueueLaws.{vacant_bits}
use Rattle.queue.proofs.TakeIn.{R5-keeps, R6-keeps}
use Rattle.queue.proofs.Budget.{count_holds}
use Rattle.interleaving.specs.Held.{is_linking}
use Rattle.interleaving.specs.Histories.{port_if}
use Rattle.interleaving.proofs.ReadyBits.{bits_of, bits_at, bits_or}
use Rattle.interleaving.proofs.HistoryLaws.{order_quiet, order_taken}
use Rattle.interleaving.proofs.Good.{Core, Kept}
use Rattle.interleaving.proofs.View.{view_of, guest_call_of, agree, set_update, set_blind, head_update}
use Rattle.interleaving.proofs.Carried.{sizes_block, at_stage, port_of, queue_of, entry_of, perform_carried, kept, no_bounds, bit_bound}
use Rattle.interleaving.proofs.Replies.{one_more_le, fit_named, ends_moves, done}
use Rattle.interleaving.proofs.Linking.{under_way_lem, not_free}

module _ (n : ℕ) (w : World) (h : List Event) (o : Owner) (linking : is_linking o ≡ true) where
  abbrev p : ℕ
  p = port_of w

  abbrev q : ℕ
  q = queue_of w

  abbrev e : ℕ
  e = entry_of w

  pub at-R5 : Core n (at_stage w o stage.R5) (holds q p at_r5) (guest_call_of w.guest.call) h → Kept n (perform_side n (at_stage w o stage.R5) side.Hypervisor) h
  unfolding due staged reply_r5 performed place_of after_access loaded saved
  at-R5 k = subst (λ a. Kept n a h) (sym (perform_carried n (at_stage w o stage.R5) (not_free o linking) known))
      (kept (at_stage w o stage.R5) h k _ _ _ _ (R5 q p (view_of n w) k.lists) (R5-keeps q p k.inv)
      (agree (record {
        word = λ x. refl;
        size = refl;
        tail = set_update (λ z. z) w.domain.tails q p p (rw k.sizes.tails k.fit.queue) refl;
        last_queue = set_blind last_queue w.ledger p e refl;
        ever_linked = set_blind ever_linked w.ledger p e refl;
        head = rw (store_puts (get_or w.memory.block (q + 2) 0) p) (head_update w.memory.block q p (let a = k.sizes.block in let b = k.fit.queue in omega arith));
        ready = λ r. ap (λ z. bits_of z r) (get_or-set_other w.memory.block (q + 2) 0 _ 0 (λ d. omega arith));
        guest_head = λ r. refl;
        local = λ r. refl;
        owner = λ r. refl;
      }))
      (record { call = under_way_lem o _ linking; fit = fit_named (length w.ledger) (at_stage w o stage.R5).domain.call stage.R6 w.domain.call.queue known k.fit.queue linking; more = one_more_le w.domain.call.count; answer = done; count = zero-le })
      (sizes_block k.sizes _ _)
      (count_holds 0 q p at_r5 k.inv) (lit≤ tt) (order_quiet h _ k.lists k.order (λ q. refl) (λ q. refl)) (no_bounds _ _ refl))
    where
      known : p < length w.ledger
      known = k.fit.entry (not_free o linking)

  pub at-R6 : Core n (at_stage w o stage.R6) (holds q p at_r6) (guest_call_of w.guest.call) h → Kept n (perform_side n (at_stage w o stage.R6) side.Hypervisor) h
  unfolding code_of due staged reply_r6 performed place_of after_access loaded saved
  at-R6 k = subst (λ a. Kept n a h) (sym (perform_carried n (at_stage w o stage.R6) (not_free o linking) known))
      (rw clear (kept (at_stage w o stage.R6) h k _ s _ (ends e UpcallWanted w.domain.call.count) (R6 q p (view_of n w) k.lists) (R6-keeps q p k.inv)
      (agree (record {
        word = λ x. refl;
        size = refl;
        tail = λ r. ap (λ l. get_or l r 0) (set_out w.domain.tails 16 0 (omega (arith, k.sizes.tails)));
        last_queue = set_blind last_queue w.ledger p e refl;
        ever_linked = set_blind ever_linked w.ledger p e refl;
        head = λ r. get_or-set_other w.memory.block 0 (r + 2) _ 0 (λ d. omega arith);
        ready = λ r. ap (λ z. bits_of z r) (get_or-set_same w.memory.block 0 _ 0 (let a = k.sizes.block in omega arith)) ∙ bits_or s q k.fit.queue r;
        guest_head = λ r. refl;
        local = λ r. refl;
        owner = λ r. refl;
      }))
      (ends_moves n (length w.ledger) e (at_stage w o stage.R6).domain.call e UpcallWanted (λ d. omega arith) refl refl).moves
      (sizes_block k.sizes _ _)
      (count_holds 0 q p at_r6 k.inv) (lit≤ tt) (order_taken h _ k.lists k.order q p (λ r. append-nil (port_if (eqb q r) p)) (λ r. refl)) (bit_bound _ _ refl clear)))
    where
      s : ℕ
      s = get_or w.memory.block 0 0

      known : p < length w.ledger
      known = k.fit.entry (not_free o linking)

      -- q is vacant, so its bit is clear
      clear : is_ready q s ≡ false
      clear = sym (bits_at s q k.fit.queue) ∙ (vacant_bits (k.inv.queue q) k.inv.stage.vacant).2
