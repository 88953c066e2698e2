-- The first accesses of the hypervisor's calls: R1, U1, bind's read, close's and.
-- Assumes nothing.
use mathlib.Core.Path.{◌≡◌, refl, sym, subst}
use mathlib.Core.Bool.{Bool, true, false, cond, not, ◌&&◌, ◌||◌}
use mathlib.Core.List.{List}
use Prim.Native.Nat.{ℕ}
use native.Mathlib.Omega.{arith}
use lib.Dec.{lit≤}
use lib.ListN.{length, get_or}
use Rattle.word.specs.declared.Flag.TheVariants.{Pending, Masked, Linked}
use Rattle.word.specs.Word.{has, mask, all_but, Width, queue_at}
use Rattle.word.specs.Entry.{bound_entry, closed_entry}
use Rattle.word.proofs.WordLaws.{mask_lt}
use Rattle.word.proofs.EffectLaws.{read_keeps, or_lt_32, and_lt_32}
use Rattle.word.proofs.EntryLaws.{last_queue-bound_entry, ever_linked-bound_entry, last_queue-closed_entry, ever_linked-closed_entry}
use Rattle.calls.specs.declared.types.Answer.TheVariants.{Done, StillLinked}
use Rattle.calls.specs.declared.types.Owner.{Owner}
use Rattle.calls.specs.declared.types.Owner.TheVariants as owner
use Rattle.calls.specs.declared.types.Stage.TheVariants as stage
use Rattle.calls.specs.declared.types.Call as calls
use Rattle.calls.specs.Answers.{code_of}
use Rattle.calls.specs.Records.{is_free}
use Rattle.calls.specs.Hypervisor.{ends, goes_on, named, due, due_first, staged, reply_first, reply_r1, reply_u1, reply_bind, reply_close}
use Rattle.machine.specs.Memory.{performed, place_of, after_access, loaded, saved}
use Rattle.machine.specs.Exec.{World, perform_side}
use Rattle.machine.specs.declared.types.Side.TheVariants as side
use Rattle.machine.specs.declared.types.Event.{Event}
use Rattle.queue.specs.Model.{with_pending, with_masked}
use Rattle.queue.specs.Model.Kind.{at_r1, at_r2, at_u1, at_bind, at_close}
use Rattle.queue.specs.Model.Call.{idle, asks}
use Rattle.queue.specs.Stages.{R1, U1}
use Rattle.queue.proofs.Cases.{clash}
use Rattle.queue.proofs.Ask.{R1-keeps, U1-keeps, bind_keeps, close_keeps}
use Rattle.queue.proofs.Budget.{count_asks}
use Rattle.interleaving.proofs.Decode.{decoded, decoded_pending, decoded_not_pending, decoded_not_masked}
use Rattle.interleaving.proofs.View.{view_of, call_of, guest_call_of}
use Rattle.interleaving.proofs.Good.{Core, Kept}
use Rattle.interleaving.proofs.Carried.{at_stage, perform_carried, entry_of, QuietMoves, put_kept, read_kept, no_bounds}
use Rattle.interleaving.proofs.Replies.{done, ends_moves, named_moves}

module _ {n : ℕ} (wide : Width n) (w : World) (h : List Event) where
  abbrev port : ℕ
  port = w.domain.call.port.0

  abbrev entry : ℕ
  entry = entry_of w

  -- the word seen
  abbrev seen : ℕ
  seen = get_or w.memory.words port 0

  -- the call, by its owner
  abbrev by : Owner → calls.Call
  by o = (at_stage w o stage.First).domain.call

  at-R1 : Core n (at_stage w owner.Raise stage.First) (asks at_r1 port) (guest_call_of w.guest.call) h → Kept n (perform_side n (at_stage w owner.Raise stage.First) side.Hypervisor) h
  unfolding is_free due due_first staged reply_first reply_r1 performed place_of after_access loaded saved
  at-R1 k = subst (λ a. Kept n a h) (sym (perform_carried n (at_stage w owner.Raise stage.First) refl (k.fit.entry refl)))
      (put_kept (at_stage w owner.Raise stage.First) h k _ _ port _ _ (R1 port (view_of n w) k.lists).call
      (moves (has Masked seen) (has Linked seen)) (count_asks (view_of n w) k.lists 0 at_r1 port) (lit≤ tt) (λ q. refl) (no_bounds _ _ refl)
      (with_pending true (decoded n seen)) k.inv.port.inside (or_lt_32 seen (mask Pending) (k.sizes.small port k.inv.port.inside) (mask_lt Pending)) (decoded_pending wide seen) (R1-keeps port k.inv))
    where
      moves : (a b : Bool) → QuietMoves n (length w.ledger) entry (by owner.Raise) (cond (a || b) idle (asks at_r2 port))
          (cond a (ends entry Done w.domain.call.count) (cond b (ends entry Done w.domain.call.count) (goes_on entry (named (by owner.Raise) stage.R2 (queue_at 0)))))
      moves true b = ends_moves n (length w.ledger) entry (by owner.Raise) entry Done done refl refl
      moves false true = ends_moves n (length w.ledger) entry (by owner.Raise) entry Done done refl refl
      moves false false = named_moves n (length w.ledger) entry (by owner.Raise) stage.R2 (queue_at 0) (k.fit.entry refl) (lit≤ tt) refl (asks at_r2 port) refl

  at-U1 : Core n (at_stage w owner.Unmask stage.First) (asks at_u1 port) (guest_call_of w.guest.call) h → Kept n (perform_side n (at_stage w owner.Unmask stage.First) side.Hypervisor) h
  unfolding is_free due due_first staged reply_first reply_u1 performed place_of after_access loaded saved
  at-U1 k = subst (λ a. Kept n a h) (sym (perform_carried n (at_stage w owner.Unmask stage.First) refl (k.fit.entry refl)))
      (put_kept (at_stage w owner.Unmask stage.First) h k _ _ port _ _ (U1 port (view_of n w) k.lists).call
      (moves (has Pending seen) (has Linked seen)) (count_asks (view_of n w) k.lists 0 at_u1 port) (lit≤ tt) (λ q. refl) (no_bounds _ _ refl)
      (with_masked false (decoded n seen)) k.inv.port.inside (and_lt_32 seen (all_but Masked) (k.sizes.small port k.inv.port.inside)) (decoded_not_masked wide seen) (U1-keeps port k.inv))
    where
      moves : (a b : Bool) → QuietMoves n (length w.ledger) entry (by owner.Unmask) (cond (a && not b) (asks at_r2 port) idle)
          (cond (not a) (ends entry Done w.domain.call.count) (cond b (ends entry Done w.domain.call.count) (goes_on entry (named (by owner.Unmask) stage.R2 (queue_at 0)))))
      moves false b = ends_moves n (length w.ledger) entry (by owner.Unmask) entry Done done refl refl
      moves true true = ends_moves n (length w.ledger) entry (by owner.Unmask) entry Done done refl refl
      moves true false = named_moves n (length w.ledger) entry (by owner.Unmask) stage.R2 (queue_at 0) (k.fit.entry refl) (lit≤ tt) refl (asks at_r2 port) refl

  at_bind_lem : Core n (at_stage w owner.Bind stage.First) (asks at_bind port) (guest_call_of w.guest.call) h → Kept n (perform_side n (at_stage w owner.Bind stage.First) side.Hypervisor) h
  unfolding is_free code_of due due_first staged reply_first reply_bind performed place_of after_access loaded saved
  at_bind_lem k = subst (λ a. Kept n a h) (sym (perform_carried n (at_stage w owner.Bind stage.First) refl (k.fit.entry refl)))
      (read_kept (at_stage w owner.Bind stage.First) h k _ _ port _ _ idle (moves (has Linked seen)) (lit≤ tt) (lit≤ tt) (λ q. refl) (no_bounds _ _ refl) (read_keeps seen) (bind_keeps port k.inv))
    where
      moves : (b : Bool) → QuietMoves n (length w.ledger) entry (by owner.Bind) idle (cond b (ends entry StillLinked w.domain.call.count) (ends (bound_entry entry) Done w.domain.call.count))
      moves true = ends_moves n (length w.ledger) entry (by owner.Bind) entry StillLinked (λ d. omega arith) refl refl
      moves false = ends_moves n (length w.ledger) entry (by owner.Bind) (bound_entry entry) Done done (last_queue-bound_entry entry) (ever_linked-bound_entry entry)

  at_close_lem : Core n (at_stage w owner.Close stage.First) (asks at_close port) (guest_call_of w.guest.call) h → Kept n (perform_side n (at_stage w owner.Close stage.First) side.Hypervisor) h
  unfolding is_free due due_first staged reply_first reply_close performed place_of after_access loaded saved
  at_close_lem k = subst (λ a. Kept n a h) (sym (perform_carried n (at_stage w owner.Close stage.First) refl (k.fit.entry refl)))
      (put_kept (at_stage w owner.Close stage.First) h k _ _ port _ _ idle
      (ends_moves n (length w.ledger) entry (by owner.Close) (closed_entry entry) Done done (last_queue-closed_entry entry) (ever_linked-closed_entry entry)) (lit≤ tt) (lit≤ tt) (λ q. refl) (no_bounds _ _ refl)
      (with_pending false (decoded n seen)) k.inv.port.inside (and_lt_32 seen (all_but Pending) (k.sizes.small port k.inv.port.inside)) (decoded_not_pending wide seen) (close_keeps port k.inv))

  pub first_kept : (o : Owner) → Core n (at_stage w o stage.First) (call_of n (at_stage w o stage.First).domain.call) (guest_call_of w.guest.call) h → is_free o ≡ false
      → Kept n (perform_side n (at_stage w o stage.First) side.Hypervisor) h
  unfolding is_free
  first_kept owner.None k e = clash refl e
  first_kept owner.Bind k e = at_bind_lem k
  first_kept owner.Close k e = at_close_lem k
  first_kept owner.Raise k e = at-R1 k
  first_kept owner.Unmask k e = at-U1 k
