-- SetBusy and ClearBusy: the or and the and of BUSY in the tail's word.
-- Assumes nothing.
use mathlib.Core.Path.{◌≡◌, refl, sym, subst}
use mathlib.Core.Bool.{Bool, true, false, cond, not}
use mathlib.Core.List.{List}
use Prim.Native.Nat.{ℕ, ◌*◌, ◌^◌, ◌<◌}
use lib.Dec.{lit≤}
use lib.ListN.{length}
use Rattle.word.specs.declared.Flag.TheVariants.{Linked, Busy}
use Rattle.word.specs.Word.{has, mask, all_but, Width}
use Rattle.word.specs.Effect.{after_or}
use Rattle.word.proofs.WordLaws.{mask_lt}
use Rattle.word.proofs.EffectLaws.{or_lt_32, and_lt_32}
use Rattle.calls.specs.declared.types.Owner.{Owner}
use Rattle.calls.specs.declared.types.Stage.TheVariants as stage
use Rattle.calls.specs.declared.types.Call as calls
use Rattle.calls.specs.Hypervisor.{goes_on, comparing, clearing, due, staged, reply_set_busy, reply_clear_busy}
use Rattle.machine.specs.Memory.{performed, place_of, after_access, loaded, saved}
use Rattle.machine.specs.Exec.{World, perform_side}
use Rattle.machine.specs.declared.types.Side.TheVariants as side
use Rattle.machine.specs.declared.types.Event.{Event}
use Rattle.queue.specs.Model.{with_busy}
use Rattle.queue.specs.Model.Stage.{at_r4, at_set_busy, at_clear_busy, at_r5}
use Rattle.queue.specs.Model.Call.{holds}
use Rattle.queue.specs.Stages.{set_busy}
use Rattle.queue.proofs.Busy.{set_busy-keeps, clear_busy-keeps}
use Rattle.queue.proofs.Budget.{count_holds}
use Rattle.interleaving.specs.Fresh.{word_at}
use Rattle.interleaving.specs.Held.{is_linking}
use Rattle.interleaving.proofs.Decode.{decoded, decoded_busy, decoded_not_busy}
use Rattle.interleaving.proofs.View.{view_of, guest_call_of}
use Rattle.interleaving.proofs.Good.{Core, Kept}
use Rattle.interleaving.proofs.Carried.{at_stage, port_of, queue_of, tail_of, entry_of, perform_carried, QuietMoves, put_kept, no_bounds}
use Rattle.interleaving.proofs.Replies.{named_moves, comparing_moves, clearing_moves}
use Rattle.interleaving.proofs.Linking.{under_way_lem, not_free}

module _ {n : ℕ} (wide : Width n) (w : World) (h : List Event) (o : Owner) (linking : is_linking o ≡ true) where
  abbrev p : ℕ
  p = port_of w

  abbrev q : ℕ
  q = queue_of w

  abbrev e : ℕ
  e = entry_of w

  abbrev t : ℕ
  t = tail_of w

  -- the word seen
  abbrev s : ℕ
  s = word_at w t

  pub at-SetBusy : Core n (at_stage w o stage.SetBusy) (holds q p at_set_busy) (guest_call_of w.guest.call) h → Kept n (perform_side n (at_stage w o stage.SetBusy) side.Hypervisor) h
  unfolding due staged reply_set_busy performed place_of after_access loaded saved
  at-SetBusy k = subst (λ a. Kept n a h) (sym (perform_carried n (at_stage w o stage.SetBusy) (not_free o linking) known))
      (put_kept (at_stage w o stage.SetBusy) h k _ s t _ _ (set_busy q p (view_of n w) k.lists).call (moves (has Linked s) refl) (count_holds 0 q p at_set_busy k.inv) (lit≤ tt) (λ r. refl) (no_bounds _ _ refl)
      (with_busy true (decoded n s)) inside busy (decoded_busy wide s) (set_busy-keeps q p k.inv))
    where
      c : calls.Call
      c = (at_stage w o stage.SetBusy).domain.call

      known : p < length w.ledger
      known = k.fit.entry (not_free o linking)

      inside : t < 1024 * w.domain.pages
      inside = (k.inv.tails q k.inv.stage.some).inside

      small : s < 2 ^ 32
      small = k.sizes.small t inside

      busy : after_or s (mask Busy) < 2 ^ 32
      busy = or_lt_32 s (mask Busy) small (mask_lt Busy)

      moves : (b : Bool) → has Linked s ≡ b → QuietMoves n (length w.ledger) e c (cond b (holds q p (at_r4 1 (with_busy true (decoded n s)))) (holds q p at_clear_busy))
          (cond (not b) (goes_on e (clearing c s)) (goes_on e (comparing c 2 (after_or s (mask Busy)))))
      moves true l = rw (← (decoded_busy wide s)) (comparing_moves n (length w.ledger) e c (after_or s (mask Busy)) known k.fit.queue busy linking 1)
      moves false l = clearing_moves n (length w.ledger) e c s known k.fit.queue small linking l

  -- the link is not abandoned, since the word seen last has no LINKED
  pub at-ClearBusy : Core n (at_stage w o stage.ClearBusy) (holds q p at_clear_busy) (guest_call_of w.guest.call) h → Kept n (perform_side n (at_stage w o stage.ClearBusy) side.Hypervisor) h
  unfolding due staged reply_clear_busy performed place_of after_access loaded saved
  at-ClearBusy k = subst (λ a. Kept n a h) (sym (perform_carried n (at_stage w o stage.ClearBusy) (not_free o linking) known))
      (rw (k.fit.unlinked refl) (put_kept (at_stage w o stage.ClearBusy) h k _ s t _ _ (holds q p at_r5)
      (named_moves n (length w.ledger) e c stage.R5 c.queue known k.fit.queue linking (holds q p at_r5) (under_way_lem o _ linking))
      (count_holds 0 q p at_clear_busy k.inv) (lit≤ tt) (λ r. refl) (no_bounds _ _ refl)
      (with_busy false (decoded n s)) inside (and_lt_32 s (all_but Busy) (k.sizes.small t inside)) (decoded_not_busy wide s) (clear_busy-keeps q p k.inv)))
    where
      c : calls.Call
      c = (at_stage w o stage.ClearBusy).domain.call

      known : p < length w.ledger
      known = k.fit.entry (not_free o linking)

      inside : t < 1024 * w.domain.pages
      inside = (k.inv.tails q k.inv.stage.some).inside
