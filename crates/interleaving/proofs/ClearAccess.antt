-- The accesses of a clear_mask: its read, and the cas that clears MASKED.
-- Assumes nothing.
use mathlib.Core.Path.{◌≡◌, refl, sym, ap, ◌∙◌, subst}
use mathlib.Core.Logic.{◌≢◌}
use mathlib.Core.Bool.{Bool, true, false, cond, not, ◌||◌}
use mathlib.Core.List.{List, [], ◌∷◌}
use Prim.Native.Nat.{ℕ, ◌*◌, ◌^◌, ◌<◌}
use native.Mathlib.Omega.{arith}
use lib.Dec.{lit≤}
use lib.ListN.{get_or, set}
use lib.Seq.{set-get_or}
use Rattle.word.specs.declared.Flag.TheVariants.{Pending, Masked, Busy}
use Rattle.word.specs.Word.{has, all_but, Width}
use Rattle.word.specs.Effect.{after_read, after_and, after_cas, cas_taken}
use Rattle.word.proofs.EffectLaws.{read_keeps, and_lt_32, cas_puts, cas_keeps}
use Rattle.calls.specs.declared.types.Answer.{Answer}
use Rattle.calls.specs.declared.types.Answer.TheVariants.{Done, CallUnmask}
use Rattle.calls.specs.declared.types.Access.{Access}
use Rattle.calls.specs.declared.types.Access.TheVariants.{Read, Cas}
use Rattle.calls.specs.declared.types.Place.TheVariants as place
use Rattle.calls.specs.declared.types.Next.TheVariants as next
use Rattle.calls.specs.declared.types.ClearStage.{ClearStage}
use Rattle.calls.specs.declared.types.ClearStage.TheVariants as clear_stage
use Rattle.calls.specs.declared.types.ClearCall as clears
use Rattle.calls.specs.declared.clear_mask.ClearMove.{ClearMove}
use Rattle.calls.specs.Answers.{code_of}
use Rattle.calls.specs.Records.{one_more, is_clearing, clear_at}
use Rattle.calls.specs.ClearMask.{clear_goes_on, clear_ends, reply_read, reply_cas, clear_staged, clear_due, clear_next, clear_carried_out, guest_reply, guest_due_of}
use Rattle.machine.specs.Memory.{Memory, memory, performed, place_of, after_access, loaded, saved}
use Rattle.machine.specs.Exec.{World, Advanced, guest_step, guest_replied, guest_answer, list_of, guest_access, perform_side, perform_guest}
use Rattle.machine.specs.declared.types.Side.TheVariants as side
use Rattle.machine.specs.declared.types.Event.{Event}
use Rattle.machine.specs.declared.types.Event.TheVariants.{ClearAccess}
use Rattle.queue.specs.Update.{update}
use Rattle.queue.specs.Model.{Word, ClearCall, View, alone_clear, with_masked, same_word, with_words}
use Rattle.queue.specs.Model.ClearCall.{no_clear, at_cas}
use Rattle.queue.specs.Stages.{After, put, read_mask}
use Rattle.queue.specs.Invariant.{Inv, ClearKeeps}
use Rattle.queue.proofs.Cases.{clash, by_cond}
use Rattle.queue.proofs.OneVcpu.{alone_clear_update}
use Rattle.queue.proofs.ClearMask.{read_mask-real, read_mask-keeps, cas_mask-at, cas_mask-keeps}
use Rattle.interleaving.specs.Fresh.{word_at}
use Rattle.interleaving.specs.Bounds.{Bounds}
use Rattle.interleaving.proofs.Decode.{decoded, decoded_not_masked, decoded_cas}
use Rattle.interleaving.proofs.View.{view_of, call_of, guests_of, clear_call_of, clears_of, agree, set_update}
use Rattle.interleaving.proofs.HistoryLaws.{order_quiet, order_guest_answer}
use Rattle.interleaving.proofs.Good.{Sizes, Good, Kept}
use Rattle.interleaving.proofs.Carried.{sizes_word, in_words}

-- w, with the clear_mask at a stage
abbrev at_clear_stage : World → ClearStage → World
at_clear_stage w s = record {
  domain = w.domain;
  ledger = w.ledger;
  guest = record { heads = w.guest.heads; ready = w.guest.ready; words = w.guest.words; call = w.guest.call; clear = record { stage = s; port = w.guest.clear.port; word = w.guest.clear.word; count = w.guest.clear.count } };
  memory = w.memory;
}

-- an access that sees `seen` and leaves memory m, and the reply's move
abbrev pub cleared : World → Access → ℕ → Memory → ClearMove → Advanced
cleared w a seen m mv = guest_step w (guest_replied (clear_carried_out w.guest mv) (ClearAccess w.guest.clear a seen) m)

pub perform_cleared : (n : ℕ) (w : World) → is_clearing w.guest.clear.stage ≡ true
    → perform_side n w side.Guest ≡ cleared w (clear_due w.guest.clear) (performed w.memory (clear_due w.guest.clear)).seen (performed w.memory (clear_due w.guest.clear)).memory
    (clear_staged w.guest.clear (performed w.memory (clear_due w.guest.clear)).seen)
unfolding perform_side perform_guest guest_access guest_due_of guest_reply
perform_cleared n w e = simp e

-- what a reply makes of the clear_mask
record Moves (n : ℕ) (to : ClearCall) (mv : ClearMove) : Type 0 where
  call : clear_call_of n mv.call ≡ to
  word : mv.call.word < 2 ^ 32
  answer : (code_of mv.answer).number ≢ 18

ends_moves : (n : ℕ) (a : Answer) (count : ℕ) → (code_of a).number ≢ 18 → Moves n no_clear (clear_ends a count)
ends_moves n a count d = record { call = refl; word = lit≤ tt; answer = d }

answer_bounds : (c : clears.ClearCall) (a : Answer) (count : ℕ) → (code_of a).number ≢ 18 → Bounds (list_of (guest_answer (clear_next c a count)))
unfolding clear_next
answer_bounds c a count b = by_cond (λ x. Bounds (list_of (guest_answer x))) (is_clearing c.stage) (next.Access (clear_due c)) (next.Answer a count) (λ e. tt) (λ e. (b, tt))

-- the words are those of a view that the queue level leaves
module _ {n : ℕ} (w : World) (h : List Event) (k : Good n w h) (acc : Access) (seen : ℕ) (words : List ℕ) (mv : ClearMove) where
  kept : (f : ℕ → Word) (z : ClearCall) → Inv (with_words f (view_of n w)) (call_of n w.domain.call) (guests_of w) (update (clears_of n w) 0 z) k.lists
      → ((x : ℕ) → decoded n (get_or words x 0) ≡ f x) → Moves n z mv → Sizes n w.domain.pages words w.memory.block w.domain.tails w.guest.heads
      → Kept n (cleared w acc seen (memory words w.memory.block) mv) h
  kept f z inv same moves sizes = record {
    good = record {
      lists = k.lists;
      inv = subst (λ v. Inv v (call_of n w.domain.call) (guests_of w) (alone_clear (clear_call_of n mv.call)) k.lists) (sym (agree (record {
        word = same;
        size = refl;
        tail = λ q. refl;
        last_queue = λ x. refl;
        ever_linked = λ x. refl;
        head = λ q. refl;
        ready = λ q. refl;
        guest_head = λ q. refl;
        local = λ q. refl;
        owner = λ q. refl;
      }))) (rw moves.call (rw (alone_clear_update (clear_call_of n w.guest.clear) z) at inv));
      sizes = sizes;
      fit = k.fit;
      count = k.count;
      guest_queue = k.guest_queue;
      clear_word = moves.word;
      order = order_guest_answer h (ClearAccess w.guest.clear acc seen ∷ []) k.lists (order_quiet h _ k.lists k.order (λ q. refl) (λ q. refl)) (clear_next mv.call mv.answer mv.count);
    };
    bounds = (tt, answer_bounds mv.call mv.answer mv.count moves.answer);
  }

module _ {n : ℕ} (wide : Width n) (w : World) (h : List Event) where
  abbrev p : ℕ
  p = w.guest.clear.port.0

  -- the word seen
  abbrev s : ℕ
  s = word_at w p

  abbrev v : View
  v = view_of n w

  at-Read : Good n (at_clear_stage w clear_stage.Read) h → Kept n (perform_side n (at_clear_stage w clear_stage.Read) side.Guest) h
  unfolding code_of is_clearing clear_due clear_staged reply_read performed place_of after_access loaded saved
  at-Read k = subst (λ a. Kept n a h) (sym (perform_cleared n w₁ refl))
      (kept w₁ h k (Read (place.Word c.port)) s (set w.memory.words p (after_read s)) _ (λ x. decoded n (get_or w.memory.words x 0)) (read_mask p v k.lists).call (read_mask-keeps 0 p refl k.inv)
      (λ x. ap (λ l. decoded n (get_or l x 0)) same) (moves (has Masked s) (has Pending s) (has Busy s)) (subst (λ l. Sizes n w.domain.pages l w.memory.block w.domain.tails w.guest.heads) (sym same) k.sizes))
    where
      w₁ : World
      w₁ = at_clear_stage w clear_stage.Read

      c : clears.ClearCall
      c = w₁.guest.clear

      same : set w.memory.words p (after_read s) ≡ w.memory.words
      same = ap (set w.memory.words p) (read_keeps s) ∙ set-get_or w.memory.words p 0

      moves : (a b d : Bool) → Moves n (cond (not a) no_clear (cond (b || d) no_clear (at_cas p (decoded n s))))
          (cond (not a) (clear_ends Done c.count) (cond b (clear_ends CallUnmask c.count) (cond d (clear_ends CallUnmask c.count) (clear_goes_on (clear_at clear_stage.Cas c.port s (one_more c.count))))))
      moves false b d = ends_moves n Done c.count (λ e. omega arith)
      moves true true d = ends_moves n CallUnmask c.count (λ e. omega arith)
      moves true false true = ends_moves n CallUnmask c.count (λ e. omega arith)
      moves true false false = record { call = refl; word = k.sizes.small p (read_mask-real 0 p refl k.inv).inside; answer = λ e. omega arith }

  at-Cas : Good n (at_clear_stage w clear_stage.Cas) h → Kept n (perform_side n (at_clear_stage w clear_stage.Cas) side.Guest) h
  unfolding code_of is_clearing clear_due clear_staged reply_cas performed place_of after_access loaded saved
  at-Cas k = subst (λ a. Kept n a h) (sym (perform_cleared n w₂ refl)) (go (cas_taken s old) refl)
    where
      w₂ : World
      w₂ = at_clear_stage w clear_stage.Cas

      c : clears.ClearCall
      c = w₂.guest.clear

      -- the cas puts this word in the place of the one that it compares with
      old : ℕ
      old = c.word

      new : ℕ
      new = after_and old (all_but Masked)

      inside : p < 1024 * w.domain.pages
      inside = (cas_mask-at 0 p (decoded n old) refl k.inv).inside.inside

      -- the queue's test is the machine's
      test : same_word (decoded n s) (decoded n old) ≡ cas_taken s old
      test = decoded_cas wide s old (k.sizes.small p inside) k.clear_word

      -- what the queue level leaves, by whether the cas is taken
      left : Bool → After ClearCall
      left b = cond b (record { view = put v p (with_masked false (decoded n old)); call = no_clear; lists = k.lists }) (record { view = v; call = no_clear; lists = k.lists })

      keeps : (b : Bool) → cas_taken s old ≡ b → ClearKeeps 0 (left b) (call_of n w.domain.call) (guests_of w) (clears_of n w₂)
      keeps b d = subst (λ b. ClearKeeps 0 (left b) (call_of n w.domain.call) (guests_of w) (clears_of n w₂)) (test ∙ d) (cas_mask-keeps 0 p (decoded n old) refl k.inv)

      go : (b : Bool) → cas_taken s old ≡ b
          → Kept n (cleared w₂ (Cas (place.Word c.port) old new) s (memory (set w.memory.words p (after_cas s old new)) w.memory.block) (cond b (clear_ends Done c.count) (clear_ends CallUnmask c.count))) h
      go true d = rw (cas_puts s old new d) (kept w₂ h k _ s (set w.memory.words p new) _ (update (λ x. decoded n (get_or w.memory.words x 0)) p (with_masked false (decoded n old))) no_clear (keeps true d)
          (set_update (decoded n) w.memory.words p new (with_masked false (decoded n old)) (in_words k.sizes p inside) (decoded_not_masked wide old))
          (ends_moves n Done c.count (λ e. omega arith)) (sizes_word k.sizes p new (and_lt_32 old (all_but Masked) k.clear_word)))
      go false d = rw (cas_keeps s old new d, set-get_or w.memory.words p 0) (kept w₂ h k _ s w.memory.words _ (λ x. decoded n (get_or w.memory.words x 0)) no_clear (keeps false d) (λ x. refl)
          (ends_moves n CallUnmask c.count (λ e. omega arith)) k.sizes)

  pub clear_kept : (s : ClearStage) → Good n (at_clear_stage w s) h → is_clearing s ≡ true → Kept n (perform_side n (at_clear_stage w s) side.Guest) h
  unfolding is_clearing
  clear_kept clear_stage.None k e = clash e refl
  clear_kept clear_stage.Read k e = at-Read k
  clear_kept clear_stage.Cas k e = at-Cas k
