-- R3 and R4: the tail's word is read, and while it is linked a cas tries to link the port behind it. BusyAccess has the accesses
-- that set and clear BUSY between two tries.
-- Assumes nothing.
use mathlib.Core.Path.{◌≡◌, refl, sym, ap, ◌∙◌, subst}
use mathlib.Core.Bool.{Bool, true, false, cond, not}
use mathlib.Core.List.{List, append-nil}
use Prim.Native.Nat.{ℕ, suc, ◌+◌, ◌-◌, ◌*◌, ◌^◌, ◌≤◌, ◌<◌, zero-le}
use native.Mathlib.Nat.{le_refl}
use native.Mathlib.Omega.{arith}
use lib.Dec.{eqb, leb, lit≤}
use lib.ListN.{length, set}
use borrow.Author.Tests.{lt-leb, leb-true, leb-false}
use Rattle.word.specs.declared.Flag.TheVariants.{Linked, Busy}
use Rattle.word.specs.Word.{has, all_but, Width, port_at}
use Rattle.word.specs.Effect.{cas_taken, after_and}
use Rattle.word.specs.Effect as effect
use Rattle.word.specs.Entry.{last_queue, ever_linked}
use Rattle.word.proofs.WordLaws.{with_link-lt}
use Rattle.word.proofs.EffectLaws.{read_keeps, and_lt_32, cas_puts, cas_keeps}
use Rattle.calls.specs.declared.types.Answer.TheVariants.{Done}
use Rattle.calls.specs.declared.types.Access.{Access}
use Rattle.calls.specs.declared.types.Access.TheVariants.{Cas}
use Rattle.calls.specs.declared.types.Place.TheVariants as place
use Rattle.calls.specs.declared.types.Owner.{Owner}
use Rattle.calls.specs.declared.types.Stage.TheVariants as stage
use Rattle.calls.specs.declared.types.Call as calls
use Rattle.calls.specs.declared.hypervisor.stage.Move.{Move}
use Rattle.calls.specs.Hypervisor.{goes_on, ends_tailed, named, comparing, clearing, linking_word, due, staged, reply_r3, after_first_cas, after_later_cas, reply_r4}
use Rattle.machine.specs.Memory.{memory, performed, place_of, after_access, loaded, saved}
use Rattle.machine.specs.Exec.{World, perform_side}
use Rattle.machine.specs.declared.types.Side.TheVariants as side
use Rattle.machine.specs.declared.types.Event.{Event}
use Rattle.queue.specs.Model.{Call, View, with_link, same_word}
use Rattle.queue.specs.Model.Stage.{at_r3, at_r4, at_set_busy, at_clear_busy, at_r5}
use Rattle.queue.specs.Model.Call.{holds}
use Rattle.queue.specs.Stages.{After, after_read, after_cas, link_behind}
use Rattle.queue.specs.Budget.{most_tries, made_by}
use Rattle.queue.specs.Invariant.{Inv, Keeps}
use Rattle.queue.proofs.Tail.{R3-keeps, R4-keeps}
use Rattle.queue.proofs.Budget.{count_holds, count_taken, few_tries_lem, try_left}
use Rattle.interleaving.specs.Held.{is_linking}
use Rattle.interleaving.specs.Histories.{port_if}
use Rattle.interleaving.proofs.Decode.{decoded, decoded_link, decoded_not_busy, decoded_cas}
use Rattle.interleaving.proofs.HistoryLaws.{order_taken}
use Rattle.interleaving.proofs.Good.{Core, Kept}
use Rattle.interleaving.specs.Fresh.{word_at}
use Rattle.interleaving.proofs.View.{view_of, guest_call_of, guests_of, clears_of, agree, set_update, set_blind}
use Rattle.interleaving.proofs.Carried.{at_stage, port_of, queue_of, tail_of, entry_of, carried, perform_carried, QuietMoves, kept, read_kept, sizes_word, in_words, no_bounds, tries_bound}
use Rattle.interleaving.proofs.Replies.{fit_idle, named_moves, comparing_moves, clearing_moves, done}
use Rattle.interleaving.proofs.Linking.{under_way_lem, not_free}

module _ {n : ℕ} (wide : Width n) (w : World) (h : List Event) (o : Owner) (linking : is_linking o ≡ true) where
  abbrev p : ℕ
  p = port_of w

  abbrev q : ℕ
  q = queue_of w

  abbrev e : ℕ
  e = entry_of w

  abbrev t : ℕ
  t = tail_of w

  -- the word seen
  abbrev s : ℕ
  s = word_at w t

  abbrev old : ℕ
  old = w.domain.call.word

  abbrev tries : ℕ
  tries = w.domain.call.tries

  abbrev v : View
  v = view_of n w

  pub at-R3 : Core n (at_stage w o stage.R3) (holds q p at_r3) (guest_call_of w.guest.call) h → Kept n (perform_side n (at_stage w o stage.R3) side.Hypervisor) h
  unfolding due staged reply_r3 performed place_of after_access loaded saved
  at-R3 k = subst (λ a. Kept n a h) (sym (perform_carried n (at_stage w o stage.R3) (not_free o linking) known))
      (read_kept (at_stage w o stage.R3) h k _ s t _ _ (after_read q p (decoded n s)) (moves (has Linked s)) (count_holds 0 q p at_r3 k.inv) (lit≤ tt) (λ q. refl) (no_bounds _ _ refl)
      (read_keeps s) (R3-keeps q p k.inv))
    where
      c : calls.Call
      c = (at_stage w o stage.R3).domain.call

      known : p < length w.ledger
      known = k.fit.entry (not_free o linking)

      small : s < 2 ^ 32
      small = k.sizes.small t (k.inv.tails q k.inv.stage.some).inside

      moves : (b : Bool) → QuietMoves n (length w.ledger) e c (cond b (holds q p (at_r4 0 (decoded n s))) (holds q p at_r5)) (cond (not b) (goes_on e (named c stage.R5 c.queue)) (goes_on e (comparing c 1 s)))
      moves true = comparing_moves n (length w.ledger) e c s known k.fit.queue small linking 0
      moves false = named_moves n (length w.ledger) e c stage.R5 c.queue known k.fit.queue linking (holds q p at_r5) (under_way_lem o _ linking)

  pub at-R4 : Core n (at_stage w o stage.R4) (holds q p (at_r4 (tries - 1) (decoded n old))) (guest_call_of w.guest.call) h
      → Kept n (perform_side n (at_stage w o stage.R4) side.Hypervisor) h
  unfolding due staged reply_r4 after_first_cas after_later_cas performed place_of after_access loaded saved
  at-R4 k = subst (λ a. Kept n a h) (sym (perform_carried n (at_stage w o stage.R4) (not_free o linking) known)) (go (cas_taken s old) refl)
    where
      new : ℕ
      new = linking_word n old p

      c : calls.Call
      c = (at_stage w o stage.R4).domain.call

      acc : Access
      acc = Cas (place.Word (port_at t)) old new

      known : p < length w.ledger
      known = k.fit.entry (not_free o linking)

      inside : t < 1024 * w.domain.pages
      inside = (k.inv.tails q k.inv.stage.some).inside

      small : s < 2 ^ 32
      small = k.sizes.small t inside

      -- the queue's test is the machine's
      test : same_word (decoded n s) (decoded n old) ≡ cas_taken s old
      test = decoded_cas wide s old small k.fit.word

      -- what the queue level leaves, by whether the cas is taken
      left : Bool → After Call
      left b = cond b (link_behind q p (decoded n old) v k.lists) (record { view = v; call = after_cas q p (tries - 1) (decoded n s); lists = k.lists })

      keeps : (b : Bool) → cas_taken s old ≡ b → Keeps (left b) (guests_of w) (clears_of n w)
      keeps b d = subst (λ b. Keeps (left b) (guests_of w) (clears_of n w)) (test ∙ d) (R4-keeps q p (tries - 1) (decoded n old) k.inv)

      less : (b : Bool) → cas_taken s old ≡ b → made_by (holds q p (at_r4 (tries - 1) (decoded n old))) < made_by (left b).call
      less b d = subst (λ b. made_by (holds q p (at_r4 (tries - 1) (decoded n old))) < made_by (left b).call) (test ∙ d) (count_holds 0 q p (at_r4 (tries - 1) (decoded n old)) k.inv)

      left_tries : tries - 1 < most_tries
      left_tries = few_tries_lem q p (tries - 1) (decoded n old) k.inv

      few : made_by (holds q p (at_r4 (tries - 1) (decoded n old))) < 7 + most_tries
      few = count_taken q p (tries - 1) (decoded n old) left_tries

      bounded : tries ≤ most_tries
      bounded = let a = left_tries in omega arith

      port_lt : p < 2 ^ n
      port_lt = let a : p < 1024 * w.domain.pages = k.inv.port.real.inside in let b = k.sizes.array in omega arith

      taken : cas_taken s old ≡ true → Kept n (carried n (at_stage w o stage.R4) acc s (memory (set w.memory.words t new) w.memory.block) (ends_tailed e c Done)) h
      taken d = kept (at_stage w o stage.R4) h k acc s _ _ (left true) (keeps true d)
          (agree (record {
            word = set_update (decoded n) w.memory.words t new _ (in_words k.sizes t inside) (decoded_link wide (after_and old (all_but Busy)) p port_lt ∙ ap (with_link p) (decoded_not_busy wide old));
            size = refl;
            tail = set_update (λ z. z) w.domain.tails q p p (rw k.sizes.tails k.fit.queue) refl;
            last_queue = set_blind last_queue w.ledger p e refl;
            ever_linked = set_blind ever_linked w.ledger p e refl;
            head = λ r. refl;
            ready = λ r. refl;
            guest_head = λ r. refl;
            local = λ r. refl;
            owner = λ r. refl;
          }))
          (record { call = refl; fit = fit_idle (length w.ledger); more = zero-le; answer = done; count = le_refl c.count })
          (sizes_word k.sizes t new (with_link-lt wide (after_and old (all_but Busy)) p (and_lt_32 old (all_but Busy) k.fit.word))) (less true d) few
          (order_taken h _ k.lists k.order q p (λ r. rw d (append-nil (port_if (eqb q r) p))) (λ r. refl)) (tries_bound c s refl bounded)

      -- not taken: the call goes on
      next : (to : Call) (mv : Move) → cas_taken s old ≡ false → after_cas q p (tries - 1) (decoded n s) ≡ to → QuietMoves n (length w.ledger) e c to mv
          → Kept n (carried n (at_stage w o stage.R4) acc s (memory (set w.memory.words t s) w.memory.block) mv) h
      next to mv d a moves = read_kept (at_stage w o stage.R4) h k acc s t s mv to moves (subst (λ z. made_by (holds q p (at_r4 (tries - 1) (decoded n old))) < made_by z) a (less false d)) few (λ r. rw d) (tries_bound c s refl bounded)
          refl (subst (λ z. Inv v z (guests_of w) (clears_of n w) k.lists) a (keeps false d))

      -- where the word seen is linked, a try is left
      try : cas_taken s old ≡ false → has Linked s ≡ true → leb 5 tries ≡ false
      try d l = lt-leb 5 tries (let a : suc (tries - 1) < most_tries = try_left q p (tries - 1) (decoded n old) k.inv (test ∙ d) l in omega arith)

      -- where the queue's call goes on, after the first cas and after a later one
      first : leb tries 1 ≡ true → (b : Bool) → has Linked s ≡ b → after_cas q p (tries - 1) (decoded n s) ≡ cond b (holds q p at_set_busy) (holds q p at_r5)
      first f b l =
          let none : tries - 1 ≡ 0 = omega (arith, leb-true tries 1 f) in
          ap (λ i. after_cas q p i (decoded n s)) none ∙ ap (λ b. cond b (holds q p at_set_busy) (holds q p at_r5)) l

      later : leb tries 1 ≡ false → (b : Bool) → has Linked s ≡ b → after_cas q p (tries - 1) (decoded n s) ≡ cond b (holds q p (at_r4 tries (decoded n s))) (holds q p at_clear_busy)
      later f b l =
          let one : tries - 1 ≡ suc (tries - 2) = omega (arith, leb-false tries 1 f) in
          let two : suc (suc (tries - 2)) ≡ tries = omega (arith, leb-false tries 1 f) in
          ap (λ i. after_cas q p i (decoded n s)) one
          ∙ ap (λ i. cond (has Linked s) (holds q p (at_r4 i (decoded n s))) (holds q p at_clear_busy)) two
          ∙ ap (λ b. cond b (holds q p (at_r4 tries (decoded n s))) (holds q p at_clear_busy)) l

      goes_on_lem : cas_taken s old ≡ false → (a b : Bool) → leb tries 1 ≡ a → has Linked s ≡ b → Kept n (carried n (at_stage w o stage.R4) acc s (memory (set w.memory.words t s) w.memory.block)
          (cond a (cond (not b) (goes_on e (named c stage.R5 c.queue)) (goes_on e (named c stage.SetBusy c.queue))) (cond (not b) (goes_on e (clearing c s)) (cond (leb 5 tries) (goes_on e (clearing c s)) (goes_on e (comparing c (tries + 1) s)))))) h
      goes_on_lem d true false f l = next (holds q p at_r5) _ d (first f false l) (named_moves n (length w.ledger) e c stage.R5 c.queue known k.fit.queue linking (holds q p at_r5) (under_way_lem o _ linking))
      goes_on_lem d true true f l = next (holds q p at_set_busy) _ d (first f true l) (named_moves n (length w.ledger) e c stage.SetBusy c.queue known k.fit.queue linking (holds q p at_set_busy) (under_way_lem o _ linking))
      goes_on_lem d false false f l = next (holds q p at_clear_busy) _ d (later f false l) (clearing_moves n (length w.ledger) e c s known k.fit.queue small linking l)
      goes_on_lem d false true f l = rw (try d l) (next (holds q p (at_r4 tries (decoded n s))) _ d (later f true l)
          (comparing_moves n (length w.ledger) e c s known k.fit.queue small linking tries))

      go : (b : Bool) → cas_taken s old ≡ b → Kept n (carried n (at_stage w o stage.R4) acc s (memory (set w.memory.words t (effect.after_cas s old new)) w.memory.block) (cond b (ends_tailed e c Done) (cond (leb tries 1) (after_first_cas c e s) (after_later_cas c e s)))) h
      go true d = rw (cas_puts s old new d) (taken d)
      go false d = rw (cas_keeps s old new d) (goes_on_lem d (leb tries 1) (has Linked s) refl refl)
