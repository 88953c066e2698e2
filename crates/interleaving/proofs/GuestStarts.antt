-- The starts of the guest's calls: service, mask with its access, clear_mask, tell.
-- Assumes nothing.
use Rattle.std.specs.Prelude.{Ok, Err}
use mathlib.Core.Path.{◌≡◌, refl, sym, subst}
use mathlib.Core.Logic.{◌≢◌}
use mathlib.Core.Bool.{true, false, not}
use mathlib.Core.List.{List, ◌++◌}
use Prim.Native.Nat.{ℕ, ◌*◌, ◌≤◌, ◌<◌}
use native.Mathlib.Omega.{arith}
use lib.Dec.{ltb, leb, lit≤}
use lib.ListN.{get_or}
use borrow.Author.Tests.{leb-false, not-false}
use Rattle.word.specs.declared.Port.{Port}
use Rattle.word.specs.declared.Flag.TheVariants.{Masked}
use Rattle.word.specs.Word.{mask, Width, port_at, queue_at}
use Rattle.word.proofs.WordLaws.{mask_lt}
use Rattle.word.proofs.EffectLaws.{or_lt_32}
use Rattle.calls.specs.declared.types.Answer.{Answer}
use Rattle.calls.specs.declared.types.Answer.TheVariants.{Done, BadPort, OutsideArray, CallUnderWay}
use Rattle.calls.specs.declared.types.Access.TheVariants.{Read, Or}
use Rattle.calls.specs.declared.types.Place.TheVariants as place
use Rattle.calls.specs.declared.types.Next.{Next}
use Rattle.calls.specs.declared.types.Next.TheVariants as next
use Rattle.calls.specs.declared.types.GuestStage.{GuestStage}
use Rattle.calls.specs.declared.types.GuestStage.TheVariants as guest_stage
use Rattle.calls.specs.declared.types.GuestCall as guests
use Rattle.calls.specs.declared.types.ClearStage.{ClearStage}
use Rattle.calls.specs.declared.types.ClearStage.TheVariants as clear_stage
use Rattle.calls.specs.declared.types.ClearCall as clears
use Rattle.calls.specs.declared.types.GuestOutcome.{GuestOutcome}
use Rattle.calls.specs.Answers.{code_of}
use Rattle.calls.specs.Records.{is_port, guest_call_at, is_clearing, clear_at}
use Rattle.calls.specs.Guest.{is_serving, guest_next, guest_answered, guest_going_on, with_guest_call, service_start, mask_of, with_words, tell_of}
use Rattle.calls.specs.ClearMask.{with_clear, clear_mask_start}
use Rattle.calls.proofs.RecordLaws.{is_port_lem}
use Rattle.machine.specs.Memory.{performed, place_of, after_access, loaded, saved}
use Rattle.machine.specs.Exec.{World, guest_step, guest_replied, guest_answer, list_of, perform_masking, perform_mask, guest_start_of}
use Rattle.machine.specs.declared.types.GuestStart.{GuestStart}
use Rattle.machine.specs.declared.types.GuestStart.TheVariants.{Service, Mask, ClearMask, Tell}
use Rattle.machine.specs.declared.types.Step.TheVariants as step
use Rattle.machine.specs.declared.types.Event.{Event}
use Rattle.machine.specs.declared.types.Event.TheVariants.{Nothing}
use Rattle.queue.specs.Model.{with_masked}
use Rattle.queue.specs.Model.GuestCall.{no_service, at_g0}
use Rattle.queue.specs.Model.ClearCall.{no_clear, at_read}
use Rattle.queue.specs.Invariant.{Real, Inv}
use Rattle.queue.proofs.Cases.{clash, by_cond}
use Rattle.queue.proofs.Service.{start_service-keeps, mask_keeps}
use Rattle.queue.proofs.ClearMask.{start_clear-keeps}
use Rattle.queue.proofs.OneVcpu.{alone_update, alone_clear_update}
use Rattle.interleaving.specs.Fresh.{array_words}
use Rattle.interleaving.specs.Rules.{Allowed}
use Rattle.interleaving.proofs.Decode.{decoded, decoded_masked}
use Rattle.interleaving.proofs.View.{call_of, guest_call_by, guest_call_of, clear_call_by, clear_call_of, guests_of, clears_of, agree, set_update}
use Rattle.interleaving.proofs.HistoryLaws.{InOrder, order_quiet, guest_answer_taken, guest_answer_given}
use Rattle.interleaving.proofs.Good.{Good, Kept}
use Rattle.interleaving.proofs.Carried.{sizes_word, in_words}
use Rattle.interleaving.proofs.Served.{answer_bounds}

-- a port below her number of words, where that is not beyond the array
below : (w : World) (p : ℕ) → w.guest.words ≤ array_words w → leb w.guest.words p ≡ false → p < array_words w
below w p within e = omega (arith, leb-false w.guest.words p e)

-- no service is under way
pub none_serving : (c : guests.GuestCall) → is_serving c.stage ≡ false → guest_call_of c ≡ no_service
unfolding is_serving
none_serving c e = go c.stage e
  where
    go : (s : GuestStage) → is_serving s ≡ false → guest_call_by s c.port.0 c.queue.0 ≡ no_service
    go guest_stage.None e = refl
    go guest_stage.G0 e = clash refl e
    go guest_stage.G1 e = clash refl e
    go guest_stage.G2 e = clash refl e
    go guest_stage.G3 e = clash refl e
    go guest_stage.G4 e = clash refl e

-- no clear_mask is under way
pub none_clearing : (n : ℕ) (c : clears.ClearCall) → is_clearing c.stage ≡ false → clear_call_of n c ≡ no_clear
unfolding is_clearing
none_clearing n c e = go c.stage e
  where
    go : (s : ClearStage) → is_clearing s ≡ false → clear_call_by n s c.port.0 c.word ≡ no_clear
    go clear_stage.None e = refl
    go clear_stage.Read e = clash refl e
    go clear_stage.Cas e = clash refl e

module _ {n : ℕ} (w : World) (h : List Event) (k : Good n w h) where
  order_start : (x : Next) → InOrder (h ++ list_of (guest_answer x)) k.lists
  order_start x = order_quiet h (list_of (guest_answer x)) k.lists k.order (λ q. guest_answer_taken q x) (λ q. guest_answer_given q x)

  -- an answer at once, and the record is as before
  pub answered_kept : (a : Answer) (count : ℕ) → (code_of a).number ≢ 18 → Kept n (guest_step w (guest_replied (record { guest = w.guest; next = next.Answer a count }) Nothing w.memory)) h
  answered_kept a count f = record {
    good = record { lists = k.lists; inv = k.inv; sizes = k.sizes; fit = k.fit; count = k.count; guest_queue = k.guest_queue; clear_word = k.clear_word; order = order_start (next.Answer a count) };
    bounds = (f, tt);
  }

  -- a start of hers that changes nothing in memory
  abbrev Starts : GuestOutcome → Type 0
  Starts o = Kept n (guest_step w (guest_replied o Nothing w.memory)) h

  service_kept : is_serving w.guest.call.stage ≡ false → Starts (guest_going_on n (with_guest_call w.guest (guest_call_at guest_stage.G0 (port_at 0) (queue_at 0) 1)) Done 0)
  unfolding code_of
  service_kept e = record {
    good = record {
      lists = k.lists;
      inv = rw (alone_update no_service at_g0) at (start_service-keeps 0 refl (rw (none_serving w.guest.call e) at k.inv));
      sizes = k.sizes;
      fit = k.fit;
      count = k.count;
      guest_queue = lit≤ tt;
      clear_word = k.clear_word;
      order = order_start (guest_next n (with_guest_call w.guest (guest_call_at guest_stage.G0 (port_at 0) (queue_at 0) 1)) Done 0);
    };
    bounds = answer_bounds n _ Done 0 (λ d. omega arith);
  }

  service_start_lem : Starts (service_start n w.guest)
  unfolding service_start code_of
  service_start_lem = by_cond Starts (is_clearing w.guest.clear.stage) _ _ (λ e. answered_kept CallUnderWay 0 (λ d. omega arith))
      (λ e. by_cond Starts (is_serving w.guest.call.stage) _ _ (λ d. answered_kept CallUnderWay 0 (λ d. omega arith)) service_kept)

  -- a mask in the array
  masked_kept : Width n → (p : Port) → p.0 < 1024 * w.domain.pages → Kept n (guest_step w (perform_masking w.guest w.memory (Ok (record { access = Or (place.Word p) (mask Masked); answer = Done; count = 1 })))) h
  unfolding code_of performed place_of after_access loaded saved
  masked_kept wide p inside = record {
    good = record {
      lists = k.lists;
      inv = subst (λ v. Inv v (call_of n w.domain.call) (guests_of w) (clears_of n w) k.lists) (sym (agree (record {
        word = set_update (decoded n) w.memory.words p.0 _ (with_masked true (decoded n s)) (in_words k.sizes p.0 inside) (decoded_masked wide s);
        size = refl;
        tail = λ q. refl;
        last_queue = λ x. refl;
        ever_linked = λ x. refl;
        head = λ q. refl;
        ready = λ q. refl;
        guest_head = λ q. refl;
        local = λ q. refl;
        owner = λ q. refl;
      }))) (mask_keeps p.0 k.inv);
      sizes = sizes_word k.sizes p.0 _ (or_lt_32 s (mask Masked) (k.sizes.small p.0 inside) (mask_lt Masked));
      fit = k.fit;
      count = k.count;
      guest_queue = k.guest_queue;
      clear_word = k.clear_word;
      order = order_quiet h _ k.lists k.order (λ q. refl) (λ q. refl);
    };
    bounds = (tt, ((λ d. omega arith), tt));
  }
    where
      s : ℕ
      s = get_or w.memory.words p.0 0

  mask_kept : Width n → (p : Port) → w.guest.words ≤ array_words w → Kept n (guest_step w (perform_mask n w.guest w.memory p)) h
  unfolding perform_mask mask_of code_of
  mask_kept wide p within = by_cond (λ x. Kept n (guest_step w (perform_masking w.guest w.memory x)) h) (not (is_port n p.0)) (Err (record { answer = BadPort; count = 0 })) _
      (λ e. answered_kept BadPort 0 (λ d. omega arith))
      (λ e. by_cond (λ x. Kept n (guest_step w (perform_masking w.guest w.memory x)) h) (leb w.guest.words p.0) (Err (record { answer = OutsideArray; count = 0 })) _
      (λ d. answered_kept OutsideArray 0 (λ z. omega arith))
      (λ d. masked_kept wide p (below w p.0 within d)))

  clear_kept : (p : Port) → Real (array_words w) p.0 → Starts (record { guest = with_clear w.guest (clear_at clear_stage.Read p 0 1); next = next.Access (Read (place.Word p)) })
  clear_kept p real = record {
    good = record {
      lists = k.lists;
      inv = rw (alone_clear_update (clear_call_of n w.guest.clear) (at_read p.0)) at (start_clear-keeps 0 p.0 real k.inv);
      sizes = k.sizes;
      fit = k.fit;
      count = k.count;
      guest_queue = k.guest_queue;
      clear_word = lit≤ tt;
      order = order_start (next.Access (Read (place.Word p)));
    };
    bounds = tt;
  }

  clear_start : (p : Port) → w.guest.words ≤ array_words w → Starts (clear_mask_start n w.guest p)
  unfolding clear_mask_start code_of
  clear_start p within = by_cond Starts (is_clearing w.guest.clear.stage) _ _ (λ e. answered_kept CallUnderWay 0 (λ d. omega arith))
      (λ e. by_cond Starts (not (is_port n p.0)) _ _ (λ d. answered_kept BadPort 0 (λ d. omega arith))
      (λ port. by_cond Starts (leb w.guest.words p.0) _ _ (λ d. answered_kept OutsideArray 0 (λ d. omega arith))
      (λ here. clear_kept p (record { some = λ z. omega (arith, is_port_lem n p.0 (not-false _ port)); inside = below w p.0 within here }))))

  tell_kept : (words : ℕ) → Starts (tell_of w.guest words)
  unfolding tell_of code_of
  tell_kept words = by_cond Starts (ltb w.guest.words words) (guest_answered (with_words w.guest words) Done) (guest_answered w.guest Done)
      (λ e. record {
        good = record { lists = k.lists; inv = k.inv; sizes = k.sizes; fit = k.fit; count = k.count; guest_queue = k.guest_queue; clear_word = k.clear_word; order = order_start (next.Answer Done 0) };
        bounds = ((λ d. omega arith), tt);
      })
      (λ e. answered_kept Done 0 (λ d. omega arith))

  pub guest_start_kept : Width n → (s : GuestStart) → Allowed w (step.Guest s) → Kept n (guest_step w (guest_start_of n w.guest w.memory s)) h
  unfolding guest_start_of
  guest_start_kept wide Service told = service_start_lem
  guest_start_kept wide (Mask p) told = mask_kept wide p (omega arith)
  guest_start_kept wide (ClearMask p) told = clear_start p (omega arith)
  guest_start_kept wide (Tell words) le = tell_kept words
