-- The guest's calls and replies keep her record's numbers small and give small answers; the access that is due is small, and a mask's.
-- Assumes nothing.
use Rattle.std.specs.Prelude.{Result, Ok, Err}
use Prim.Native.Nat.{ℕ}
use mathlib.Core.Path.{refl}
use mathlib.Core.Bool.{not}
use native.Mathlib.Omega.{arith}
use borrow.Author.Tests.{not-false}
use lib.Dec.{eqb, leb, ltb, lit≤}
use Rattle.word.specs.declared.Port.{Port}
use Rattle.word.specs.declared.Queue.{Queue}
use Rattle.word.specs.declared.Flag.TheVariants.{Pending, Masked, Busy}
use Rattle.word.specs.Word.{has, link, port_at, queue_at, Width}
use Rattle.word.specs.Effect.{cas_taken}
use Rattle.word.specs.Ready.{merged, lowest}
use Rattle.word.proofs.WordLaws.{mask_lt, all_but-lt, unlink_operand-lt}
use Rattle.word.proofs.EffectLaws.{and_lt_32}
use Rattle.word.proofs.ReadyLaws.{merged_lt}
use Rattle.word.proofs.LowestLaws.{lowest_found}
use Rattle.calls.specs.declared.types.Answer.{Answer}
use Rattle.calls.specs.declared.types.Answer.TheVariants.{Done, NoCall, NothingReady, CallUnmask}
use Rattle.calls.specs.declared.types.Made.{Made}
use Rattle.calls.specs.declared.types.Refused.{Refused}
use Rattle.calls.specs.declared.types.GuestStage.{GuestStage}
use Rattle.calls.specs.declared.types.GuestStage.TheVariants.{None, G0, G1, G2, G3, G4}
use Rattle.calls.specs.declared.types.GuestCall.{GuestCall}
use Rattle.calls.specs.declared.types.ClearStage.{ClearStage}
use Rattle.calls.specs.declared.types.ClearStage.TheVariants as clear_stage
use Rattle.calls.specs.declared.types.ClearCall.{ClearCall}
use Rattle.calls.specs.declared.types.Guest.{Guest}
use Rattle.calls.specs.declared.types.GuestOutcome.{GuestOutcome}
use Rattle.calls.specs.declared.guest.GuestMove.{GuestMove}
use Rattle.calls.specs.declared.clear_mask.ClearMove.{ClearMove}
use Rattle.calls.specs.Answers.{code_of}
use Rattle.calls.specs.Records.{is_port, is_clearing, guest_call_at, guest_idle, clear_at, clear_idle}
use Rattle.calls.specs.Guest.{is_serving, guest_ends, bad_index, takes_index, reply_g0, reply_g2, reply_g3, reply_g4, guest_staged_at, guest_staged, service_queue, guest_due_at, guest_due, guest_next, guest_move, guest_moved, with_guest_call, service_start, service_reply, mask_of, tell_of}
use Rattle.calls.specs.ClearMask.{clear_ends, reply_read, reply_cas, clear_staged_at, clear_staged, clear_due_at, clear_due, clear_next, with_clear, clear_mask_start, clear_carried_out, guest_reply, guest_due_of}
use Rattle.calls.proofs.Cases.{choose, by_test}
use Rattle.claims.specs.Numbers.{Small, SmallAccess, SmallAnswer, SmallService, SmallClear, SmallGuest}
use Rattle.claims.proofs.NumberLaws.{SmallNext, small_at, set_small, answer_small, port_small, link_small}

pub record SmallGuestOutcome (o : GuestOutcome) : Type 0 where
  pub guest : SmallGuest o.guest
  pub next : SmallNext o.next

-- ---- a step of a service carried out

record SmallGuestMove (m : GuestMove) : Type 0 where
  head : Small m.head
  call : SmallService m.call
  answer : SmallAnswer m.answer

pub idle_service_small : SmallService guest_idle
idle_service_small = record { port = lit≤ tt; queue = lit≤ tt }

ended : (ready : ℕ) (a : Answer) (count : ℕ) → SmallAnswer a → SmallGuestMove (guest_ends ready a count)
ended ready a count h = record { head = lit≤ tt; call = idle_service_small; answer = h }

module _ (c : GuestCall) (words : ℕ) where
  takes : (ready : ℕ) (q : Queue) (index : ℕ) → Small q.0 → Small index → SmallGuestMove (takes_index c ready words q index)
  unfolding takes_index code_of
  takes ready q index h l =
      choose SmallGuestMove (eqb index 0) bad
      (choose SmallGuestMove (leb words index) bad
      (record { head = lit≤ tt; call = record { port = l; queue = h }; answer = answer_small refl }))
    where
      bad : SmallGuestMove (bad_index c ready q)
      bad = record { head = lit≤ tt; call = idle_service_small; answer = answer_small refl }

  swaps : (ready head seen : ℕ) → Small head → SmallGuestMove (reply_g0 c ready words head seen)
  unfolding reply_g0 code_of
  swaps ready head seen h =
      by_test SmallGuestMove (eqb local 0) (λ f. ended local NothingReady _ (answer_small refl))
      (λ f. let q : Small (lowest local) = (let l = lowest_found local (merged_lt ready seen) f in omega arith) in
      choose SmallGuestMove (eqb head 0) (record { head = lit≤ tt; call = record { port = lit≤ tt; queue = q }; answer = answer_small refl })
      (takes local (queue_at (lowest local)) head q h))
    where
      local : ℕ
      local = merged ready seen

  module _ {n : ℕ} (wide : Width n) (i : SmallService c) where
    steps : (s : GuestStage) (ready head seen : ℕ) → Small head → Small seen → SmallGuestMove (guest_staged_at n s c ready words head seen)
    unfolding reply_g2 reply_g3 reply_g4 code_of
    steps None ready head seen h l = ended ready _ 0 (answer_small refl)
    steps G0 ready head seen h l = swaps ready head seen h
    steps G1 ready head seen h l = takes ready c.queue seen i.queue l
    steps G2 ready head seen h l =
        choose SmallGuestMove (eqb (link n seen) 0) (record { head = lit≤ tt; call = record { port = i.port; queue = i.queue }; answer = answer_small refl })
        (record { head = link_small wide seen; call = record { port = i.port; queue = i.queue }; answer = answer_small refl })
    steps G3 ready head seen h l =
        choose SmallGuestMove (not (has Pending seen)) (ended ready _ _ (record { number = lit≤ tt; value = i.port }))
        (choose SmallGuestMove (has Masked seen) (ended ready _ _ (record { number = lit≤ tt; value = i.port }))
        (record { head = lit≤ tt; call = record { port = i.port; queue = i.queue }; answer = answer_small refl }))
    steps G4 ready head seen h l = choose SmallGuestMove (has Pending seen) (ended ready _ _ (record { number = lit≤ tt; value = i.port })) (ended ready _ _ (record { number = lit≤ tt; value = i.port }))

-- ---- and of a clear_mask

record SmallClearMove (m : ClearMove) : Type 0 where
  call : SmallClear m.call
  answer : SmallAnswer m.answer

pub idle_clear_small : SmallClear clear_idle
idle_clear_small = record { port = lit≤ tt; word = lit≤ tt }

module _ (c : ClearCall) (i : SmallClear c) (seen : ℕ) (h : Small seen) where
  cleared : (a : Answer) (count : ℕ) → SmallAnswer a → SmallClearMove (clear_ends a count)
  cleared a count l = record { call = idle_clear_small; answer = l }

  clear_steps : (s : ClearStage) → SmallClearMove (clear_staged_at s c seen)
  unfolding reply_read reply_cas code_of
  clear_steps clear_stage.None = cleared NoCall 0 (answer_small refl)
  clear_steps clear_stage.Read =
      choose SmallClearMove (not (has Masked seen)) (cleared Done _ (answer_small refl))
      (choose SmallClearMove (has Pending seen) (cleared CallUnmask _ (answer_small refl))
      (choose SmallClearMove (has Busy seen) (cleared CallUnmask _ (answer_small refl)) (record { call = record { port = i.port; word = h }; answer = answer_small refl })))
  clear_steps clear_stage.Cas = choose SmallClearMove (cas_taken seen c.word) (cleared Done _ (answer_small refl)) (cleared CallUnmask _ (answer_small refl))

-- ---- what she waits for

clear_due_small : (c : ClearCall) → SmallClear c → (s : ClearStage) → SmallAccess (clear_due_at s c)
clear_due_small c i clear_stage.None = i.port
clear_due_small c i clear_stage.Read = i.port
clear_due_small c i clear_stage.Cas = (i.port, i.word, and_lt_32 c.word _ i.word)

module _ {n : ℕ} (wide : Width n) where
  due_small : (c : GuestCall) → SmallService c → (s : GuestStage) → SmallAccess (guest_due_at n s c)
  due_small c i None = tt
  due_small c i G0 = (tt, lit≤ tt)
  due_small c i G1 = i.queue
  due_small c i G2 = (i.port, unlink_operand-lt wide)
  due_small c i G3 = i.port
  due_small c i G4 = (i.port, all_but-lt Pending)

  guest_next_small : (g : Guest) → SmallGuest g → (a : Answer) (count : ℕ) → SmallAnswer a → SmallNext (guest_next n g a count)
  unfolding guest_next guest_due
  guest_next_small g i a count h = choose SmallNext (not (is_serving g.call.stage)) h (due_small g.call i.call g.call.stage)

  pub guest_due_small : (g : Guest) → SmallGuest g → SmallNext (guest_due_of n g)
  unfolding guest_due_of clear_due code_of
  guest_due_small g i = choose SmallNext (is_clearing g.clear.stage) (clear_due_small g.clear i.clear g.clear.stage) (guest_next_small g i NoCall 0 (answer_small refl))

-- ---- every call and reply

module _ {n : ℕ} (wide : Width n) (g : Guest) (i : SmallGuest g) where
  moved_small : (m : GuestMove) → SmallGuestMove m → SmallGuest (guest_moved g m)
  unfolding guest_moved
  moved_small m h = record { heads = set_small g.heads _ _ i.heads h.head; call = h.call; clear = i.clear }

  pub service_small : SmallGuestOutcome (service_start n g)
  unfolding service_start code_of
  service_small =
      choose SmallGuestOutcome (is_clearing g.clear.stage) (record { guest = i; next = answer_small refl })
      (choose SmallGuestOutcome (is_serving g.call.stage) (record { guest = i; next = answer_small refl })
      (record { guest = begun; next = guest_next_small wide _ begun Done 0 (answer_small refl) }))
    where
      begun : SmallGuest (with_guest_call g (guest_call_at G0 (port_at 0) (queue_at 0) 1))
      begun = record { heads = i.heads; call = record { port = lit≤ tt; queue = lit≤ tt }; clear = i.clear }

  with_clear_small : (c : ClearCall) → SmallClear c → SmallGuest (with_clear g c)
  with_clear_small c h = record { heads = i.heads; call = i.call; clear = h }

  pub clear_mask_small : (p : Port) → SmallGuestOutcome (clear_mask_start n g p)
  unfolding clear_mask_start code_of
  clear_mask_small p =
      choose SmallGuestOutcome (is_clearing g.clear.stage) (record { guest = i; next = answer_small refl })
      (by_test SmallGuestOutcome (not (is_port n p.0)) (λ h. record { guest = i; next = answer_small refl })
      (λ h. let l = port_small wide p.0 (not-false _ h) in
      choose SmallGuestOutcome (leb g.words p.0) (record { guest = i; next = answer_small refl })
      (record { guest = with_clear_small (clear_at clear_stage.Read p 0 1) (record { port = l; word = lit≤ tt }); next = l })))

  service_reply_small : (seen : ℕ) → Small seen → SmallGuestOutcome (service_reply n g seen)
  unfolding service_reply guest_staged code_of
  service_reply_small seen h =
      choose SmallGuestOutcome (not (is_serving g.call.stage)) (record { guest = i; next = answer_small refl })
      (record { guest = moved_small m small; next = guest_next_small wide _ (moved_small m small) m.answer m.count small.answer })
    where
      m : GuestMove
      m = guest_move n g seen

      small : SmallGuestMove m
      small = steps g.call g.words wide i.call g.call.stage g.ready _ seen (small_at g.heads i.heads (service_queue g.ready seen).0) h

  clear_reply_small : (m : ClearMove) → SmallClearMove m → SmallGuestOutcome (clear_carried_out g m)
  unfolding clear_next clear_due
  clear_reply_small m h = record { guest = with_clear_small m.call h.call; next = choose SmallNext (is_clearing m.call.stage) (clear_due_small m.call h.call m.call.stage) h.answer }

  pub guest_reply_small : (seen : ℕ) → Small seen → SmallGuestOutcome (guest_reply n g seen)
  unfolding guest_reply clear_staged
  guest_reply_small seen h =
      choose SmallGuestOutcome (is_clearing g.clear.stage) (clear_reply_small (clear_staged g.clear seen) (clear_steps g.clear i.clear seen h g.clear.stage)) (service_reply_small seen h)

  pub tell_small : (words : ℕ) → SmallGuestOutcome (tell_of g words)
  unfolding tell_of code_of
  tell_small words =
      choose SmallGuestOutcome (ltb g.words words) (record { guest = record { heads = i.heads; call = i.call; clear = i.clear }; next = answer_small refl }) (record { guest = i; next = answer_small refl })

-- a mask's access and its answer
abbrev pub SmallMasking : Result Made Refused → Type 0
SmallMasking (Err r) = SmallAnswer r.answer
SmallMasking (Ok y) = SmallAccess y.access × SmallAnswer y.answer

pub mask_small : {n : ℕ} → Width n → (p : Port) (words : ℕ) → SmallMasking (mask_of n p words)
unfolding mask_of code_of
mask_small {n} wide p words =
    by_test SmallMasking (not (is_port n p.0)) (λ h. answer_small refl)
    (λ h. choose SmallMasking (leb words p.0) (answer_small refl) ((port_small wide p.0 (not-false _ h), mask_lt Masked), answer_small refl))
