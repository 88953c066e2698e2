-- The guest's services and clear_masks reach nothing outside and name at most five and two accesses, and a mask lies below the
-- number of words handed to it: the invariant on her record and on the numbers of accesses named, kept by every act.
-- Assumes nothing.
use Prim.Native.Nat.{ℕ, ◌+◌, ◌≤◌, ◌<◌, max}
use mathlib.Core.Path.{◌≡◌, refl, sym, ap, subst, ◌∙◌}
use mathlib.Core.Bool.{Bool, true, false, cond, not, true≢false, false≢true}
use mathlib.Core.List.{List, [], ◌∷◌}
use native.Mathlib.Omega.{arith}
use borrow.Author.Tests.{eqb-false, leb-false, ltb-true, ltb-false, not-true, not-false}
use lib.Dec.{eqb, leb, ltb}
use Rattle.word.specs.declared.Queue.{Queue}
use Rattle.word.specs.declared.Flag.TheVariants.{Pending, Masked, Busy}
use Rattle.word.specs.Word.{has, link, queue_at}
use Rattle.word.specs.Effect.{cas_taken}
use Rattle.word.specs.Ready.{merged, lowest}
use Rattle.word.proofs.ReadyLaws.{merged_lt}
use Rattle.word.proofs.LowestLaws.{lowest_found}
use Rattle.calls.specs.declared.types.Access.{Access}
use Rattle.calls.specs.declared.types.Answer.{Answer}
use Rattle.calls.specs.declared.types.Next.{Next}
use Rattle.calls.specs.declared.types.Next.TheVariants as next
use Rattle.calls.specs.declared.types.GuestStage.{GuestStage}
use Rattle.calls.specs.declared.types.GuestStage.TheVariants.{None, G0, G1, G2, G3, G4}
use Rattle.calls.specs.declared.types.GuestCall.{GuestCall}
use Rattle.calls.specs.declared.types.ClearStage.{ClearStage}
use Rattle.calls.specs.declared.types.ClearStage.TheVariants as clear_stage
use Rattle.calls.specs.declared.types.ClearCall.{ClearCall}
use Rattle.calls.specs.declared.types.Guest.{Guest}
use Rattle.calls.specs.declared.types.GuestOutcome.{GuestOutcome}
use Rattle.calls.specs.declared.guest.GuestMove.{GuestMove}
use Rattle.calls.specs.declared.clear_mask.ClearMove.{ClearMove}
use Rattle.calls.specs.Records.{is_port, is_clearing, fresh_guest}
use Rattle.calls.specs.Guest.{is_serving, takes_index, reply_g0, reply_g2, reply_g3, reply_g4, guest_staged_at, guest_staged, guest_due_at, guest_due, guest_next, guest_carried_out, guest_move, guest_moved, service_start, service_reply, mask_of, tell_of}
use Rattle.calls.specs.ClearMask.{reply_read, reply_cas, clear_staged_at, clear_staged, clear_due_at, clear_due, clear_next, clear_mask_start, clear_carried_out, guest_reply, guest_due_of}
use Rattle.calls.specs.Claims.{GuestAct, Serves, ClearsMask, GuestReplies, Tells, guest_turn_of, is_guest_reply, is_services, is_clears, Side, guest_side, clear_side, Counting, named_after, run_one, run}
use Rattle.calls.proofs.Cases.{choose, by_test, no_access, same_access}
use Rattle.calls.proofs.RecordLaws.{is_port_lem}
use Rattle.calls.proofs.GuestClaims.{guest_names_due, counts_services, counts_clears}
use Rattle.machine.specs.Memory.{place_of}
use Rattle.claims.specs.Reach.{PortInside, Inside, service_limit, ServicesBounded, clear_limit, ClearsBounded, words_told, WordsAreTold, MaskInside, MasksInside}
use Rattle.claims.proofs.SideReach.{bounded}

-- ---- the invariant

-- a call that has named k accesses and looks at its port
record Looks (words : ℕ) (p k limit : ℕ) : Type 0 where
  port : PortInside words p
  length : k ≤ limit

-- a service by stage: G1 looks at its queue, the later stages at its port
abbrev ServiceInside : GuestStage → ℕ → GuestCall → ℕ → Type 0
ServiceInside None words c k = Unit {0}
ServiceInside G0 words c k = k ≤ 1
ServiceInside G1 words c k = (c.queue.0 < 16) × (k ≤ 2)
ServiceInside G2 words c k = Looks words c.port.0 k 3
ServiceInside G3 words c k = Looks words c.port.0 k 4
ServiceInside G4 words c k = Looks words c.port.0 k 5

-- and a clear_mask
abbrev ClearInside : ClearStage → ℕ → ClearCall → ℕ → Type 0
ClearInside clear_stage.None words c k = Unit {0}
ClearInside clear_stage.Read words c k = Looks words c.port.0 k 1
ClearInside clear_stage.Cas words c k = Looks words c.port.0 k 2

-- her latest service has named k accesses, her latest clear_mask j
record Invariant (g : Guest) (k j : ℕ) : Type 0 where
  most : k ≤ service_limit
  call : ServiceInside g.call.stage g.words g.call k
  most_clear : j ≤ clear_limit
  clear : ClearInside g.clear.stage g.words g.clear j

-- ---- a step of a service carried out

module _ (words : ℕ) (c : GuestCall) (k : ℕ) where
  abbrev Moves : GuestMove → Type 0
  Moves m = ServiceInside m.call.stage words m.call (k + 1)

  takes : k ≤ 2 → (ready : ℕ) (q : Queue) (index : ℕ) → Moves (takes_index c ready words q index)
  unfolding takes_index
  takes h ready q index =
      by_test Moves (eqb index 0) (λ f. tt)
      (λ f. by_test Moves (leb words index) (λ g. tt)
      (λ g. record { port = record { positive = omega (arith, eqb-false index 0 f); below = leb-false words index g }; length = omega arith }))

  swaps : k ≤ 1 → (ready head seen : ℕ) → Moves (reply_g0 c ready words head seen)
  unfolding reply_g0
  swaps h ready head seen =
      by_test Moves (eqb (merged ready seen) 0) (λ f. tt)
      (λ f. choose Moves (eqb head 0) (lowest_found (merged ready seen) (merged_lt ready seen) f, omega arith)
      (takes (omega arith) (merged ready seen) (queue_at (lowest (merged ready seen))) head))

  steps : (n : ℕ) (s : GuestStage) → ServiceInside s words c k → (ready head seen : ℕ) → Moves (guest_staged_at n s c ready words head seen)
  unfolding reply_g2 reply_g3 reply_g4
  steps n None i ready head seen = tt
  steps n G0 i ready head seen = swaps i ready head seen
  steps n G1 i ready head seen = takes i.1 ready c.queue seen
  steps n G2 i ready head seen = let t : Looks words c.port.0 (k + 1) 4 = record { port = i.port; length = omega arith } in choose Moves (eqb (link n seen) 0) t t
  steps n G3 i ready head seen =
      choose Moves (not (has Pending seen)) tt (choose Moves (has Masked seen) tt (record { port = i.port; length = omega arith }))
  steps n G4 i ready head seen = choose Moves (has Pending seen) tt tt

-- ---- and of a clear_mask

module _ (words : ℕ) (c : ClearCall) (j : ℕ) where
  abbrev ClearMoves : ClearMove → Type 0
  ClearMoves m = ClearInside m.call.stage words m.call (j + 1)

  clear_steps : (s : ClearStage) → ClearInside s words c j → (seen : ℕ) → ClearMoves (clear_staged_at s c seen)
  unfolding reply_read reply_cas
  clear_steps clear_stage.None i seen = tt
  clear_steps clear_stage.Read i seen =
      choose ClearMoves (not (has Masked seen)) tt
      (choose ClearMoves (has Pending seen) tt
      (choose ClearMoves (has Busy seen) tt (record { port = i.port; length = omega arith })))
  clear_steps clear_stage.Cas i seen = choose ClearMoves (cas_taken seen c.word) tt tt

-- ---- what she waits for

due_inside : (n words : ℕ) (c : GuestCall) (k : ℕ) (s : GuestStage) → ServiceInside s words c k → Inside words (place_of (guest_due_at n s c))
unfolding place_of
due_inside n words c k None i = tt
due_inside n words c k G0 i = tt
due_inside n words c k G1 i = i.0
due_inside n words c k G2 i = i.port
due_inside n words c k G3 i = i.port
due_inside n words c k G4 i = i.port

clear_due_inside : (words : ℕ) (c : ClearCall) (j : ℕ) (s : ClearStage) → ClearInside s words c j → is_clearing s ≡ true → Inside words (place_of (clear_due_at s c))
unfolding place_of is_clearing
clear_due_inside words c j clear_stage.None i u = absurd (false≢true u)
clear_due_inside words c j clear_stage.Read i u = i.port
clear_due_inside words c j clear_stage.Cas i u = i.port

-- ---- every act keeps the invariant

wider : (words more : ℕ) → words ≤ more → {p k limit : ℕ} → Looks words p k limit → Looks more p k limit
wider words more h i = record { port = record { positive = i.port.positive; below = omega arith }; length = i.length }

wider_service : (words more : ℕ) (c : GuestCall) (k : ℕ) → words ≤ more → (s : GuestStage) → ServiceInside s words c k → ServiceInside s more c k
wider_service words more c k h None i = tt
wider_service words more c k h G0 i = i
wider_service words more c k h G1 i = i
wider_service words more c k h G2 i = wider words more h i
wider_service words more c k h G3 i = wider words more h i
wider_service words more c k h G4 i = wider words more h i

wider_clear : (words more : ℕ) (c : ClearCall) (j : ℕ) → words ≤ more → (s : ClearStage) → ClearInside s words c j → ClearInside s more c j
wider_clear words more c j h clear_stage.None i = tt
wider_clear words more c j h clear_stage.Read i = wider words more h i
wider_clear words more c j h clear_stage.Cas i = wider words more h i

module _ (words : ℕ) (c : GuestCall) (k : ℕ) where
  at_most : (s : GuestStage) → ServiceInside s words c k → is_serving s ≡ true → k ≤ service_limit
  unfolding is_serving
  at_most None i f = absurd (false≢true f)
  at_most G0 i f = omega arith
  at_most G1 i f = omega arith
  at_most G2 i f = omega arith
  at_most G3 i f = omega arith
  at_most G4 i f = omega arith

  resting : (s : GuestStage) → is_serving s ≡ false → ServiceInside s words c k
  unfolding is_serving
  resting None f = tt
  resting G0 f = absurd (true≢false f)
  resting G1 f = absurd (true≢false f)
  resting G2 f = absurd (true≢false f)
  resting G3 f = absurd (true≢false f)
  resting G4 f = absurd (true≢false f)

module _ (words : ℕ) (c : ClearCall) (j : ℕ) where
  clear_at_most : (s : ClearStage) → ClearInside s words c j → is_clearing s ≡ true → j ≤ clear_limit
  unfolding is_clearing
  clear_at_most clear_stage.None i f = absurd (false≢true f)
  clear_at_most clear_stage.Read i f = omega arith
  clear_at_most clear_stage.Cas i f = omega arith

  clear_resting : (s : ClearStage) → is_clearing s ≡ false → ClearInside s words c j
  unfolding is_clearing
  clear_resting clear_stage.None f = tt
  clear_resting clear_stage.Read f = absurd (true≢false f)
  clear_resting clear_stage.Cas f = absurd (true≢false f)

module _ (n : ℕ) (g : Guest) (k j : ℕ) (i : Invariant g k j) where
  -- after an act on the service, and on the clear_mask
  abbrev Served : Bool → GuestOutcome → Type 0
  Served reply t = Invariant t.guest (named_after reply t.next k) j

  abbrev Cleared : Bool → GuestOutcome → Type 0
  Cleared reply t = Invariant t.guest k (named_after reply t.next j)

  carried_keeps : (m : GuestMove) → ServiceInside m.call.stage g.words m.call (k + 1) → Served true (guest_carried_out n g m)
  unfolding guest_moved guest_next
  carried_keeps m h =
      by_test (λ x. Invariant (guest_moved g m) (named_after true x k) j) (not (is_serving m.call.stage))
      (λ f. record { most = i.most; call = resting g.words m.call k m.call.stage (not-true _ f); most_clear = i.most_clear; clear = i.clear })
      (λ f. record { most = at_most g.words m.call (k + 1) m.call.stage h (not-false _ f); call = h; most_clear = i.most_clear; clear = i.clear })

  service_reply_keeps : (seen : ℕ) → Served true (service_reply n g seen)
  unfolding service_reply guest_staged
  service_reply_keeps seen =
      choose (Served true) (not (is_serving g.call.stage)) i
      (carried_keeps (guest_move n g seen) (steps g.words g.call k n g.call.stage i.call g.ready _ seen))

  clear_reply_keeps : (m : ClearMove) → ClearInside m.call.stage g.words m.call (j + 1) → Cleared true (clear_carried_out g m)
  unfolding clear_next
  clear_reply_keeps m h =
      by_test (λ x. Invariant (clear_carried_out g m).guest k (named_after true x j)) (is_clearing m.call.stage)
      (λ f. record { most = i.most; call = i.call; most_clear = clear_at_most g.words m.call (j + 1) m.call.stage h f; clear = h })
      (λ f. record { most = i.most; call = i.call; most_clear = i.most_clear; clear = clear_resting g.words m.call j m.call.stage f })

  keeps_act : (act : GuestAct) → Invariant (guest_turn_of n g act).guest (run_one (guest_side n) (record { state = g; named = k }) act).named (run_one (clear_side n) (record { state = g; named = j }) act).named
  unfolding service_start clear_mask_start guest_reply clear_staged tell_of guest_next is_serving
  keeps_act Serves =
      choose (Served false) (is_clearing g.clear.stage) i
      (choose (Served false) (is_serving g.call.stage) i (record { most = omega arith; call = omega arith; most_clear = i.most_clear; clear = i.clear }))
  keeps_act (ClearsMask p) =
      choose (Cleared false) (is_clearing g.clear.stage) i
      (by_test (Cleared false) (not (is_port n p.0)) (λ h. i)
      (λ h. by_test (Cleared false) (leb g.words p.0) (λ l. i)
      (λ l. record { most = i.most; call = i.call; most_clear = omega arith; clear = record { port = record { positive = is_port_lem n p.0 (not-false _ h); below = leb-false g.words p.0 l }; length = omega arith } })))
  keeps_act (GuestReplies seen) = go (is_clearing g.clear.stage)
    where
      reply : Bool → GuestOutcome
      reply b = cond b (clear_carried_out g (clear_staged g.clear seen)) (service_reply n g seen)

      go : (b : Bool) → Invariant (reply b).guest (cond (not b) (named_after true (reply b).next k) k) (cond b (named_after true (reply b).next j) j)
      go true = clear_reply_keeps (clear_staged g.clear seen) (clear_steps g.words g.clear j g.clear.stage i.clear seen)
      go false = service_reply_keeps seen
  keeps_act (Tells words) =
      by_test (Served false) (ltb g.words words)
      (λ h. let more : g.words ≤ words = omega (arith, ltb-true g.words words h) in
      record { most = i.most; call = wider_service g.words words g.call k more g.call.stage i.call; most_clear = i.most_clear; clear = wider_clear g.words words g.clear j more g.clear.stage i.clear })
      (λ h. i)

-- ---- the claims

waits_inside : (n : ℕ) (g : Guest) (k j : ℕ) → Invariant g k j → (x : Access) → guest_due_of n g ≡ next.Access x → Inside g.words (place_of x)
unfolding guest_due_of guest_next guest_due clear_due
waits_inside n g k j i x =
    by_test Waits (is_clearing g.clear.stage)
    (λ u e. subst At (same_access e) (clear_due_inside _ g.clear j g.clear.stage i.clear u))
    (λ u. choose Waits (not (is_serving g.call.stage)) (λ e. absurd (no_access e)) (λ e. subst At (same_access e) (due_inside n _ g.call k g.call.stage i.call)))
  where
    At : Access → Type 0
    At y = Inside g.words (place_of y)

    Waits : Next → Type 0
    Waits y = y ≡ next.Access x → At x

-- a reply to a service, or to a clear_mask, that answers ends it
module _ (n : ℕ) (g : Guest) where
  ends_service_lem : (act : GuestAct) (a : Answer) (count : ℕ) → is_services g act ≡ true → is_guest_reply act ≡ true → (guest_turn_of n g act).next ≡ next.Answer a count → is_serving (guest_turn_of n g act).guest.call.stage ≡ false
  unfolding guest_reply service_reply guest_next guest_moved
  ends_service_lem Serves a count o r = absurd (false≢true r)
  ends_service_lem (ClearsMask p) a count o r = absurd (false≢true r)
  ends_service_lem (Tells words) a count o r = absurd (false≢true r)
  ends_service_lem (GuestReplies seen) a count o r =
      by_test Ends (is_clearing g.clear.stage) (λ u. absurd (true≢false (sym u ∙ not-true _ o)))
      (λ u. by_test Ends (not (is_serving g.call.stage)) (λ h e. not-true _ h)
      (λ h. by_test (λ y. y ≡ next.Answer a count → is_serving (guest_move n g seen).call.stage ≡ false) (not (is_serving (guest_move n g seen).call.stage)) (λ f e. not-true _ f) (λ f e. absurd (no_access (sym e)))))
    where
      Ends : GuestOutcome → Type 0
      Ends t = t.next ≡ next.Answer a count → is_serving t.guest.call.stage ≡ false

  ends_clear : (act : GuestAct) (a : Answer) (count : ℕ) → is_clears g act ≡ true → is_guest_reply act ≡ true → (guest_turn_of n g act).next ≡ next.Answer a count → is_clearing (guest_turn_of n g act).guest.clear.stage ≡ false
  unfolding guest_reply clear_next
  ends_clear Serves a count o r = absurd (false≢true r)
  ends_clear (ClearsMask p) a count o r = absurd (false≢true r)
  ends_clear (Tells words) a count o r = absurd (false≢true r)
  ends_clear (GuestReplies seen) a count o r =
      by_test (λ (t : GuestOutcome). t.next ≡ next.Answer a count → is_clearing t.guest.clear.stage ≡ false) (is_clearing g.clear.stage)
      (λ u. by_test (λ y. y ≡ next.Answer a count → is_clearing m.call.stage ≡ false) (is_clearing m.call.stage) (λ f e. absurd (no_access (sym e))) (λ f e. f))
      (λ u. absurd (true≢false (sym o ∙ u)))
    where
      m : ClearMove
      m = clear_staged g.clear seen

starts : Invariant fresh_guest 0 0
starts = record { most = omega arith; call = tt; most_clear = omega arith; clear = tt }

pub services_bounded : ServicesBounded
unfolding is_serving
services_bounded n =
    bounded (guest_side n) (λ s. (j : ℕ) × Invariant s.state s.named j) (λ g. g.words) service_limit
    (record {
      starts = (0, starts);
      keeps = λ s i act. (_, keeps_act n s.state s.named i.0 i.1 act);
      length = λ s i. i.1.most;
      due = λ s i. waits_inside n s.state s.named i.0 i.1;
      ends = λ g act a count o r e f. ends_service_lem n g act a count o r e;
      free = refl;
    })
    (guest_names_due n) (counts_services n)

pub clears_bounded : ClearsBounded
unfolding is_clearing
clears_bounded n =
    bounded (clear_side n) (λ s. (k : ℕ) × Invariant s.state k s.named) (λ g. g.words) clear_limit
    (record {
      starts = (0, starts);
      keeps = λ s i act. (_, keeps_act n s.state i.0 s.named i.1 act);
      length = λ s i. i.1.most_clear;
      due = λ s i. waits_inside n s.state i.0 s.named i.1;
      ends = λ g act a count o r e f. ends_clear n g act a count o r e;
      free = refl;
    })
    (guest_names_due n) (counts_clears n)

-- an act that leaves her number of words
abbrev Same : Guest → List GuestAct → GuestOutcome → Type 0
Same g acts t = words_told t.guest.words acts ≡ words_told g.words acts

words_told_lem : (n : ℕ) (g : Guest) (act : GuestAct) (acts : List GuestAct) → words_told (guest_turn_of n g act).guest.words acts ≡ words_told g.words (act ∷ acts)
unfolding service_start clear_mask_start guest_reply service_reply guest_moved tell_of
words_told_lem n g Serves acts = choose (Same g acts) (is_clearing g.clear.stage) refl (choose (Same g acts) (is_serving g.call.stage) refl refl)
words_told_lem n g (ClearsMask p) acts =
    choose (Same g acts) (is_clearing g.clear.stage) refl (choose (Same g acts) (not (is_port n p.0)) refl (choose (Same g acts) (leb g.words p.0) refl refl))
words_told_lem n g (GuestReplies seen) acts = choose (Same g acts) (is_clearing g.clear.stage) refl (choose (Same g acts) (not (is_serving g.call.stage)) refl refl)
words_told_lem n g (Tells words) acts = ap (λ (k : ℕ). words_told k acts) (by_test (λ (t : GuestOutcome). t.guest.words ≡ max g.words words) (ltb g.words words) (λ h. omega (arith, ltb-true g.words words h)) (λ h. omega (arith, ltb-false g.words words h)))

told : (n : ℕ) (side : Side Guest GuestAct) → ((g : Guest) (act : GuestAct) → side.after g act ≡ (guest_turn_of n g act).guest) → (s : Counting Guest) (acts : List GuestAct) → (run side s acts).state.words ≡ words_told s.state.words acts
told n side same s [] = refl
told n side same s (act ∷ acts) = told n side same (run_one side s act) acts ∙ rw (same s.state act) (words_told_lem n s.state act acts)

pub words_are_told : WordsAreTold
words_are_told n s acts = (told n (guest_side n) (λ g act. refl) s acts, told n (clear_side n) (λ g act. refl) s acts)

pub masks_inside : MasksInside
unfolding mask_of place_of
masks_inside n p words =
    by_test (MaskInside words) (not (is_port n p.0)) (λ h. tt)
    (λ h. by_test (MaskInside words) (leb words p.0) (λ l. tt)
    (λ l. record { positive = is_port_lem n p.0 (not-false _ h); below = leb-false words p.0 l }))
