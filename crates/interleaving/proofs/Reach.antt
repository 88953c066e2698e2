-- Every access lies inside: the hypervisor's by demand 1, the guest's because her words are the array's where she makes one.
-- Assumes nothing.
use Rattle.std.specs.Prelude.{Result, Ok, Err}
use Prim.Native.Nat.{ℕ, ◌*◌}
use mathlib.Core.Path.{◌≡◌, refl, ap, subst, ◌∙◌}
use mathlib.Core.List.{List, [], ◌∷◌, ◌++◌}
use native.Mathlib.Omega.{arith}
use Rattle.calls.specs.declared.types.Next.{Next}
use Rattle.calls.specs.declared.types.Next.TheVariants as next
use Rattle.calls.specs.declared.types.Made.{Made}
use Rattle.calls.specs.declared.types.Refused.{Refused}
use Rattle.calls.specs.declared.types.Domain.{Domain}
use Rattle.calls.specs.declared.types.Guest.{Guest}
use Rattle.calls.specs.Records.{is_clearing, fresh_domain, fresh_guest}
use Rattle.calls.specs.Hypervisor.{reply_of, due_of}
use Rattle.calls.specs.Guest.{service_start, mask_of, tell_of}
use Rattle.calls.specs.ClearMask.{clear_mask_start, guest_reply, guest_due_of}
use Rattle.calls.specs.Claims.{Act, GuestAct, Side, hypervisor_side, guest_side, Counting, run_one, run}
use Rattle.machine.specs.Memory.{place_of, performed}
use Rattle.machine.specs.Exec.{World, Advanced, world_after, step_of, hypervisor_answer, guest_answer, list_of, start_of, hypervisor_step, guest_step, perform_hypervisor_next, perform_hypervisor, guest_access, perform_guest_next, perform_guest, perform_masking, perform_mask, guest_start_of, perform_side, hand_back, advance_of, exec, exec_all}
use Rattle.machine.specs.declared.types.Side.TheVariants as side
use Rattle.machine.specs.declared.types.GuestStart.TheVariants.{Service, Mask, ClearMask, Tell}
use Rattle.machine.specs.declared.types.Step.{Step}
use Rattle.machine.specs.declared.types.Step.TheVariants as step
use Rattle.machine.specs.declared.types.Event.TheVariants.{GuestAccess, ClearAccess}
use Rattle.machine.proofs.StepActs.{Acted, by_hypervisor, by_guest, by_mask, acted}
use Rattle.queue.proofs.Cases.{by_cond}
use Rattle.claims.specs.Reach.{Inside, MaskInside}
use Rattle.claims.proofs.HypervisorReach.{calls_bounded}
use Rattle.claims.proofs.GuestReach.{services_bounded, masks_inside}
use Rattle.interleaving.specs.Fresh.{fresh_world, array_words}
use Rattle.interleaving.specs.Rules.{Told, Allowed, KeepsRules}
use Rattle.interleaving.specs.Reach.{EventsInside, AccessesInside, OutsideRefused}

-- ---- both records are reached by acts from fresh ones

abbrev from : {Record : Type 0} → Record → Counting Record
from r = record { state = r; named = 0 }

run_more : {Record Request : Type 0} (side : Side Record Request) (s : Counting Record) (acts : List Request) (act : Request) → run side s (acts ++ act ∷ []) ≡ run_one side (run side s acts) act
run_more side s [] act = refl
run_more side s (a ∷ acts) act = run_more side (run_one side s a) acts act

record Reached (n : ℕ) (d : Domain) (g : Guest) : Type 0 where
  acts : List Act
  guest_acts : List GuestAct
  domain : (run (hypervisor_side n) (from fresh_domain) acts).state ≡ d
  guest : (run (guest_side n) (from fresh_guest) guest_acts).state ≡ g

module _ (n : ℕ) (w : World) (r : Reached n w.domain w.guest) where
  reached_acted : {s : Step} {a : Advanced} → Acted n w s a → Reached n (world_after a).domain (world_after a).guest
  reached_acted (by_hypervisor act access m same reply h none made) = record {
    acts = r.acts ++ act ∷ [];
    guest_acts = r.guest_acts;
    domain = ap (λ (s : Counting Domain). s.state) (run_more (hypervisor_side n) (from fresh_domain) r.acts act) ∙ ap (λ (d : Domain). (hypervisor_side n).after d act) r.domain;
    guest = r.guest;
  }
  reached_acted (by_guest act access reply h none) = record {
    acts = r.acts;
    guest_acts = r.guest_acts ++ act ∷ [];
    domain = r.domain;
    guest = ap (λ (s : Counting Guest). s.state) (run_more (guest_side n) (from fresh_guest) r.guest_acts act) ∙ ap (λ (g : Guest). (guest_side n).after g act) r.guest;
  }
  reached_acted (by_mask access other reply h none) = r

reached : (n : ℕ) (w : World) → Reached n w.domain w.guest → (steps : List Step) → Reached n (exec_all n w steps).world.domain (exec_all n w steps).world.guest
unfolding exec_all
reached n w r [] = r
reached n w r (s ∷ ss) = reached n (exec n w s).world (reached_acted n w r (acted n w s)) ss

-- ---- the accesses of a step

answer_inside : (words : ℕ) (x : Next) → EventsInside words (list_of (hypervisor_answer x))
answer_inside words (next.Access a) = tt
answer_inside words (next.Answer a count) = (tt, tt)

guest_answer_inside : (words : ℕ) (x : Next) → EventsInside words (list_of (guest_answer x))
guest_answer_inside words (next.Access a) = tt
guest_answer_inside words (next.Answer a count) = (tt, tt)

module _ (n : ℕ) (w : World) (r : Reached n w.domain w.guest) where
  replies : (seen : ℕ) → EventsInside (array_words w) (list_of (hypervisor_answer (reply_of n w.domain w.ledger seen).outcome.next))
  replies seen = answer_inside (array_words w) (reply_of n w.domain w.ledger seen).outcome.next

  guest_replies : (seen : ℕ) → EventsInside (array_words w) (list_of (guest_answer (guest_reply n w.guest seen).next))
  guest_replies seen = guest_answer_inside (array_words w) (guest_reply n w.guest seen).next

  hypervisor_inside : (x : Next) → due_of n w.domain ≡ x → EventsInside (array_words w) (step_of (hypervisor_step w (perform_hypervisor_next n w.domain w.ledger w.memory x))).events
  hypervisor_inside (next.Access a) e =
      (subst (λ (d : Domain). Inside (1024 * d.pages) (place_of a)) r.domain ((calls_bounded n r.acts).due a (ap (due_of n) r.domain ∙ e)), replies (performed w.memory a).seen)
  hypervisor_inside (next.Answer a count) e = replies 0

  guest_inside : Told w → (x : Next) → guest_due_of n w.guest ≡ x → EventsInside (array_words w) (step_of (guest_step w (perform_guest_next n w.guest w.memory x))).events
  unfolding guest_access
  guest_inside told (next.Access a) e =
      by_cond (λ x. EventsInside (array_words w) (list_of x ++ list_of (guest_answer (guest_reply n w.guest seen).next))) (is_clearing w.guest.clear.stage) (ClearAccess w.guest.clear a seen) (GuestAccess w.guest.call a seen)
      (λ d. (inside, guest_replies seen)) (λ d. (inside, guest_replies seen))
    where
      seen : ℕ
      seen = (performed w.memory a).seen

      inside : Inside (array_words w) (place_of a)
      inside = subst (λ (words : ℕ). Inside words (place_of a)) (ap (λ (g : Guest). g.words) r.guest ∙ told) ((services_bounded n r.guest_acts).due a (ap (guest_due_of n) r.guest ∙ e))
  guest_inside told (next.Answer a count) e = guest_replies 0

  mask_inside : Told w → (x : Result Made Refused) → MaskInside w.guest.words x → EventsInside (array_words w) (step_of (guest_step w (perform_masking w.guest w.memory x))).events
  mask_inside told (Err r) h = (tt, tt)
  mask_inside told (Ok y) h = (subst (λ (words : ℕ). Inside words (place_of y.access)) told h, (tt, tt))

  step_inside : (s : Step) → Allowed w s → EventsInside (array_words w) (exec n w s).events
  unfolding advance_of guest_start_of perform_mask perform_side perform_hypervisor perform_guest hand_back
  step_inside (step.Hypervisor s) a = answer_inside (array_words w) (start_of n w.domain w.ledger w.memory.words s).outcome.next
  step_inside (step.Guest Service) a = guest_answer_inside (array_words w) (service_start n w.guest).next
  step_inside (step.Guest (Mask p)) a = mask_inside a (mask_of n p w.guest.words) (masks_inside n p w.guest.words)
  step_inside (step.Guest (ClearMask p)) a = guest_answer_inside (array_words w) (clear_mask_start n w.guest p).next
  step_inside (step.Guest (Tell words)) a = guest_answer_inside (array_words w) (tell_of w.guest words).next
  step_inside (step.Perform side.Hypervisor) a = hypervisor_inside (due_of n w.domain) refl
  step_inside (step.Perform side.Guest) a = guest_inside a (guest_due_of n w.guest) refl
  step_inside (step.HandBack side.Hypervisor word) a = replies word
  step_inside (step.HandBack side.Guest word) a = guest_replies word

last_allowed : (n : ℕ) (w : World) (steps : List Step) (s : Step) → KeepsRules n w (steps ++ s ∷ []) → Allowed (exec_all n w steps).world s
unfolding exec_all
last_allowed n w [] s rules = rules.0
last_allowed n w (t ∷ steps) s rules = last_allowed n (exec n w t).world steps s rules.1

pub accesses_inside : (n : ℕ) → AccessesInside n
accesses_inside n lent entries steps s rules =
    let fresh = fresh_world lent entries in
    step_inside n _ (reached n fresh (record { acts = []; guest_acts = []; domain = refl; guest = refl }) steps) s (last_allowed n fresh steps s rules)

pub outside_refused : OutsideRefused
unfolding place_of
outside_refused = record {
  hypervisor = λ c h. omega (arith, h.below);
  guest = λ c h. omega (arith, h.below);
  clear = λ c h. omega (arith, h.below);
  mask = λ h. omega (arith, h.below);
  port_zero = λ h. omega (arith, h.positive);
  head = λ c h. omega (arith, h);
}
