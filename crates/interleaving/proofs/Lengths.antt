-- The accesses of a call of the hypervisor's, which its counts bound, and of a service, which its stage bounds.
-- Assumes nothing.
use Rattle.std.specs.Prelude.{Result, Ok, Err}
use mathlib.Core.Path.{◌≡◌, refl}
use mathlib.Core.Bool.{Bool, true, false, not}
use mathlib.Core.List.{List, [], ◌∷◌, ◌++◌}
use Prim.Native.Nat.{ℕ, suc, ◌≤◌}
use native.Mathlib.Omega.{arith}
use lib.Dec.{eqb, leb, ltb, lit≤}
use Rattle.word.specs.declared.Flag.TheVariants.{Pending, Masked}
use Rattle.word.specs.declared.Port.{Port}
use Rattle.word.specs.declared.Queue.{Queue}
use Rattle.word.specs.Word.{Width, link_bits, link_bits-width, has, link}
use Rattle.word.specs.Ready.{merged}
use Rattle.calls.specs.declared.types.Access.{Access}
use Rattle.calls.specs.declared.types.Next.{Next}
use Rattle.calls.specs.declared.types.Next.TheVariants as next
use Rattle.calls.specs.declared.types.Made.{Made as Masks}
use Rattle.calls.specs.declared.types.Refused.{Refused}
use Rattle.calls.specs.declared.types.Answer.TheVariants.{NoCall}
use Rattle.calls.specs.declared.types.GuestStage.{GuestStage}
use Rattle.calls.specs.declared.types.GuestStage.TheVariants as guest_stage
use Rattle.calls.specs.declared.types.GuestCall.{GuestCall}
use Rattle.calls.specs.declared.types.GuestOutcome.{GuestOutcome}
use Rattle.calls.specs.declared.guest.GuestMove.{GuestMove}
use Rattle.calls.specs.declared.clear_mask.ClearMove.{ClearMove}
use Rattle.calls.specs.Records.{is_port, is_clearing}
use Rattle.calls.specs.Guest.{is_serving, takes_index, reply_g0, reply_g2, reply_g3, reply_g4, guest_staged_at, guest_staged, guest_moved, guest_next, guest_answered, service_start, mask_of, tell_of}
use Rattle.calls.specs.ClearMask.{clear_next, clear_mask_start}
use Rattle.calls.specs.Hypervisor.{due_of, reply_of}
use Rattle.machine.specs.Memory.{Memory, performed}
use Rattle.machine.specs.Exec.{World, Advanced, Started, world_after, step_of, list_of, hypervisor_answer, guest_answer, hypervisor_step, guest_step, guest_replied, start_step, perform_masking, perform_mask, perform_hypervisor_next, perform_hypervisor, guest_start_of, perform_side, hand_back, start_of, advance_of, exec, exec_all}
use Rattle.machine.specs.declared.types.Side.TheVariants as side
use Rattle.machine.specs.declared.types.GuestStart.TheVariants.{Service, Mask, ClearMask, Tell}
use Rattle.machine.specs.declared.types.Step.{Step}
use Rattle.machine.specs.declared.types.Step.TheVariants as step
use Rattle.machine.specs.declared.types.Event.{Event}
use Rattle.machine.specs.declared.types.Event.TheVariants.{Nothing}
use Rattle.queue.proofs.Cases.{clash, by_cond}
use Rattle.interleaving.specs.Fresh.{fresh_world}
use Rattle.interleaving.specs.Rules.{Allowed, KeepsRules}
use Rattle.interleaving.specs.Lengths.{is_first_of_service, counted, service_accesses, LengthsOfCalls}
use Rattle.interleaving.specs.Counts.{CountsOfEvents}
use Rattle.interleaving.proofs.Served.{served, perform_served}
use Rattle.interleaving.proofs.ClearAccess.{cleared, perform_cleared}
use Rattle.interleaving.proofs.Steps.{reply_none, perform_none}
use Rattle.interleaving.proofs.Counts.{counts_of_events}
use Rattle.interleaving.proofs.FewAccesses.{calls_few, Made, most_of_service, Few}

-- ---- a service

module _ (n : ℕ) (c : GuestCall) (ready words head seen : ℕ) where
  abbrev Moves : ℕ → GuestMove → Type 0
  Moves made mv = Made mv.call.stage made

  takes : (made : ℕ) → made ≤ 2 → (local : ℕ) (q : Queue) (index : ℕ) → Moves made (takes_index c local words q index)
  unfolding takes_index
  takes made h local q index = by_cond (Moves made) (eqb index 0) _ _ (λ e. tt) (λ e. by_cond (Moves made) (leb words index) _ _ (λ d. tt) (λ d. h))

  -- an access of a service that is under way, with its reply
  moves : (made : ℕ) (s : GuestStage) → is_serving s ≡ true → Made s made → Few (counted (is_first_of_service s) made) (guest_staged_at n s c ready words head seen).call.stage
  unfolding is_serving reply_g0 reply_g2 reply_g3 reply_g4
  moves made guest_stage.None e h = clash e refl
  moves made guest_stage.G0 e h = record {
    few = lit≤ tt;
    stage = by_cond (Moves 1) (eqb (merged ready seen) 0) _ _ (λ d. tt) (λ d. by_cond (Moves 1) (eqb head 0) _ _ (λ f. lit≤ tt) (λ f. takes 1 (lit≤ tt) _ _ head));
  }
  moves made guest_stage.G1 e h = record { few = omega arith; stage = takes (suc made) (omega arith) ready c.queue seen }
  moves made guest_stage.G2 e h = record { few = omega arith; stage = by_cond (Moves (suc made)) (eqb (link n seen) 0) _ _ (λ d. omega arith) (λ d. omega arith) }
  moves made guest_stage.G3 e h = record {
    few = omega arith;
    stage = by_cond (Moves (suc made)) (not (has Pending seen)) _ _ (λ d. tt) (λ d. by_cond (Moves (suc made)) (has Masked seen) _ _ (λ f. tt) (λ f. omega arith));
  }
  moves made guest_stage.G4 e h = record { few = omega arith; stage = by_cond (Moves (suc made)) (has Pending seen) _ _ (λ d. tt) (λ d. tt) }

-- what a step makes of it, whatever comes after
record ServiceStep (made : ℕ) (a : Advanced) : Type 0 where
  after : ℕ
  state : Few after (world_after a).guest.call.stage
  counted : (es : List Event) → service_accesses made ((step_of a).events ++ es) ≡ service_accesses after es

-- answers count nothing
answer_quiet : (made : ℕ) (x : Next) (es : List Event) → service_accesses made (list_of (hypervisor_answer x) ++ es) ≡ service_accesses made es
answer_quiet made (next.Access a) es = refl
answer_quiet made (next.Answer a count) es = refl

guest_answer_quiet : (made : ℕ) (x : Next) (es : List Event) → service_accesses made (list_of (guest_answer x) ++ es) ≡ service_accesses made es
guest_answer_quiet made (next.Access a) es = refl
guest_answer_quiet made (next.Answer a count) es = refl

module _ (n : ℕ) {made : ℕ} (w : World) (s : Few made w.guest.call.stage) where
  -- ---- the hypervisor's steps
  start_served : (x : Started) → ServiceStep made (start_step w x)
  start_served x = record { after = made; state = s; counted = answer_quiet made x.outcome.next }

  hypervisor_served : (x : Next) → ServiceStep made (hypervisor_step w (perform_hypervisor_next n w.domain w.ledger w.memory x))
  hypervisor_served (next.Access a) = record { after = made; state = s; counted = answer_quiet made (reply_of n w.domain w.ledger (performed w.memory a).seen).outcome.next }
  hypervisor_served (next.Answer a count) = record { after = made; state = s; counted = answer_quiet made (reply_of n w.domain w.ledger 0).outcome.next }

  -- ---- the guest's
  -- one with no access of a service
  guest_served : (o : GuestOutcome) → Made o.guest.call.stage made → ServiceStep made (guest_step w (guest_replied o Nothing w.memory))
  guest_served o h = record { after = made; state = record { few = s.few; stage = h }; counted = guest_answer_quiet made o.next }

  masking_served : (x : Result Masks Refused) → ServiceStep made (guest_step w (perform_masking w.guest w.memory x))
  masking_served (Err r) = record { after = made; state = s; counted = λ es. refl }
  masking_served (Ok y) = record { after = made; state = s; counted = λ es. refl }

  abbrev Still : GuestOutcome → Type 0
  Still o = Made o.guest.call.stage made

  service_start_lem : Still (service_start n w.guest)
  unfolding service_start
  service_start_lem = by_cond Still (is_clearing w.guest.clear.stage) _ _ (λ e. s.stage) (λ e. by_cond Still (is_serving w.guest.call.stage) _ _ (λ d. s.stage) (λ d. tt))

  clear_start : (p : Port) → Still (clear_mask_start n w.guest p)
  unfolding clear_mask_start
  clear_start p = by_cond Still (is_clearing w.guest.clear.stage) _ _ (λ e. s.stage)
      (λ e. by_cond Still (not (is_port n p.0)) _ _ (λ d. s.stage) (λ d. by_cond Still (leb w.guest.words p.0) _ _ (λ f. s.stage) (λ f. s.stage)))

  tell_start : (words : ℕ) → Still (tell_of w.guest words)
  unfolding tell_of
  tell_start words = by_cond Still (ltb w.guest.words words) _ _ (λ e. s.stage) (λ e. s.stage)

  access_served : (a : Access) (seen : ℕ) (m : Memory) (mv : GuestMove) → Few (counted (is_first_of_service w.guest.call.stage) made) mv.call.stage → ServiceStep made (served n w a seen m mv)
  unfolding guest_moved
  access_served a seen m mv h = record { after = counted (is_first_of_service w.guest.call.stage) made; state = h; counted = guest_answer_quiet _ (guest_next n (guest_moved w.guest mv) mv.answer mv.count) }

  clear_served : (a : Access) (seen : ℕ) (m : Memory) (mv : ClearMove) → ServiceStep made (cleared w a seen m mv)
  clear_served a seen m mv = record { after = made; state = s; counted = guest_answer_quiet made (clear_next mv.call mv.answer mv.count) }

  -- her access is the clear_mask's if one is under way, else the service's
  guest_access_lem : (a b : Bool) → is_clearing w.guest.clear.stage ≡ a → is_serving w.guest.call.stage ≡ b → ServiceStep made (perform_side n w side.Guest)
  unfolding guest_staged
  guest_access_lem true b d e = rw (perform_cleared n w d) (clear_served _ _ _ _)
  guest_access_lem false true d e = rw (perform_served n w d e) (access_served _ _ _ _ (moves n _ _ _ _ _ made w.guest.call.stage e s.stage))
  guest_access_lem false false d e = rw (perform_none n w (record { service = e; clear = d })) (guest_served (guest_answered w.guest NoCall) s.stage)

  step_served : (z : Step) → Allowed w z → ServiceStep made (advance_of n w z)
  unfolding advance_of guest_start_of perform_mask perform_side perform_hypervisor hand_back
  step_served (step.Hypervisor z) a = start_served (start_of n w.domain w.ledger w.memory.words z)
  step_served (step.Guest Service) a = guest_served (service_start n w.guest) service_start_lem
  step_served (step.Guest (Mask p)) a = masking_served (mask_of n p w.guest.words)
  step_served (step.Guest (ClearMask p)) a = guest_served (clear_mask_start n w.guest p) (clear_start p)
  step_served (step.Guest (Tell words)) a = guest_served (tell_of w.guest words) (tell_start words)
  step_served (step.Perform side.Hypervisor) a = hypervisor_served (due_of n w.domain)
  step_served (step.Perform side.Guest) a = guest_access_lem (is_clearing w.guest.clear.stage) (is_serving w.guest.call.stage) refl refl
  step_served (step.HandBack side.Hypervisor word) a = record { after = made; state = s; counted = answer_quiet made (reply_of n w.domain w.ledger word).outcome.next }
  step_served (step.HandBack side.Guest word) a = rw (reply_none n w word a) (guest_served (guest_answered w.guest NoCall) s.stage)

services_few : (n : ℕ) {made : ℕ} (w : World) (ss : List Step) → Few made w.guest.call.stage → KeepsRules n w ss → service_accesses made (exec_all n w ss).events ≤ most_of_service
unfolding exec_all
services_few n w [] s a = s.few
services_few n {made} w (z ∷ ss) s a = let one = step_served n w s z a.0 in rw (one.counted (exec_all n (exec n w z).world ss).events) (services_few n {made = (step_served n w s z a.0).after} (exec n w z).world ss one.state a.1)

-- ---- both

pub lengths_of_calls : {n : ℕ} → Width n → LengthsOfCalls n
unfolding LengthsOfCalls CountsOfEvents
lengths_of_calls {n} wide lent entries steps le rules =
    let tight = calls_few (exec_all n (fresh_world lent entries) steps).events 0 0 (counts_of_events wide lent entries steps le rules) (lit≤ tt) (λ e. absurd (e refl)) in
    record { calls = omega arith; calls_tight = tight; services = services_few n (fresh_world lent entries) steps (record { few = lit≤ tt; stage = tt }) rules }

pub lengths_today : LengthsOfCalls link_bits
lengths_today = lengths_of_calls link_bits-width
