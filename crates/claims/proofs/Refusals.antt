-- Refused steps keep the records, the ledger and, but for the access made, the memory.
-- Assumes nothing.
use Prim.Native.Nat.{ℕ}
use mathlib.Core.Path.{◌≡◌, refl, sym, ap, subst, ◌∙◌}
use mathlib.Core.Bool.{true, false, true≢false, false≢true}
use mathlib.Core.List.{List, ◌++◌}
use mathlib.Core.Logic.{◌≢◌}
use native.Mathlib.Omega.{arith}
use lib.ListN.{length}
use Rattle.calls.specs.declared.types.Answer.{Answer}
use Rattle.calls.specs.declared.types.Answer.TheVariants.{StillLinked, NoEntry, BadIndex}
use Rattle.calls.specs.declared.types.Next.{Next}
use Rattle.calls.specs.declared.types.Next.TheVariants as next
use Rattle.calls.specs.declared.types.Domain.{Domain}
use Rattle.calls.specs.declared.types.GuestOutcome.{GuestOutcome}
use Rattle.calls.specs.declared.types.Guest.{Guest}
use Rattle.calls.specs.declared.types.Owner.TheVariants as owner
use Rattle.calls.specs.Records.{is_free, is_clearing, idle_call, with_call}
use Rattle.calls.specs.Guest.{is_serving}
use Rattle.calls.specs.Hypervisor.{Turn, turn}
use Rattle.calls.specs.Claims.{Act, GuestAct, turn_of, guest_turn_of, lent, is_reply, is_guest_reply, is_refusal, ServedQueueCleared}
use Rattle.calls.proofs.Cases.{same_answer}
use Rattle.calls.proofs.HypervisorTurns.{Refusal, at_start, sixteen, fourteen}
use Rattle.calls.proofs.HypervisorClaims.{refusals_keep, why_refused, still_linked_ends}
use Rattle.calls.proofs.GuestClaims as guest
use Rattle.calls.proofs.GuestClaims.{guest_refusals_keep, guest_why_refused, bad_index_ends}
use Rattle.machine.specs.declared.types.Side.{Side}
use Rattle.machine.specs.declared.types.Side.TheVariants as side
use Rattle.machine.specs.declared.types.Step.{Step}
use Rattle.machine.specs.declared.types.Event.{Event}
use Rattle.machine.specs.declared.types.Event.TheVariants.{Nothing, HypervisorAccess, GuestAccess, ClearAccess, MaskAccess, HypervisorAnswer, GuestAnswer}
use Rattle.machine.specs.Memory.{Memory}
use Rattle.machine.specs.Exec.{World, Advanced, world, step_of, list_of, hypervisor_answer, guest_answer, is_answer, is_reply_step, memory_after}
use Rattle.machine.proofs.StepActs.{Acted, by_hypervisor, by_guest, by_mask, acted}
use Rattle.claims.specs.Refusals.{Gives, hypervisor_gives, guest_gives, later, ending, world_with, RefusedStepsKeep, RefusedStepsChangeNothing, StillLinkedSteps, BadIndexSteps}

-- ---- the answer of a step

-- an access is no answer
after_access_lem : {by : Side} {a : Answer} (access : Event) (es : List Event) → is_answer access ≡ false → Gives by a (list_of access ++ es) → Gives by a es
after_access_lem Nothing es h g = g
after_access_lem (HypervisorAccess c x seen) es h (later g) = g
after_access_lem (GuestAccess c x seen) es h (later g) = g
after_access_lem (ClearAccess c x seen) es h (later g) = g
after_access_lem (MaskAccess x seen) es h (later g) = g
after_access_lem (HypervisorAnswer x count) es h g = absurd (true≢false h)
after_access_lem (GuestAnswer x count) es h g = absurd (true≢false h)

pub record Answered (own by : Side) (a : Answer) (x : Next) : Type 0 where
  pub side : by ≡ own
  pub count : ℕ
  pub same : x ≡ next.Answer a count

pub hypervisor_given : {by : Side} {a : Answer} (access : Event) (x : Next) → is_answer access ≡ false → Gives by a (list_of access ++ list_of (hypervisor_answer x)) → Answered side.Hypervisor by a x
hypervisor_given access x h g = go x (after_access_lem access _ h g)
  where
    go : {by : Side} {a : Answer} (x : Next) → Gives by a (list_of (hypervisor_answer x)) → Answered side.Hypervisor by a x
    go (next.Access _) g = elim g [ ]
    go (next.Answer b count) (later g) = elim g [ ]
    go (next.Answer b count) hypervisor_gives = record { side = refl; count = count; same = refl }

pub guest_given : {by : Side} {a : Answer} (access : Event) (x : Next) → is_answer access ≡ false → Gives by a (list_of access ++ list_of (guest_answer x)) → Answered side.Guest by a x
guest_given access x h g = go x (after_access_lem access _ h g)
  where
    go : {by : Side} {a : Answer} (x : Next) → Gives by a (list_of (guest_answer x)) → Answered side.Guest by a x
    go (next.Access _) g = elim g [ ]
    go (next.Answer b count) (later g) = elim g [ ]
    go (next.Answer b count) guest_gives = record { side = refl; count = count; same = refl }

guest_only : side.Hypervisor ≡ side.Guest → ⊥
guest_only e = let z : ◌≡◌ {A = ℕ} 0 1 = cc in omega arith

-- ---- the memory after a step

hypervisor_answer_keeps : (x : Next) (m : Memory) → memory_after m (list_of (hypervisor_answer x)) ≡ m
hypervisor_answer_keeps (next.Access a) m = refl
hypervisor_answer_keeps (next.Answer a count) m = refl

guest_answer_keeps : (x : Next) (m : Memory) → memory_after m (list_of (guest_answer x)) ≡ m
guest_answer_keeps (next.Access a) m = refl
guest_answer_keeps (next.Answer a count) m = refl

access_alone : (m : Memory) (access : Event) (es : List Event) → ((m : Memory) → memory_after m es ≡ m) → memory_after m (list_of access) ≡ memory_after m (list_of access ++ es)
access_alone m Nothing es h = sym (h _)
access_alone m (HypervisorAccess c x seen) es h = sym (h _)
access_alone m (GuestAccess c x seen) es h = sym (h _)
access_alone m (ClearAccess c x seen) es h = sym (h _)
access_alone m (MaskAccess x seen) es h = sym (h _)
access_alone m (HypervisorAnswer x count) es h = sym (h _)
access_alone m (GuestAnswer x count) es h = sym (h _)

hypervisor_memory : (m : Memory) (access : Event) (x : Next) → memory_after m (list_of access) ≡ memory_after m (list_of access ++ list_of (hypervisor_answer x))
hypervisor_memory m access x = access_alone m access _ (hypervisor_answer_keeps x)

guest_memory : (m : Memory) (access : Event) (x : Next) → memory_after m (list_of access) ≡ memory_after m (list_of access ++ list_of (guest_answer x))
guest_memory m access x = access_alone m access _ (guest_answer_keeps x)

-- ---- a reply's refusals

only_16 : {d : Domain} {act : Act} {a : Answer} → Refusal d act a → is_reply act ≡ true → a ≢ NoEntry → is_free d.call.owner ≡ true
only_16 (at_start h) r f = absurd (false≢true r)
only_16 (sixteen free) r f = free
only_16 (fourteen busy l) r f = absurd (f refl)

guest_only_16 : {g : Guest} {act : GuestAct} {a : Answer} → guest.Refusal g act a → is_guest_reply act ≡ true → (is_clearing g.clear.stage ≡ false) × (is_serving g.call.stage ≡ false)
guest_only_16 guest.fifteen r = absurd (false≢true r)
guest_only_16 guest.clear_fifteen r = absurd (false≢true r)
guest_only_16 guest.clear_three r = absurd (false≢true r)
guest_only_16 guest.clear_six r = absurd (false≢true r)
guest_only_16 (guest.sixteen none free) r = (none, free)

-- ---- the claims, by what the step did

module _ (n : ℕ) (w : World) where
  -- a turn that comes to the record d, with as many pages, and leaves the ledger
  hypervisor_keeps : (act : Act) (access : Event) (m : Memory) (d : Domain) (x : Next) → lent act ≡ w.ledger →
      ((turn_of n w.domain act).outcome.domain.pages ≡ w.domain.pages → m ≡ memory_after w.memory (list_of access)) → d.pages ≡ w.domain.pages →
      turn_of n w.domain act ≡ turn (record { domain = d; next = x }) (lent act) →
      world (record { domain = (turn_of n w.domain act).outcome.domain; guest = w.guest }) (turn_of n w.domain act).ledger m
      ≡ world_with w d w.guest (list_of access ++ list_of (hypervisor_answer (turn_of n w.domain act).outcome.next))
  hypervisor_keeps act access m d x same made pages e =
      let memories = made (ap (λ (t : Turn). t.outcome.domain.pages) e ∙ pages) ∙ hypervisor_memory w.memory access (turn_of n w.domain act).outcome.next in
      let domains = ap (λ (t : Turn). t.outcome.domain) e in
      let ledgers = ap (λ (t : Turn). t.ledger) e ∙ same in
      cc

  -- an act of hers that comes to the record g
  guest_keeps : (o : GuestOutcome) (access : Event) (g : Guest) → o.guest ≡ g →
      world (record { domain = w.domain; guest = o.guest }) w.ledger (memory_after w.memory (list_of access)) ≡ world_with w w.domain g (list_of access ++ list_of (guest_answer o.next))
  guest_keeps o access g e = cc (guest_memory w.memory access o.next)

  refused : {s : Step} {t : Advanced} → Acted n w s t → (by : Side) (a : Answer) → Gives by a (step_of t).events → is_refusal a ≡ true → a ≢ ending by →
      (step_of t).world ≡ world_with w w.domain w.guest (step_of t).events
  refused (by_hypervisor act access m same reply h none made) by a g r other =
      let f = hypervisor_given access (turn_of n w.domain act).outcome.next h g in
      hypervisor_keeps act access m w.domain _ same made refl (refusals_keep n w.domain act a f.count f.same r (subst (λ (b : Side). a ≢ ending b) f.side other))
  refused (by_guest act access reply h none) by a g r other =
      let f = guest_given access (guest_turn_of n w.guest act).next h g in
      guest_keeps (guest_turn_of n w.guest act) access w.guest
      (ap (λ (o : GuestOutcome). o.guest) (guest_refusals_keep n w.guest act a f.count f.same r (subst (λ (b : Side). a ≢ ending b) f.side other)))
  refused (by_mask {a = b} {count = count} access other reply h none) by a g r kept = guest_keeps (record { guest = w.guest; next = next.Answer b count }) access w.guest refl

  -- ---- no access is made

  no_access_made : {s : Step} {t : Advanced} → Acted n w s t → (by : Side) (a : Answer) → Gives by a (step_of t).events → is_refusal a ≡ true → a ≢ ending by → (is_reply_step s ≡ true → a ≢ NoEntry) →
      t.advance.access ≡ Nothing
  no_access_made (by_hypervisor act access m same reply h none made) by a g r other entry =
      let f = hypervisor_given access (turn_of n w.domain act).outcome.next h g in
      none (λ p. only_16 (why_refused n w.domain act a f.count f.same r (subst (λ (b : Side). a ≢ ending b) f.side other)) p (entry (sym reply ∙ p)))
  no_access_made (by_guest act access reply h none) by a g r other entry =
      let f = guest_given access (guest_turn_of n w.guest act).next h g in
      none (guest_only_16 (guest_why_refused n w.guest act a f.count f.same r (subst (λ (b : Side). a ≢ ending b) f.side other)))
  no_access_made (by_mask {a = b} {count = count} access other reply h none) by a g r kept entry =
      none (ap is_refusal (same_answer (guest_given access (next.Answer b count) h g).same) ∙ r)

  memory_same : {s : Step} {t : Advanced} → Acted n w s t → t.advance.access ≡ Nothing → memory_after w.memory (step_of t).events ≡ w.memory
  memory_same (by_hypervisor act access m same reply h none made) e = rw e (hypervisor_answer_keeps (turn_of n w.domain act).outcome.next w.memory)
  memory_same (by_guest act access reply h none) e = rw e (guest_answer_keeps (guest_turn_of n w.guest act).next w.memory)
  memory_same (by_mask access other reply h none) e = rw e

  unchanged : {s : Step} {t : Advanced} → Acted n w s t → (by : Side) (a : Answer) → Gives by a (step_of t).events → is_refusal a ≡ true → a ≢ ending by → (is_reply_step s ≡ true → a ≢ NoEntry) →
      (step_of t).world ≡ w
  unchanged acted by a g r other entry =
      refused acted by a g r other ∙ ap (λ (m : Memory). record { domain = w.domain; ledger = w.ledger; guest = w.guest; memory = m }) (memory_same acted (no_access_made acted by a g r other entry))

  -- ---- 7 and 18

  still_linked : {s : Step} {t : Advanced} → Acted n w s t → length w.domain.tails ≡ 16 → Gives side.Hypervisor StillLinked (step_of t).events →
      (w.domain.call.owner ≡ owner.Bind) × ((step_of t).world ≡ world_with w (with_call w.domain idle_call) w.guest (step_of t).events)
  still_linked (by_hypervisor act access m same reply h none made) size g =
      let f = hypervisor_given access (turn_of n w.domain act).outcome.next h g in
      let e = still_linked_ends n w.domain act f.count size f.same in
      (e.0, hypervisor_keeps act access m (with_call w.domain idle_call) _ same made refl e.1)
  still_linked (by_guest act access reply h none) size g = absurd (guest_only (guest_given access (guest_turn_of n w.guest act).next h g).side)
  still_linked (by_mask {a = a} {count = count} access other reply h none) size g = absurd (guest_only (guest_given access (next.Answer a count) h g).side)

  bad_index_lem : {s : Step} {t : Advanced} → Acted n w s t → Gives side.Guest BadIndex (step_of t).events →
      (seen : ℕ) × ServedQueueCleared w.guest seen (step_of t).world.guest × ((step_of t).world ≡ world_with w w.domain (step_of t).world.guest (step_of t).events)
  bad_index_lem (by_hypervisor act access m same reply h none made) g = absurd (guest_only (sym (hypervisor_given access (turn_of n w.domain act).outcome.next h g).side))
  bad_index_lem (by_guest act access reply h none) g =
      let f = guest_given access (guest_turn_of n w.guest act).next h g in
      let e = bad_index_ends n w.guest act f.count f.same in
      (e.0, e.2, guest_keeps (guest_turn_of n w.guest act) access _ refl)
  bad_index_lem (by_mask {a = a} {count = count} access other reply h none) g = absurd (other (same_answer (guest_given access (next.Answer a count) h g).same))

pub refused_steps_keep : RefusedStepsKeep
refused_steps_keep n w s = refused n w (acted n w s)

pub refused_steps_change_nothing : RefusedStepsChangeNothing
refused_steps_change_nothing n w s = unchanged n w (acted n w s)

pub still_linked_steps : StillLinkedSteps
still_linked_steps n w s = still_linked n w (acted n w s)

pub bad_index_steps : BadIndexSteps
bad_index_steps n w s = bad_index_lem n w (acted n w s)
