-- Every step of the machine is one act of a side, with the ledger lent to it, or a mask; and its memory is as its access
-- leaves it, but for an expand that adds a page.
-- Assumes nothing.
use Rattle.std.specs.Prelude.{Result, Ok, Err}
use Prim.Native.Nat.{ℕ}
use mathlib.Core.Path.{◌≡◌, refl, sym, ap, ◌∙◌}
use mathlib.Core.Bool.{true, false, not, true≢false}
use mathlib.Core.List.{List}
use mathlib.Core.Logic.{◌≢◌}
use native.Mathlib.Nat.{le_refl}
use borrow.Author.Tests.{le-ltb}
use lib.Dec.{leb}
use Rattle.word.specs.declared.Port.{Port}
use Rattle.calls.specs.declared.types.Answer.{Answer}
use Rattle.calls.specs.declared.types.Answer.TheVariants.{NoCall, BadIndex}
use Rattle.calls.specs.declared.types.Next.{Next}
use Rattle.calls.specs.declared.types.Next.TheVariants as next
use Rattle.calls.specs.declared.types.Made.{Made}
use Rattle.calls.specs.declared.types.Refused.{Refused}
use Rattle.calls.specs.declared.types.Domain.{Domain}
use Rattle.calls.specs.declared.types.Outcome.{Outcome}
use Rattle.calls.specs.Answers.{code_of}
use Rattle.calls.specs.Records.{is_port, is_free, is_clearing}
use Rattle.calls.specs.Guest.{is_serving, mask_of}
use Rattle.calls.specs.ClearMask.{guest_reply, guest_due_of}
use Rattle.calls.specs.Hypervisor.{due_of, expand_array}
use Rattle.calls.specs.Claims as acts
use Rattle.calls.specs.Claims.{Act, Starts, Replies, GuestAct, Serves, ClearsMask, GuestReplies, Tells, turn_of, guest_turn_of, lent, is_reply, is_guest_reply, is_refusal}
use Rattle.calls.proofs.Cases.{choose, no_access, other_answer}
use Rattle.calls.proofs.HypervisorClaims.{next_answer}
use Rattle.calls.proofs.GuestClaims.{guest_due_none}
use Rattle.machine.specs.declared.types.Side.TheVariants as side
use Rattle.machine.specs.declared.types.Start.{Start}
use Rattle.machine.specs.declared.types.Start.TheVariants.{InitControl, ExpandArray, Bind, Close, SetPriority, Raise, Unmask}
use Rattle.machine.specs.declared.types.GuestStart.TheVariants.{Service, Mask, ClearMask, Tell}
use Rattle.machine.specs.declared.types.Step.{Step}
use Rattle.machine.specs.declared.types.Step.TheVariants as step
use Rattle.machine.specs.declared.types.Event.{Event}
use Rattle.machine.specs.declared.types.Event.TheVariants.{Nothing, HypervisorAccess, GuestAccess, ClearAccess, MaskAccess}
use Rattle.machine.specs.Memory.{Memory, memory, performed}
use Rattle.machine.specs.Exec.{World, Advanced, advanced, list_of, hypervisor_advance, guest_advance, is_answer, hypervisor_step, guest_step, page_added, expand_of, start_of, perform_hypervisor_next, perform_hypervisor, guest_access, perform_guest_next, perform_guest, perform_masking, perform_mask, guest_replied, guest_start_of, perform_side, hand_back, advance_of, is_reply_step, memory_after}

-- what a step did: an act with the ledger of w, and the access made before, which is Nothing but at a reply to a call under
-- way; or a mask
pub data Acted (n : ℕ) (w : World) (s : Step) : Advanced → Type 0 where
  by_hypervisor : (act : Act) (access : Event) (m : Memory) → lent act ≡ w.ledger → is_reply act ≡ is_reply_step s → is_answer access ≡ false →
      ((is_reply act ≡ true → is_free w.domain.call.owner ≡ true) → access ≡ Nothing) →
      ((turn_of n w.domain act).outcome.domain.pages ≡ w.domain.pages → m ≡ memory_after w.memory (list_of access)) →
      Acted n w s (advanced (hypervisor_advance (record { outcome = (turn_of n w.domain act).outcome; access = access }) w.guest) (turn_of n w.domain act).ledger m)
  by_guest : (act : GuestAct) (access : Event) → is_guest_reply act ≡ is_reply_step s → is_answer access ≡ false →
      ((is_guest_reply act ≡ true → (is_clearing w.guest.clear.stage ≡ false) × (is_serving w.guest.call.stage ≡ false)) → access ≡ Nothing) →
      Acted n w s (advanced (guest_advance (record { outcome = guest_turn_of n w.guest act; access = access }) w.domain) w.ledger (memory_after w.memory (list_of access)))
  by_mask : {a : Answer} {count : ℕ} (access : Event) → a ≢ BadIndex → is_reply_step s ≡ false → is_answer access ≡ false → (is_refusal a ≡ true → access ≡ Nothing) →
      Acted n w s (advanced (guest_advance (record { outcome = record { guest = w.guest; next = next.Answer a count }; access = access }) w.domain) w.ledger (memory_after w.memory (list_of access)))

no_page : (d : Domain) (o : Outcome) (ws : List ℕ) → o.domain.pages ≡ d.pages → page_added d o ws ≡ ws
no_page d o ws e = rw (e, le-ltb d.pages d.pages (le_refl d.pages))

abbrev Masks : Result Made Refused → Type 0
Masks (Err r) = r.answer ≢ BadIndex
Masks (Ok x) = (x.answer ≢ BadIndex) × (is_refusal x.answer ≡ false)

masks : (n : ℕ) (p : Port) (words : ℕ) → Masks (mask_of n p words)
unfolding mask_of code_of
masks n p words =
    choose Masks (not (is_port n p.0)) (other_answer refl refl refl)
    (choose Masks (leb words p.0) (other_answer refl refl refl) (other_answer refl refl refl, refl))

module _ (n : ℕ) (w : World) where
  expand_acted : (frame frames : ℕ) → Acted n w (step.Hypervisor (ExpandArray frame frames)) (advance_of n w (step.Hypervisor (ExpandArray frame frames)))
  unfolding advance_of start_of expand_of
  expand_acted frame frames =
      by_hypervisor (Starts (acts.ExpandArray frame frames) w.ledger) Nothing _ refl refl refl (λ q. refl)
      (λ e. ap (λ (ws : List ℕ). memory ws w.memory.block) (no_page w.domain (expand_array n w.domain frame frames) w.memory.words e))

  started : {s : Step} (start : acts.Start) → is_reply_step s ≡ false →
      Acted n w s (advanced (hypervisor_advance (record { outcome = (turn_of n w.domain (Starts start w.ledger)).outcome; access = Nothing }) w.guest) (turn_of n w.domain (Starts start w.ledger)).ledger w.memory)
  started start h = by_hypervisor (Starts start w.ledger) Nothing _ refl (sym h) refl (λ q. refl) (λ e. refl)

  start_acted : (s : Start) → Acted n w (step.Hypervisor s) (advance_of n w (step.Hypervisor s))
  unfolding advance_of start_of
  start_acted (InitControl vcpu frame frames offset) = started (acts.InitControl vcpu frame frames offset) refl
  start_acted (ExpandArray frame frames) = expand_acted frame frames
  start_acted (Bind p) = started (acts.Bind p) refl
  start_acted (Close p) = started (acts.Close p) refl
  start_acted (SetPriority p r) = started (acts.SetPriority p r) refl
  start_acted (Raise p) = started (acts.Raise p) refl
  start_acted (Unmask p) = started (acts.Unmask p) refl

  mask_acted : (p : Port) (x : Result Made Refused) → Masks x → Acted n w (step.Guest (Mask p)) (guest_step w (perform_masking w.guest w.memory x))
  mask_acted p (Err r) h = by_mask Nothing h refl refl (λ f. refl)
  mask_acted p (Ok x) h = by_mask (MaskAccess x.access (performed w.memory x.access).seen) h.0 refl refl (λ f. absurd (true≢false (sym f ∙ h.1)))

  hypervisor_acted : (x : Next) → due_of n w.domain ≡ x → Acted n w (step.Perform side.Hypervisor) (hypervisor_step w (perform_hypervisor_next n w.domain w.ledger w.memory x))
  hypervisor_acted (next.Access a) h =
      by_hypervisor (Replies (performed w.memory a).seen w.ledger) (HypervisorAccess w.domain.call a (performed w.memory a).seen) _ refl refl refl
      (λ q. absurd (no_access (sym (next_answer n w.domain NoCall 0 (q refl)) ∙ h))) (λ e. refl)
  hypervisor_acted (next.Answer a count) h = by_hypervisor (Replies 0 w.ledger) Nothing _ refl refl refl (λ q. refl) (λ e. refl)

  guest_acted : (x : Next) → guest_due_of n w.guest ≡ x → Acted n w (step.Perform side.Guest) (guest_step w (perform_guest_next n w.guest w.memory x))
  unfolding guest_access
  guest_acted (next.Access a) h =
      choose (λ e. Acted n w (step.Perform side.Guest) (guest_step w (guest_replied (guest_reply n w.guest (performed w.memory a).seen) e (performed w.memory a).memory))) (is_clearing w.guest.clear.stage)
      (by (ClearAccess w.guest.clear a (performed w.memory a).seen) refl refl) (by (GuestAccess w.guest.call a (performed w.memory a).seen) refl refl)
    where
      by : (e : Event) → is_answer e ≡ false → memory_after w.memory (list_of e) ≡ (performed w.memory a).memory → Acted n w (step.Perform side.Guest) (guest_step w (guest_replied (guest_reply n w.guest (performed w.memory a).seen) e (performed w.memory a).memory))
      by e none same = rw (← same) (by_guest (GuestReplies (performed w.memory a).seen) e refl none (λ q. absurd (no_access (sym (guest_due_none n w.guest (q refl).0 (q refl).1) ∙ h))))
  guest_acted (next.Answer a count) h = by_guest (GuestReplies 0) Nothing refl refl (λ q. refl)

  pub acted : (s : Step) → Acted n w s (advance_of n w s)
  unfolding advance_of guest_start_of perform_mask perform_side perform_hypervisor perform_guest hand_back
  acted (step.Hypervisor s) = start_acted s
  acted (step.Guest Service) = by_guest Serves Nothing refl refl (λ q. refl)
  acted (step.Guest (Mask p)) = mask_acted p (mask_of n p w.guest.words) (masks n p w.guest.words)
  acted (step.Guest (ClearMask p)) = by_guest (ClearsMask p) Nothing refl refl (λ q. refl)
  acted (step.Guest (Tell words)) = by_guest (Tells words) Nothing refl refl (λ q. refl)
  acted (step.Perform side.Hypervisor) = hypervisor_acted (due_of n w.domain) refl
  acted (step.Perform side.Guest) = guest_acted (guest_due_of n w.guest) refl
  acted (step.HandBack side.Hypervisor word) = by_hypervisor (Replies word w.ledger) Nothing _ refl refl refl (λ q. refl) (λ e. refl)
  acted (step.HandBack side.Guest word) = by_guest (GuestReplies word) Nothing refl refl (λ q. refl)
