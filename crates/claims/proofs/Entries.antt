-- With one ledger throughout, the port of a call under way has its entry, so no reply is refused with 14.
-- Assumes nothing.
use Prim.Native.Nat.{ℕ, ◌<◌}
use mathlib.Core.Path.{◌≡◌, refl, sym, subst, ◌∙◌}
use mathlib.Core.Bool.{true, false, true≢false, false≢true}
use mathlib.Core.List.{List, [], ◌∷◌}
use mathlib.Core.Logic.{◌≢◌}
use native.Mathlib.Omega.{arith}
use lib.ListN.{length}
use Rattle.word.specs.declared.Port.{Port}
use Rattle.calls.specs.declared.types.Answer.{Answer}
use Rattle.calls.specs.declared.types.Answer.TheVariants.{StillLinked, NoEntry, BadIndex}
use Rattle.calls.specs.declared.types.Domain.{Domain}
use Rattle.calls.specs.declared.types.Guest.{Guest}
use Rattle.calls.specs.Answers.{code_of}
use Rattle.calls.specs.Records.{is_free}
use Rattle.calls.specs.Hypervisor.{Turn, moved}
use Rattle.calls.specs.Claims.{Act, GuestAct, turn_of, guest_turn_of, lent, is_reply, is_refusal}
use Rattle.calls.proofs.Cases.{other_answer}
use Rattle.calls.proofs.HypervisorTurns.{Refusal, at_start, fourteen, Kind, refused, settled, begun, carried, kind}
use Rattle.calls.proofs.HypervisorClaims.{why_refused, one_entry_lem}
use Rattle.calls.proofs.GuestClaims as guest
use Rattle.calls.proofs.GuestClaims.{guest_why_refused}
use Rattle.machine.specs.declared.types.Side.{Side}
use Rattle.machine.specs.declared.types.Step.{Step}
use Rattle.machine.specs.Exec.{World, Advanced, world_after, step_of, exec, exec_all, is_reply_step}
use Rattle.machine.proofs.StepActs.{Acted, by_hypervisor, by_guest, by_mask, acted}
use Rattle.claims.specs.Refusals.{Gives, fresh_world, RepliesFindEntries}
use Rattle.claims.proofs.Refusals.{hypervisor_given, guest_given}

-- the port of a call under way has an entry among so many
abbrev HasEntry : Domain → ℕ → Type 0
HasEntry d entries = is_free d.call.owner ≡ false → d.call.port.0 < entries

entry_turn : (n : ℕ) (d : Domain) {act : Act} {t : Turn} → Kind n d act t → HasEntry d (length (lent act)) → HasEntry t.outcome.domain (length (lent act))
unfolding moved
entry_turn n d (refused h) i = i
entry_turn n d (settled h more b) i = i
entry_turn n d (begun busy on) i = λ f. on.entry
entry_turn n d (carried {ledger = ledger} busy k) i = λ f. subst (λ (p : Port). p.0 < length ledger) (sym (k.port f)) (i busy)

module _ (n : ℕ) (w : World) (i : HasEntry w.domain (length w.ledger)) where
  entry_acted : {s : Step} {t : Advanced} → Acted n w s t → HasEntry (world_after t).domain (length (world_after t).ledger)
  entry_acted (by_hypervisor act access m same reply h none made) =
      rw (one_entry_lem n w.domain act).size (entry_turn n w.domain (kind n w.domain act) (rw same i))
  entry_acted (by_guest act access reply h none) = i
  entry_acted (by_mask access other reply h none) = i

entry_steps : (n : ℕ) (w : World) → HasEntry w.domain (length w.ledger) → (steps : List Step) →
    HasEntry (exec_all n w steps).world.domain (length (exec_all n w steps).world.ledger)
unfolding exec_all
entry_steps n w i [] = i
entry_steps n w i (s ∷ ss) = entry_steps n (exec n w s).world (entry_acted n w i (acted n w s)) ss

-- ---- no reply is refused with 14

refusal_14 : is_refusal NoEntry ≡ true
unfolding code_of
refusal_14 = refl

reply_14 : {d : Domain} {act : Act} → Refusal d act NoEntry → is_reply act ≡ true → HasEntry d (length (lent act)) → ⊥
reply_14 (at_start h) r i = false≢true r
reply_14 (fourteen busy l) r i = omega (arith, i busy)

guest_14 : {g : Guest} {act : GuestAct} {a : Answer} → guest.Refusal g act a → a ≢ NoEntry
unfolding code_of
guest_14 guest.fifteen = other_answer refl refl refl
guest_14 guest.clear_fifteen = other_answer refl refl refl
guest_14 guest.clear_three = other_answer refl refl refl
guest_14 guest.clear_six = other_answer refl refl refl
guest_14 (guest.sixteen none free) = other_answer refl refl refl

not_7 : NoEntry ≢ StillLinked
unfolding code_of
not_7 = other_answer refl refl refl

not_18 : NoEntry ≢ BadIndex
unfolding code_of
not_18 = other_answer refl refl refl

replies_acted : (n : ℕ) (w : World) → HasEntry w.domain (length w.ledger) → {s : Step} {t : Advanced} → Acted n w s t → is_reply_step s ≡ true → (by : Side) → Gives by NoEntry (step_of t).events → ⊥
replies_acted n w i (by_hypervisor act access m same reply h none made) r by g =
    let f = hypervisor_given access (turn_of n w.domain act).outcome.next h g in
    reply_14 (why_refused n w.domain act NoEntry f.count f.same refusal_14 not_7) (reply ∙ r) (rw same i)
replies_acted n w i (by_guest act access reply h none) r by g =
    let f = guest_given access (guest_turn_of n w.guest act).next h g in
    guest_14 (guest_why_refused n w.guest act NoEntry f.count f.same refusal_14 not_18) refl
replies_acted n w i (by_mask access other reply h none) r by g = false≢true (sym reply ∙ r)

pub replies_find_entries : RepliesFindEntries
unfolding is_free
replies_find_entries n ledger m steps s by r = replies_acted n _ (entry_steps n (fresh_world ledger m) (λ f. absurd (true≢false f)) steps) (acted n _ s) r by
