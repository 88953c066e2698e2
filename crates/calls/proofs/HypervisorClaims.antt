-- The claims about the hypervisor's calls and replies.
-- Assumes nothing.
use Prim.Native.Nat.{ℕ}
use mathlib.Core.Path.{◌≡◌, refl, sym, ap, subst, ◌∙◌}
use mathlib.Core.Bool.{true, false, cond, not, ◌&&◌, true≢false, false≢true}
use mathlib.Core.List.{List}
use mathlib.Core.Logic.{◌⊎◌, inl, inr, ⊎_elim, ◌≢◌}
use native.Mathlib.Omega.{arith}
use lib.ListN.{length, get_or}
use lib.Seq.{set_out, set-get_or}
use Rattle.calls.specs.declared.types.Access.{Access}
use Rattle.calls.specs.declared.types.Answer.{Answer}
use Rattle.calls.specs.declared.types.Answer.TheVariants.{NoCall, StillLinked}
use Rattle.calls.specs.declared.types.Next.TheVariants as next
use Rattle.calls.specs.declared.types.Owner.TheVariants as owner
use Rattle.calls.specs.declared.types.Domain.{Domain}
use Rattle.calls.specs.declared.hypervisor.stage.Move.{Move}
use Rattle.calls.specs.Answers.{code_of}
use Rattle.calls.specs.Records.{one_more, is_free, idle_call, with_call}
use Rattle.calls.specs.Hypervisor.{Turn, turn, answered, ends, due, next_of, due_of, moved, carried_out}
use Rattle.calls.specs.Claims.{Act, turn_of, lent, is_reply, is_refusal, tails_after, is_about, EqualBut, NamesDue, hypervisor_side, RefusalsKeep, StillLinkedEnds, OneTail, OneEntry, Counts}
use Rattle.calls.proofs.Cases.{no_access, same_answer, same_count, access_busy, answer_free, access_due}
use Rattle.calls.proofs.CountLaws.{stays, counts}
use Rattle.calls.proofs.HypervisorTurns.{is_still_linked, Refusal, at_start, sixteen, fourteen, Kind, refused, settled, begun, carried, kind, equal_itself, equal_set}

-- ---- what next_of comes to

module _ (n : ℕ) (d : Domain) where
  pub next_access : (a : Answer) (k : ℕ) → is_free d.call.owner ≡ false → next_of n d a k ≡ next.Access (due n d.call (get_or d.tails d.call.queue.0 0))
  unfolding next_of
  next_access a k busy = simp busy

  pub next_answer : (a : Answer) (k : ℕ) → is_free d.call.owner ≡ true → next_of n d a k ≡ next.Answer a k
  unfolding next_of
  next_answer a k free = simp free

  next_due : (a : Answer) (k : ℕ) (x : Access) → next_of n d a k ≡ next.Access x → due_of n d ≡ next.Access x
  unfolding next_of
  next_due a k x e = access_due a k _ NoCall 0 (is_free d.call.owner) e

  next_busy : (a : Answer) (k : ℕ) (x : Access) → next_of n d a k ≡ next.Access x → is_free d.call.owner ≡ false
  unfolding next_of
  next_busy a k x e = access_busy a k _ (is_free d.call.owner) e

  next_free : (a : Answer) (k : ℕ) (b : Answer) (j : ℕ) → next_of n d a k ≡ next.Answer b j → (is_free d.call.owner ≡ true) × (next.Answer a k ≡ next.Answer b j)
  unfolding next_of
  next_free a k b j e = answer_free a k _ (is_free d.call.owner) e

-- ---- due

due_kind : (n : ℕ) (d : Domain) {act : Act} {t : Turn} → Kind n d act t → (x : Access) → t.outcome.next ≡ next.Access x → due_of n t.outcome.domain ≡ next.Access x
due_kind n d (refused h) x e = absurd (no_access e)
due_kind n d (settled h m l) x e = absurd (no_access e)
due_kind n d (begun busy on) x e = next_due n _ _ _ x e
due_kind n d (carried busy k) x e = next_due n _ _ _ x e

pub names_due : (n : ℕ) → NamesDue (hypervisor_side n)
names_due n d act = due_kind n d (kind n d act)

-- ---- refusals

still_linked : (a : Answer) → is_still_linked a ≡ false → a ≢ StillLinked
unfolding code_of
still_linked a f e = true≢false (sym (ap is_still_linked e) ∙ f)

not_7 : {d : Domain} {act : Act} {a : Answer} → Refusal d act a → is_still_linked a ≡ false
unfolding code_of
not_7 (at_start h) = h
not_7 (sixteen h) = refl
not_7 (fourteen h l) = refl

refusal_7 : is_refusal StillLinked ≡ true
unfolding code_of
refusal_7 = refl

ended_7 : (n : ℕ) (d : Domain) (ledger : List ℕ) (k count : ℕ) → length d.tails ≡ 16 → k ≡ count →
    carried_out n d ledger (ends (get_or ledger d.call.port.0 0) StillLinked k) ≡ turn (record { domain = with_call d idle_call; next = next.Answer StillLinked count }) ledger
unfolding moved next_of is_free
ended_7 n d ledger k count l h = simp (set_out d.tails 16 0 (omega arith), set-get_or ledger d.call.port.0 0, h)

module _ (n : ℕ) (d : Domain) where
  refusal_kind : {act : Act} {t : Turn} → Kind n d act t → (a : Answer) (count : ℕ) → t.outcome.next ≡ next.Answer a count → is_refusal a ≡ true → a ≢ StillLinked →
      (t ≡ turn (answered d a) (lent act)) × Refusal d act a
  refusal_kind {act} (refused h) a count e r s = (ap (λ (b : Answer). turn (answered d b) (lent act)) (same_answer e), subst (Refusal d act) (same_answer e) h)
  refusal_kind (settled h m l) a count e r s = absurd (true≢false (sym r ∙ (ap is_refusal (sym (same_answer e)) ∙ h)))
  refusal_kind (begun busy on) a count e r s = absurd (true≢false (sym (next_free n _ _ _ a count e).0 ∙ busy))
  refusal_kind (carried busy k) a count e r s =
      let same = same_answer (next_free n _ _ _ a count e).1 in
      absurd (s (sym same ∙ ap (λ (m : Move). m.answer) (k.refused (ap is_refusal same ∙ r)).1))

  still_linked_kind : {act : Act} {t : Turn} → Kind n d act t → (count : ℕ) → length d.tails ≡ 16 → t.outcome.next ≡ next.Answer StillLinked count →
      (d.call.owner ≡ owner.Bind) × (t ≡ turn (record { domain = with_call d idle_call; next = next.Answer StillLinked count }) (lent act))
  still_linked_kind (refused h) count l e = absurd (still_linked _ (not_7 h) (same_answer e))
  still_linked_kind (settled h m b) count l e = absurd (true≢false (sym refusal_7 ∙ (ap is_refusal (sym (same_answer e)) ∙ h)))
  still_linked_kind (begun busy on) count l e = absurd (true≢false (sym (next_free n _ _ _ _ count e).0 ∙ busy))
  still_linked_kind (carried {ledger = ledger} busy k) count l e =
      let f = next_free n _ _ _ _ count e in
      let r = k.refused (ap is_refusal (same_answer f.1) ∙ refusal_7) in
      (r.0, ap (carried_out n d ledger) r.1 ∙ ended_7 n d ledger _ count l (sym (ap (λ (m : Move). m.count) r.1) ∙ same_count f.1))

pub refusals_keep : RefusalsKeep
refusals_keep n d act a count e r s = (refusal_kind n d (kind n d act) a count e r s).0

-- a refusal but 7: a start's, or a reply's 16 or 14
pub why_refused : (n : ℕ) (d : Domain) (act : Act) (a : Answer) (count : ℕ) → (turn_of n d act).outcome.next ≡ next.Answer a count → is_refusal a ≡ true → a ≢ StillLinked → Refusal d act a
why_refused n d act a count e r s = (refusal_kind n d (kind n d act) a count e r s).1

pub still_linked_ends : StillLinkedEnds
still_linked_ends n d act = still_linked_kind n d (kind n d act)

-- ---- frame

module _ (n : ℕ) (d : Domain) where
  tail_kind : {act : Act} {t : Turn} → Kind n d act t → length d.tails ≡ 16 → (t.outcome.domain.tails ≡ d.tails) ⊎ (t.outcome.domain.tails ≡ tails_after d act)
  unfolding moved
  tail_kind (refused h) l = inl refl
  tail_kind (settled h m b) l = inl refl
  tail_kind (begun busy on) l = inl refl
  tail_kind (carried busy k) l = ⊎_elim (λ p. inl (set_out d.tails _ _ (omega arith))) (λ p. inr (p d.tails)) k.tail

  entry_kind : {act : Act} {t : Turn} → Kind n d act t → EqualBut (is_about d act) (lent act) t.ledger
  entry_kind (refused h) = equal_itself
  entry_kind (settled h m b) = b
  entry_kind (begun busy on) = equal_itself
  entry_kind (carried {ledger = ledger} busy k) = equal_set ledger _ _ (λ k h. h)

pub one_tail : OneTail
one_tail n d act = tail_kind n d (kind n d act)

pub one_entry_lem : OneEntry
one_entry_lem n d act = entry_kind n d (kind n d act)

-- ---- counts

module _ (n : ℕ) (d : Domain) where
  accesses_kind : {act : Act} {t : Turn} → Kind n d act t → (x : Access) → t.outcome.next ≡ next.Access x →
      (t.outcome.domain.call.count ≡ cond (is_reply act) (one_more d.call.count) 1) × (is_reply act ≡ true → not (is_free d.call.owner) ≡ true)
  unfolding moved
  accesses_kind (refused h) x e = absurd (no_access e)
  accesses_kind (settled h m l) x e = absurd (no_access e)
  accesses_kind (begun busy on) x e = (refl, λ f. absurd (false≢true f))
  accesses_kind (carried busy k) x e = (k.going (next_busy n _ _ _ x e), λ f. ap not busy)

  answers_kind : {act : Act} {t : Turn} → Kind n d act t → (a : Answer) (k : ℕ) → t.outcome.next ≡ next.Answer a k →
      (k ≡ cond (not (is_free d.call.owner) && not (not (is_free t.outcome.domain.call.owner))) d.call.count 0)
      × (not (is_free t.outcome.domain.call.owner) ≡ true → (not (is_free d.call.owner) ≡ true) × (t.outcome.domain.call.count ≡ d.call.count))
  unfolding moved
  answers_kind (refused h) a j e = (sym (same_count e) ∙ sym (stays (not (is_free d.call.owner)) _), λ u. (u, refl))
  answers_kind (settled h m l) a j e = (sym (same_count e) ∙ sym (stays (not (is_free d.call.owner)) _), λ u. (u, refl))
  answers_kind (begun busy on) a j e = absurd (true≢false (sym (next_free n _ _ _ a j e).0 ∙ busy))
  answers_kind (carried busy k) a j e =
      let f = next_free n _ _ _ a j e in
      (sym (same_count f.1) ∙ (k.ended f.0 ∙ simp (busy, f.0)), λ u. absurd (false≢true (sym (ap not f.0) ∙ u)))

pub counts_calls : (n : ℕ) → Counts (hypervisor_side n)
counts_calls n = counts (hypervisor_side n) (record { accesses = λ d act x o. accesses_kind n d (kind n d act) x; answers = λ d act a k o. answers_kind n d (kind n d act) a k; others = λ d act o. absurd (true≢false o) })
