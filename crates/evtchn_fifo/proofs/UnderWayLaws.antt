-- Whether a call is under way, and which port a close's reply is due for, told by the codes of owner and stage.
-- Assumes nothing.
use Prim.Native.Nat.{ℕ, zero, suc, ◌≤◌}
use mathlib.Core.Path.{◌≡◌, refl, sym, ap, ◌∙◌}
use mathlib.Core.Bool.{Bool, true, false, true≢false, cond, not}
use mathlib.Core.List.{List}
use lib.ListN.{length}
use lib.Dec.{eqb, ltb}
use borrow.Author.Tests.{lt-ltb, le-ltb, ne_eqb, eqb-true}
use native.Mathlib.Omega.{arith}
use Rattle.calls.specs.declared.types.Owner.TheVariants as owner
use Rattle.calls.specs.declared.types.Stage.{Stage}
use Rattle.calls.specs.Records.{is_free, closing_by}
use Rattle.evtchn_fifo.specs.Numbers.{number_at}
use Rattle.evtchn_fifo.specs.DomainRecord.{domain_size, owner_of, stage_of, owner_at, call_at, closing_in}

high_free : (o : ℕ) → 5 ≤ o → not (is_free (owner_of o)) ≡ cond (ltb 0 o) (ltb o 5) false
unfolding is_free owner_of
high_free o h =
    simp (ne_eqb o 1 (λ e. omega arith), ne_eqb o 2 (λ e. omega arith), ne_eqb o 3 (λ e. omega arith), ne_eqb o 4 (λ e. omega arith), lt-ltb 0 o (omega arith), le-ltb o 5 h)

pub owner_is : (o : ℕ) → not (is_free (owner_of o)) ≡ cond (ltb 0 o) (ltb o 5) false
unfolding is_free owner_of
owner_is zero = refl
owner_is (suc zero) = refl
owner_is (suc (suc zero)) = refl
owner_is (suc (suc (suc zero))) = refl
owner_is (suc (suc (suc (suc zero)))) = refl
owner_is (suc (suc (suc (suc (suc o))))) = high_free (suc (suc (suc (suc (suc o))))) (omega arith)

by_stage : (o : ℕ) (b : Bool) → not (is_free (cond b (owner_of o) owner.None)) ≡ cond b (cond (ltb 0 o) (ltb o 5) false) false
unfolding is_free
by_stage o true = owner_is o
by_stage o false = refl

pub under_way_is : (s o : ℕ) → not (is_free (cond (ltb s 8) (owner_of o) owner.None)) ≡ cond (ltb s 8) (cond (ltb 0 o) (ltb o 5) false) false
under_way_is s o = by_stage o (ltb s 8)

-- ---- the port of a close

-- an owner other than 2 closes none
high_closes : (o : ℕ) (s : Stage) (p : ℕ) → 5 ≤ o → closing_by (owner_of o) s p ≡ 0
unfolding owner_of
high_closes o s p h = simp (ne_eqb o 1 (λ e. omega arith), ne_eqb o 2 (λ e. omega arith), ne_eqb o 3 (λ e. omega arith), ne_eqb o 4 (λ e. omega arith))

others_close_none : (o : ℕ) (s : Stage) (p : ℕ) → eqb o 2 ≡ false → closing_by (owner_of o) s p ≡ 0
unfolding owner_of
others_close_none zero s p e = refl
others_close_none (suc zero) s p e = refl
others_close_none (suc (suc zero)) s p e = absurd (true≢false e)
others_close_none (suc (suc (suc zero))) s p e = refl
others_close_none (suc (suc (suc (suc zero)))) s p e = refl
others_close_none (suc (suc (suc (suc (suc o))))) s p e = high_closes (suc (suc (suc (suc (suc o))))) s p (omega arith)

-- nor does a stage but the first
abbrev closing_at : ℕ → ℕ → ℕ → ℕ
closing_at o s p = closing_by (cond (ltb s 8) (owner_of o) owner.None) (stage_of s) p

first_closes : (s p : ℕ) → closing_at 2 s p ≡ cond (eqb s 0) p 0
unfolding owner_of stage_of
first_closes zero p = refl
first_closes (suc zero) p = refl
first_closes (suc (suc zero)) p = refl
first_closes (suc (suc (suc zero))) p = refl
first_closes (suc (suc (suc (suc zero)))) p = refl
first_closes (suc (suc (suc (suc (suc zero))))) p = refl
first_closes (suc (suc (suc (suc (suc (suc zero)))))) p = refl
first_closes (suc (suc (suc (suc (suc (suc (suc zero))))))) p = refl
first_closes (suc (suc (suc (suc (suc (suc (suc (suc s)))))))) p =
    simp (le-ltb (suc (suc (suc (suc (suc (suc (suc (suc s)))))))) 8 (omega arith), ne_eqb (suc (suc (suc (suc (suc (suc (suc (suc s)))))))) 0 (λ e. omega arith))

by_stages : (o : ℕ) (b : Bool) (s : Stage) (p : ℕ) → eqb o 2 ≡ false → closing_by (cond b (owner_of o) owner.None) s p ≡ 0
by_stages o true s p e = others_close_none o s p e
by_stages o false s p e = refl

closing_at_lem : (o s p : ℕ) (b : Bool) → eqb o 2 ≡ b → closing_at o s p ≡ cond b (cond (eqb s 0) p 0) 0
closing_at_lem o s p true e = rw (eqb-true o 2 e) (first_closes s p)
closing_at_lem o s p false e = by_stages o (ltb s 8) (stage_of s) p e

-- as the code tests it, by the numbers o, s and p that it reads
module _ (r : List ℕ) {o : ℕ} (long : ltb (length r) domain_size ≡ false) (owner : o ≡ number_at 3 r 72) where
  closing_by_lem : (b : Bool) → eqb o 2 ≡ b → closing_in r ≡ cond b (cond (eqb (number_at 3 r 76) 0) (number_at 3 r 80) 0) 0
  unfolding call_at owner_at
  closing_by_lem b e = simp long (closing_at_lem (number_at 3 r 72) (number_at 3 r 76) (number_at 3 r 80) b (ap (λ x. eqb x 2) (sym owner) ∙ e))

  pub closes_port : {s p : ℕ} → eqb o 2 ≡ true → s ≡ number_at 3 r 76 → eqb s 0 ≡ true → p ≡ number_at 3 r 80 → p ≡ closing_in r
  closes_port two stage first port = port ∙ sym (closing_by_lem true two ∙ ap (λ b. cond b (number_at 3 r 80) 0) (ap (λ x. eqb x 0) (sym stage) ∙ first))

  pub closes_later : {s : ℕ} → eqb o 2 ≡ true → s ≡ number_at 3 r 76 → eqb s 0 ≡ false → ◌≡◌ {A = ℕ} 0 (closing_in r)
  closes_later two stage later = sym (closing_by_lem true two ∙ ap (λ b. cond b (number_at 3 r 80) 0) (ap (λ x. eqb x 0) (sym stage) ∙ later))

  pub closes_none : eqb o 2 ≡ false → ◌≡◌ {A = ℕ} 0 (closing_in r)
  closes_none e = sym (closing_by_lem false e)
