-- What every order keeps: it is enough that steps, a lay that passes its refusals, and a cut keep it. n is the number of link bits.
-- Assumes nothing.
use Prim.Native.Nat.{ℕ, ◌<◌}
use mathlib.Core.Path.{◌≡◌, refl}
use mathlib.Core.Bool.{Bool, true, false, cond, not, ◌||◌}
use mathlib.Core.List.{List, [], ◌∷◌}
use native.Mathlib.Omega.{arith}
use borrow.Author.Tests.{eqb-true, eqb-false, leb-false}
use lib.Dec.{eqb, leb}
use Rattle.calls.proofs.Cases.{choose, by_test}
use Rattle.queue.proofs.Cases.{or_none}
use Rattle.machine.specs.declared.types.Step.{Step}
use Rattle.cables.specs.Table.{Slot, domain_limit, end, taken, has_space, laid_at, cut_at}
use Rattle.cables.specs.Rules.{join_refusal, lay_refusal, near_refusal}
use Rattle.fence.specs.System.{System, Order, On, Lay, Cut, Send, Works, refusal_at, act, after, run}

-- a lay that is not refused: domains d and e, their ports' own refusals c and k, ends a and b
pub record Passed (d e c k : ℕ) (t : List Slot) (a b : ℕ) : Type 0 where
  pub few : d < domain_limit
  pub far_few : e < domain_limit
  pub apart : eqb d e ≡ false
  pub passes : c ≡ 0
  pub far_passes : k ≡ 0
  pub untaken : taken t a ≡ false
  pub far_untaken : taken t b ≡ false

lay_passed : (d e c k : ℕ) (t : List Slot) (a b : ℕ) → lay_refusal d e c k t a b ≡ 0 → Passed d e c k t a b
unfolding lay_refusal join_refusal
lay_passed d e c k t a b =
    go (leb domain_limit d || leb domain_limit e) (eqb d e) (eqb c 0) (eqb k 0) (taken t a || taken t b) (has_space t) refl refl refl refl refl
  where
    go : (many one x y some space : Bool) → (leb domain_limit d || leb domain_limit e) ≡ many → eqb d e ≡ one → eqb c 0 ≡ x → eqb k 0 ≡ y →
        (taken t a || taken t b) ≡ some → cond many 23 (cond one 24 (cond (not x) c (cond (not y) k (cond some 25 (cond space 0 34))))) ≡ 0 →
        Passed d e c k t a b
    go true one x y some space f g i j l h = absurd (omega arith)
    go false true x y some space f g i j l h = absurd (omega arith)
    go false false false y some space f g i j l h = absurd (eqb-false c 0 i h)
    go false false true false some space f g i j l h = absurd (eqb-false k 0 j h)
    go false false true true true space f g i j l h = absurd (omega arith)
    go false false true true false space f g i j l h =
        let few = or_none (leb domain_limit d) (leb domain_limit e) f in
        let free = or_none (taken t a) (taken t b) l in
        record {
          few = leb-false domain_limit d few.0;
          far_few = leb-false domain_limit e few.1;
          apart = g;
          passes = eqb-true c 0 i;
          far_passes = eqb-true k 0 j;
          untaken = free.0;
          far_untaken = free.1;
        }

abbrev pub with_cables : System → List Slot → System
with_cables σ t = record { worlds = σ.worlds; cables = t }

module _ (n : ℕ) (P : System → Type 0) where
  pub record Keeps : Type 0 where
    pub works : (σ : System) (d : ℕ) (s : Step) → P σ → P (after n σ (Works d s))
    pub lays : (σ : System) (d p e q : ℕ) → Passed d e (refusal_at n σ d p) (refusal_at n σ e q) σ.cables (end d p) (end e q) → P σ →
        P (with_cables σ (laid_at σ.cables (end d p) (end e q)))
    pub cuts : (σ : System) (x : ℕ) → P σ → P (with_cables σ (cut_at σ.cables x))

  module _ (keeps : Keeps) where
    order_keeps : (σ : System) (o : Order) → P σ → P (after n σ (act n σ o))
    unfolding act after
    order_keeps σ (On d s) i = keeps.works σ d s i
    order_keeps σ (Lay d p e q) i =
        let c = refusal_at n σ d p in
        let k = refusal_at n σ e q in
        let code = lay_refusal d e c k σ.cables (end d p) (end e q) in
        by_test (λ t. P (with_cables σ t)) (eqb code 0)
        (λ h. keeps.lays σ d p e q (lay_passed d e c k σ.cables (end d p) (end e q) (eqb-true code 0 h)) i) (λ h. i)
    order_keeps σ (Cut d p) i =
        let code = near_refusal d (refusal_at n σ d p) σ.cables (end d p) in
        choose (λ t. P (with_cables σ t)) (eqb code 0) (keeps.cuts σ (end d p) i) i
    order_keeps σ (Send d p hint) i =
        let code = near_refusal d (refusal_at n σ d p) σ.cables (end d p) in
        choose (λ a. P (after n σ a)) (eqb code 0) (keeps.works σ _ _ i) i

    pub run_keeps : (σ : System) (os : List Order) → P σ → P (run n σ os)
    run_keeps σ [] i = i
    run_keeps σ (o ∷ os) i = run_keeps (after n σ (act n σ o)) os (order_keeps σ o i)
