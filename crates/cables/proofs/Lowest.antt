-- The lowest slot of a table that passes a test.
-- Assumes nothing.
use Prim.Native.Nat.{ℕ, zero, suc, ◌<◌, suc-le-suc}
use mathlib.Core.Path.{◌≡◌, refl, ap}
use mathlib.Core.Bool.{Bool, true, false}
use mathlib.Core.List.{List, [], ◌∷◌}
use native.Mathlib.Nat.{le_of_suc-le-suc, not-suc-le-zero, zero-lt-suc}
use lib.ListN.{length}
use Rattle.calls.proofs.Cases.{by_test}
use Rattle.cables.specs.Table.{Slot, slot_of, lowest}

module _ (f : Slot → Bool) where
  pub lowest_at : (t : List Slot) → lowest f t < length t → f (slot_of t (lowest f t)) ≡ true
  unfolding lowest
  lowest_at [] h = absurd (not-suc-le-zero h)
  lowest_at (s ∷ t) h = by_test (λ k. k < suc (length t) → f (slot_of (s ∷ t) k) ≡ true) (f s) (λ e k. e) (λ e k. lowest_at t (le_of_suc-le-suc k)) h

  -- some slot passes: the lowest is there
  pub lowest_there : (t : List Slot) (i : ℕ) → i < length t → f (slot_of t i) ≡ true → lowest f t < length t
  unfolding lowest
  lowest_there [] i h e = absurd (not-suc-le-zero h)
  lowest_there (s ∷ t) zero h e = rw e (zero-lt-suc (length t))
  lowest_there (s ∷ t) (suc i) h e =
      by_test (λ k. k < suc (length t)) (f s) (λ d. zero-lt-suc (length t)) (λ d. suc-le-suc (lowest_there t i (le_of_suc-le-suc h) e))

  -- a walk that finds none before the i-th
  pub lowest_is : (t : List Slot) (i : ℕ) → i < length t → f (slot_of t i) ≡ true → ((j : ℕ) → j < i → f (slot_of t j) ≡ false) → lowest f t ≡ i
  unfolding lowest
  lowest_is [] i h e below = absurd (not-suc-le-zero h)
  lowest_is (s ∷ t) zero h e below = simp e
  lowest_is (s ∷ t) (suc i) h e below =
      rw (below 0 (zero-lt-suc i)) (ap suc (lowest_is t i (le_of_suc-le-suc h) e (λ j k. below (suc j) (suc-le-suc k))))

  -- or none at all
  pub lowest_none : (t : List Slot) → ((j : ℕ) → j < length t → f (slot_of t j) ≡ false) → lowest f t ≡ length t
  unfolding lowest
  lowest_none [] below = refl
  lowest_none (s ∷ t) below = rw (below 0 (zero-lt-suc (length t))) (ap suc (lowest_none t (λ j k. below (suc j) (suc-le-suc k))))
