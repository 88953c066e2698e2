-- Digits: how many there are, and how code finds each.
-- Assumes nothing.
use mathlib.Core.Path.{◌≡◌, refl, ◌∙◌}
use mathlib.Core.Bool.{Bool, true, false, cond}
use mathlib.Core.List.{List, [], ◌∷◌}
use Prim.Native.Nat.{ℕ, zero, suc, ◌+◌, ◌-◌, ◌≤◌, ◌<◌, ◌/◌, ◌%◌, ◌^◌, zero-le}
use native.Mathlib.Numerals.{add-one, sub-one}
use native.Mathlib.Omega.{arith}
use lib.ListN.{length, length-append, get_or}
use lib.Dec.{ltb, eqb, eqb→eq}
use borrow.Author.Tests.{lt-ltb, le-ltb}
use native.Mathlib.Nat.{pow-suc}
use Rattle.std.proofs.Math.Nat.{div-div-eq-div-mul, div-one}
use Rattle.access_log.specs.Line.{digit, digits, places, hex8}
use Rattle.access_log.specs.Text.{Text, with_bytes}
use Rattle.word.proofs.Span.{span, within}
use borrow.Rule.Slice.PartMut.{mid_of}
use Rattle.access_log.proofs.TextLaws.{with_append}

pub length_digits : (base count n : ℕ) → length (digits base count n) ≡ count
unfolding digits
length_digits base zero n = refl
length_digits base (suc count) n =
    length-append (digits base count (n / base)) (digit (n % base) ∷ [])
    ∙ simp (length_digits base count (n / base)) (add-one count)

pub places_more : (most n : ℕ) → (most ≡ 0 → ⊥) → 10 ≤ n → places most n ≡ places (most - 1) (n / 10) + 1
unfolding places
places_more zero n h k = absurd (h refl)
places_more (suc most) n h k = simp (le-ltb n 10 k, sub-one)

pub places_one : (most n : ℕ) → (most ≡ 0 → ⊥) → n < 10 → places most n ≡ 1
unfolding places
places_one zero n h k = absurd (h refl)
places_one (suc most) n h k = simp (lt-ltb n 10 k)

by_test : (b : Bool) (m k : ℕ) → m ≤ k → cond b 1 (m + 1) ≤ suc k
by_test true m k h = omega arith
by_test false m k h = omega arith

pub places_le : (most n : ℕ) → places most n ≤ most
unfolding places
places_le zero n = omega arith
places_le (suc most) n = by_test (ltb n 10) (places most (n / 10)) most (places_le most (n / 10))

-- ---- eight hex digits

pub hex_digits : (w : ℕ) →
    digit (w / 2 ^ 28 % 16) ∷ digit (w / 2 ^ 24 % 16) ∷ digit (w / 2 ^ 20 % 16) ∷ digit (w / 2 ^ 16 % 16)
    ∷ digit (w / 2 ^ 12 % 16) ∷ digit (w / 2 ^ 8 % 16) ∷ digit (w / 2 ^ 4 % 16) ∷ digit (w / 2 ^ 0 % 16) ∷ [] ≡ hex8 w
unfolding hex8 digits
hex_digits w = simp (div-div-eq-div-mul, div-one)

-- ---- decimals, the highest digit first

-- the powers of ten that a word holds, the highest first
abbrev tens : List ℕ
tens = 1000000000 ∷ 100000000 ∷ 10000000 ∷ 1000000 ∷ 100000 ∷ 10000 ∷ 1000 ∷ 100 ∷ 10 ∷ 1 ∷ []

-- the last k of them
abbrev pub last_tens : ℕ → List ℕ
last_tens k = mid_of (10 - k) (10 - (10 - k)) tens

ten_right : ℕ → ℕ → Bool
ten_right k i = eqb (get_or (last_tens k) i 0) (10 ^ (k - (i + 1)))

tens_right : ℕ → Bool
unfolding ten_right
tens_right k = span (ten_right k) 0 k

ten_at : (k i : ℕ) → k ≤ 10 → i < k → get_or (last_tens k) i 0 ≡ 10 ^ (k - (i + 1))
unfolding tens_right ten_right
ten_at k i h l = eqb→eq _ _ (within (ten_right k) 0 k (within tens_right 0 11 tt k zero-le (omega arith)) i zero-le (omega arith))

length_right : ℕ → Bool
length_right k = eqb (length (last_tens k)) k

pub length_tens : (k : ℕ) → k ≤ 10 → length (last_tens k) ≡ k
unfolding length_right
length_tens k h = eqb→eq _ _ (within length_right 0 11 tt k zero-le (omega arith))

fewer : (n k i : ℕ) → i < k → n / 10 ^ (k - i) ≡ n / 10 ^ (k - suc i) / 10
fewer n k i l = let e : k - i ≡ suc (k - suc i) = omega arith in rw (e, pow-suc, div-div-eq-div-mul) refl

-- one more digit, by the next power
pub digits_next : (t : Text) (n k i : ℕ) → k ≤ 10 → i < k →
    with_bytes (with_bytes t (digits 10 i (n / 10 ^ (k - i)))) (digit (n / get_or (last_tens k) i 0 % 10) ∷ []) ≡ with_bytes t (digits 10 (i + 1) (n / 10 ^ (k - (i + 1))))
unfolding digits
digits_next t n k i h l =
    rw (ten_at k i h l, add-one) (rw (← with_append, fewer n k i l) refl)

pub digits_all : (n k : ℕ) → digits 10 k (n / 10 ^ (k - k)) ≡ digits 10 k n
digits_all n k = let e : k - k ≡ 0 = omega arith in rw (e, div-one) refl
