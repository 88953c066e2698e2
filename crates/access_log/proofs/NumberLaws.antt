-- Digits both ways: the digits of a number below 2 ^ 32 make that number, and none of them ends a field.
-- Assumes nothing.
use Prim.Native.Nat.{ℕ, zero, suc, ◌+◌, ◌-◌, ◌*◌, ◌^◌, ◌/◌, ◌%◌, ◌<◌, ◌≤◌, zero-le}
use native.Mathlib.Omega.{arith}
use native.Mathlib.Numerals.{add-one}
use native.Mathlib.Nat.{pow-zero, pow-suc, div-add-mod', div-le_self, mod-eq_of_lt, mod-lt, div-lt_iff_lt-mul, lt_of_le_of_lt, lt_of_lt_of_le}
use mathlib.Core.Path.{◌≡◌, refl, ◌∙◌}
use mathlib.Core.Bool.{Bool, true, false, cond}
use mathlib.Core.List.{List, [], ◌∷◌, ◌++◌}
use lib.Dec.{ltb, eqb, eqb→eq}
use borrow.Author.Tests.{ltb-true}
use Rattle.word.proofs.Span.{within}
use Rattle.access_log.specs.Line.{digit, digits, places, decimal, hex8}
use Rattle.access_log.specs.Read.{digit_value, value_from, value}
use Rattle.access_log.proofs.FieldLaws.{plain, plain_more}

-- ---- one digit, by computation

digit_right : ℕ → Bool
digit_right d = eqb (digit_value (digit d)) d

digit_value_lem : (d : ℕ) → d < 16 → digit_value (digit d) ≡ d
unfolding digit_right digit
digit_value_lem d h = eqb→eq (digit_value (digit d)) d (within digit_right 0 16 tt d zero-le h)

above_by : (b : Bool) (d e : ℕ) → 31 < cond b (48 + d) (65 + e)
above_by true d e = omega arith
above_by false d e = omega arith

digit_plain : (d : ℕ) → 31 < digit d
unfolding digit
digit_plain d = above_by (ltb d 10) d (d - 10)

-- ---- all digits

value_more : (base n : ℕ) (s : List ℕ) (c : ℕ) → value_from base n (s ++ c ∷ []) ≡ (value_from base n s * base + digit_value c) % 2 ^ 32
unfolding value_from
value_more base n [] c = refl
value_more base n (x ∷ s) c = value_more base ((n * base + digit_value x) % 2 ^ 32) s c

joined : (base n v d : ℕ) → n < 2 ^ 32 → v ≡ n / base → d ≡ n % base → (v * base + d) % 2 ^ 32 ≡ n
joined base n v d h e f = rw (e, f, div-add-mod') (mod-eq_of_lt h)

fewer : (base k n : ℕ) → 0 < base → n < base ^ suc k → n / base < base ^ k
fewer base k n p h = (div-lt_iff_lt-mul p).1 (rw pow-suc at h)

digits_value : (base k n : ℕ) → 0 < base → base ≤ 16 → n < base ^ k → n < 2 ^ 32 → value_from base 0 (digits base k n) ≡ n
unfolding digits value_from
digits_value base zero n p q h g = omega (arith, pow-zero base)
digits_value base (suc k) n p q h g =
    value_more base 0 (digits base k (n / base)) (digit (n % base))
    ∙ joined base n _ _ g (digits_value base k (n / base) p q (fewer base k n p h) (lt_of_le_of_lt (div-le_self n base) g)) (digit_value_lem (n % base) (lt_of_lt_of_le (mod-lt n p) q))

digits_plain : (base k n : ℕ) → plain (digits base k n) ≡ true
unfolding digits plain
digits_plain base zero n = refl
digits_plain base (suc k) n = plain_more (digits base k (n / base)) (digit (n % base)) (digits_plain base k (n / base)) (digit_plain (n % base))

-- ---- words

pub hex_value : (w : ℕ) → w < 2 ^ 32 → value 16 (hex8 w) ≡ w
unfolding hex8 value
hex_value w h = digits_value 16 8 w (omega arith) (omega arith) h h

pub hex_plain : (w : ℕ) → plain (hex8 w) ≡ true
unfolding hex8
hex_plain w = digits_plain 16 8 w

-- ---- decimals

-- as many places as a number needs
enough_by : (b : Bool) (most n : ℕ) → ltb n 10 ≡ b → n / 10 < 10 ^ places most (n / 10) → n < 10 ^ cond b 1 (places most (n / 10) + 1)
enough_by true most n e h = omega (arith, ltb-true n 10 e)
enough_by false most n e h = rw (add-one, pow-suc) ((div-lt_iff_lt-mul {k = 10} (omega arith)).0 h)

places_enough : (most n : ℕ) → n < 10 ^ most → n < 10 ^ places most n
unfolding places
places_enough zero n h = h
places_enough (suc most) n h = enough_by (ltb n 10) most n refl (places_enough most (n / 10) (fewer 10 most n (omega arith) h))

pub decimal_value : (n : ℕ) → n < 2 ^ 32 → value 10 (decimal n) ≡ n
unfolding decimal value
decimal_value n h = digits_value 10 (places 10 n) n (omega arith) (omega arith) (places_enough 10 n (omega arith)) h

pub decimal_plain : (n : ℕ) → plain (decimal n) ≡ true
unfolding decimal
decimal_plain n = digits_plain 10 (places 10 n) n
