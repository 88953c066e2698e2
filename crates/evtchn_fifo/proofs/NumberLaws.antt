-- Numbers in bytes: what was written is read back, and nothing else changes. Each law holds for numbers of every size.
-- Assumes nothing.
use Prim.Native.Nat.{ℕ, zero, suc, ◌+◌, ◌*◌, ◌/◌, ◌%◌, ◌<◌, ◌≤◌}
use mathlib.Core.Path.{◌≡◌, refl, sym, ap, ◌∙◌, subst}
use mathlib.Core.Bool.{Bool, true, false}
use mathlib.Core.List.{List, [], ◌∷◌}
use mathlib.Core.Logic.{◌⊎◌, inl, inr, ⊎_elim}
use lib.ListN.{length, get_or, set, length-set, get_or-eq_default}
use lib.Seq.{get_or-set_same, get_or-set_other, set_out, set-get_or}
use lib.Dec.{leb, ltb, eqb}
use borrow.Author.Tests.{leb-true, ltb-true, ltb-false, eqb-false}
use native.Mathlib.Omega.{arith}
use native.Mathlib.Nat.{not-suc-le-zero}
use Rattle.evtchn_fifo.specs.Numbers.{number_at, put_number, numbers_at, put_numbers, value_at, put_value}

-- ---- one number

pub length_put : (k : ℕ) (s : List ℕ) (i v : ℕ) → length (put_number k s i v) ≡ length s
unfolding put_number
length_put zero s i v = length-set s i v
length_put (suc k) s i v = length_put k (set s i (v % 256)) (i + 1) (v / 256) ∙ length-set s i (v % 256)

byte_below : (k : ℕ) (s : List ℕ) (i v j : ℕ) → j < i → get_or (put_number k s i v) j 0 ≡ get_or s j 0
unfolding put_number
byte_below zero s i v j h = get_or-set_other s i j v 0 (λ e. omega arith)
byte_below (suc k) s i v j h = byte_below k (set s i (v % 256)) (i + 1) (v / 256) j (omega arith) ∙ get_or-set_other s i j (v % 256) 0 (λ e. omega arith)

byte_above : (k : ℕ) (s : List ℕ) (i v j : ℕ) → i + suc k ≤ j → get_or (put_number k s i v) j 0 ≡ get_or s j 0
unfolding put_number
byte_above zero s i v j h = get_or-set_other s i j v 0 (λ e. omega arith)
byte_above (suc k) s i v j h = byte_above k (set s i (v % 256)) (i + 1) (v / 256) j (omega arith) ∙ get_or-set_other s i j (v % 256) 0 (λ e. omega arith)

-- the number that was written
pub same : (k : ℕ) (s : List ℕ) (i v : ℕ) → i + suc k ≤ length s → number_at k (put_number k s i v) i ≡ v
unfolding put_number number_at
same zero s i v h = get_or-set_same s i v 0 (omega arith)
same (suc k) s i v h =
    let low = byte_below k (set s i (v % 256)) (i + 1) (v / 256) i (omega arith) ∙ get_or-set_same s i (v % 256) 0 (omega arith) in
    let high = same k (set s i (v % 256)) (i + 1) (v / 256) (rw (length-set s i (v % 256)) (omega arith)) in
    rw (low, high) (omega arith)

-- what stands before it, and after it
pub before : (j : ℕ) (k : ℕ) (s : List ℕ) (i v at : ℕ) → at + suc j ≤ i → number_at j (put_number k s i v) at ≡ number_at j s at
unfolding number_at
before zero k s i v at h = byte_below k s i v at (omega arith)
before (suc j) k s i v at h = rw (byte_below k s i v at (omega arith), before j k s i v (at + 1) (omega arith))

pub after : (j : ℕ) (k : ℕ) (s : List ℕ) (i v at : ℕ) → i + suc k ≤ at → number_at j (put_number k s i v) at ≡ number_at j s at
unfolding number_at
after zero k s i v at h = byte_above k s i v at h
after (suc j) k s i v at h = rw (byte_above k s i v at h, after j k s i v (at + 1) (omega arith))

-- what stands there, written again, where those are bytes
pub put_same_from : (k : ℕ) (s : List ℕ) (i : ℕ) → ((j : ℕ) → i ≤ j → get_or s j 0 < 256) → put_number k s i (number_at k s i) ≡ s
unfolding put_number number_at
put_same_from zero s i h = set-get_or s i 0
put_same_from (suc k) s i h =
    let b = h i (omega arith) in
    let low : (get_or s i 0 + 256 * number_at k s (i + 1)) % 256 ≡ get_or s i 0 = omega arith in
    let high : (get_or s i 0 + 256 * number_at k s (i + 1)) / 256 ≡ number_at k s (i + 1) = omega arith in
    rw (low, high, set-get_or s i 0) (put_same_from k s (i + 1) (λ j l. h j (omega arith)))

pub put_same : (k : ℕ) (s : List ℕ) (i : ℕ) → ((j : ℕ) → get_or s j 0 < 256) → put_number k s i (number_at k s i) ≡ s
put_same k s i h = put_same_from k s i (λ j l. h j)

-- ---- numbers one after another

pub numbers_length : (n k : ℕ) (s : List ℕ) (i : ℕ) → length (numbers_at k s i n) ≡ n
unfolding numbers_at
numbers_length zero k s i = refl
numbers_length (suc n) k s i = ap suc (numbers_length n k s (i + suc k))

pub numbers_before : (n j k : ℕ) (s : List ℕ) (i v at : ℕ) → at + n * suc j ≤ i → numbers_at j (put_number k s i v) at n ≡ numbers_at j s at n
unfolding numbers_at
numbers_before zero j k s i v at h = refl
numbers_before (suc n) j k s i v at h = rw (before j k s i v at (omega arith), numbers_before n j k s i v (at + suc j) (omega arith))

pub numbers_after : (n j k : ℕ) (s : List ℕ) (i v at : ℕ) → i + suc k ≤ at → numbers_at j (put_number k s i v) at n ≡ numbers_at j s at n
unfolding numbers_at
numbers_after zero j k s i v at h = refl
numbers_after (suc n) j k s i v at h = rw (after j k s i v at h, numbers_after n j k s i v (at + suc j) (omega arith))

pub number_in_lem : (n k : ℕ) (s : List ℕ) (i q : ℕ) → q < n → get_or (numbers_at k s i n) q 0 ≡ number_at k s (i + q * suc k)
unfolding numbers_at
number_in_lem zero k s i q h = omega arith
number_in_lem (suc n) k s i zero h = ap (number_at k s) (omega arith)
number_in_lem (suc n) k s i (suc q) h = number_in_lem n k s (i + suc k) q (omega arith) ∙ ap (number_at k s) (omega arith)

pub number_set : (n k : ℕ) (s : List ℕ) (i q v : ℕ) → q < n → i + n * suc k ≤ length s → numbers_at k (put_number k s (i + q * suc k) v) i n ≡ set (numbers_at k s i n) q v
unfolding numbers_at
number_set zero k s i q v h l = absurd (not-suc-le-zero h)
number_set (suc n) k s i zero v h l =
    let e : i + 0 * suc k ≡ i = omega arith in
    subst (λ (a : ℕ). numbers_at k (put_number k s a v) i (suc n) ≡ set (numbers_at k s i (suc n)) 0 v) (sym e)
    (rw (same k s i v (omega arith), numbers_after n k k s i v (i + suc k) (omega arith)))
number_set (suc n) k s i (suc q) v h l =
    let e : i + suc q * suc k ≡ i + suc k + q * suc k = omega arith in
    subst (λ (a : ℕ). numbers_at k (put_number k s a v) i (suc n) ≡ set (numbers_at k s i (suc n)) (suc q) v) (sym e)
    (rw (before k k s (i + suc k + q * suc k) v i (omega arith), number_set n k s (i + suc k) q v (omega arith) (omega arith)))

-- ---- numbers of four bytes at places that are known

-- read back from a record of some size
pub read_back : (size : ℕ) (s : List ℕ) (i v : ℕ) → leb size (length s) ≡ true → leb (i + 4) size ≡ true → number_at 3 (put_number 3 s i v) i ≡ v
read_back size s i v h t =
    let l = leb-true size (length s) h in
    let u = leb-true (i + 4) size t in
    same 3 s i v (omega arith)

pub kept_before : (s : List ℕ) (i v at : ℕ) → leb (at + 4) i ≡ true → number_at 3 (put_number 3 s i v) at ≡ number_at 3 s at
kept_before s i v at h = before 3 3 s i v at (leb-true (at + 4) i h)

pub kept_after : (s : List ℕ) (i v at : ℕ) → leb (i + 4) at ≡ true → number_at 3 (put_number 3 s i v) at ≡ number_at 3 s at
kept_after s i v at h = after 3 3 s i v at (leb-true (i + 4) at h)

pub numbers_kept : (s : List ℕ) (i v at : ℕ) → leb (at + 64) i ≡ true → numbers_at 3 (put_number 3 s i v) at 16 ≡ numbers_at 3 s at 16
numbers_kept s i v at h = numbers_before 16 3 3 s i v at (leb-true (at + 64) i h)

-- ---- a number a queue

value_by : (base : ℕ) (s : List ℕ) (q : ℕ) (b : Bool) → ltb q 16 ≡ b → value_at base s q ≡ get_or (numbers_at 3 s base 16) q 0
unfolding value_at
value_by base s q true e = rw e (sym (number_in_lem 16 3 s base q (ltb-true q 16 e)))
value_by base s q false e = rw e (sym (get_or-eq_default (numbers_at 3 s base 16) 0 {n = q} (rw (numbers_length 16 3 s base) (ltb-false q 16 e))))

pub value_is : (base : ℕ) (s : List ℕ) (q : ℕ) → value_at base s q ≡ get_or (numbers_at 3 s base 16) q 0
value_is base s q = value_by base s q (ltb q 16) refl

values_by : (base : ℕ) (s : List ℕ) (q v : ℕ) (b : Bool) → ltb q 16 ≡ b → base + 64 ≤ length s → numbers_at 3 (put_value base s q v) base 16 ≡ set (numbers_at 3 s base 16) q v
unfolding put_value
values_by base s q v true e h = rw e (number_set 16 3 s base q v (ltb-true q 16 e) h)
values_by base s q v false e h = rw (e, set_out (numbers_at 3 s base 16) q v (rw (numbers_length 16 3 s base) (ltb-false q 16 e)))

pub values_set : (base : ℕ) (s : List ℕ) (q v : ℕ) → base + 64 ≤ length s → numbers_at 3 (put_value base s q v) base 16 ≡ set (numbers_at 3 s base 16) q v
values_set base s q v h = values_by base s q v (ltb q 16) refl h

length_by : (base : ℕ) (s : List ℕ) (q v : ℕ) (b : Bool) → ltb q 16 ≡ b → length (put_value base s q v) ≡ length s
unfolding put_value
length_by base s q v true e = rw (e, length_put 3 s (base + q * 4) v)
length_by base s q v false e = rw e

pub length_value : (base : ℕ) (s : List ℕ) (q v : ℕ) → length (put_value base s q v) ≡ length s
length_value base s q v = length_by base s q v (ltb q 16) refl

-- the sixteen, after one of them was written
pub value_set : (base : ℕ) (s : List ℕ) (q v p : ℕ) → base + 64 ≤ length s → value_at base (put_value base s q v) p ≡ get_or (set (numbers_at 3 s base 16) q v) p 0
value_set base s q v p h = value_is base (put_value base s q v) p ∙ ap (λ (l : List ℕ). get_or l p 0) (values_set base s q v h)

pub value_other : (base : ℕ) (s : List ℕ) (q v p : ℕ) → base + 64 ≤ length s → eqb q p ≡ false → value_at base (put_value base s q v) p ≡ value_at base s p
value_other base s q v p h e =
    value_set base s q v p h ∙ get_or-set_other (numbers_at 3 s base 16) q p v 0 (λ x. eqb-false q p e (sym x)) ∙ sym (value_is base s p)

-- what stands elsewhere
apart_by : (base : ℕ) (s : List ℕ) (q v at : ℕ) (b : Bool) → ltb q 16 ≡ b → (at + 4 ≤ base) ⊎ (base + 64 ≤ at) → number_at 3 (put_value base s q v) at ≡ number_at 3 s at
unfolding put_value
apart_by base s q v at false e h = rw e
apart_by base s q v at true e h =
    let l = ltb-true q 16 e in
    rw e
    (⊎_elim
    (λ (x : at + 4 ≤ base). before 3 3 s (base + q * 4) v at (omega arith))
    (λ (x : base + 64 ≤ at). after 3 3 s (base + q * 4) v at (omega arith))
    h)

pub value_before : (base : ℕ) (s : List ℕ) (q v at : ℕ) → leb (at + 4) base ≡ true → number_at 3 (put_value base s q v) at ≡ number_at 3 s at
value_before base s q v at h = apart_by base s q v at (ltb q 16) refl (inl (leb-true (at + 4) base h))

pub value_after : (base : ℕ) (s : List ℕ) (q v at : ℕ) → leb (base + 64) at ≡ true → number_at 3 (put_value base s q v) at ≡ number_at 3 s at
value_after base s q v at h = apart_by base s q v at (ltb q 16) refl (inr (leb-true (base + 64) at h))

byte_by : (base : ℕ) (s : List ℕ) (q v j : ℕ) (b : Bool) → ltb q 16 ≡ b → base + 64 ≤ j → get_or (put_value base s q v) j 0 ≡ get_or s j 0
unfolding put_value
byte_by base s q v j true e h = let l = ltb-true q 16 e in rw e (byte_above 3 s (base + q * 4) v j (omega arith))
byte_by base s q v j false e h = rw e

pub byte_after : (base : ℕ) (s : List ℕ) (q v j : ℕ) → base + 64 ≤ j → get_or (put_value base s q v) j 0 ≡ get_or s j 0
byte_after base s q v j h = byte_by base s q v j (ltb q 16) refl h

-- ---- numbers written one after another

pub length_puts : (l : List ℕ) (k : ℕ) (s : List ℕ) (i : ℕ) → length (put_numbers k s i l) ≡ length s
unfolding put_numbers
length_puts [] k s i = refl
length_puts (v ∷ l) k s i = length_puts l k (put_number k s i v) (i + suc k) ∙ length_put k s i v

below_puts : (l : List ℕ) (j k : ℕ) (s : List ℕ) (i at : ℕ) → at + suc j ≤ i → number_at j (put_numbers k s i l) at ≡ number_at j s at
unfolding put_numbers
below_puts [] j k s i at h = refl
below_puts (v ∷ l) j k s i at h = below_puts l j k (put_number k s i v) (i + suc k) at (omega arith) ∙ before j k s i v at h

pub kept_below : (l s : List ℕ) (i at : ℕ) → leb (at + 4) i ≡ true → number_at 3 (put_numbers 3 s i l) at ≡ number_at 3 s at
kept_below l s i at h = below_puts l 3 3 s i at (leb-true (at + 4) i h)

pub puts_back : (l : List ℕ) (k : ℕ) (s : List ℕ) (i : ℕ) → i + length l * suc k ≤ length s → numbers_at k (put_numbers k s i l) i (length l) ≡ l
unfolding put_numbers numbers_at
puts_back [] k s i h = refl
puts_back (v ∷ l) k s i h =
    rw (below_puts l k k (put_number k s i v) (i + suc k) i (omega arith), same k s i v (omega arith), puts_back l k (put_number k s i v) (i + suc k) (rw (length_put k s i v) (omega arith)))

pub sixteen_back : (size : ℕ) (l s : List ℕ) (i : ℕ) → length l ≡ 16 → leb size (length s) ≡ true → leb (i + 64) size ≡ true → numbers_at 3 (put_numbers 3 s i l) i 16 ≡ l
sixteen_back size l s i n h t =
    let a = leb-true size (length s) h in
    let b = leb-true (i + 64) size t in
    ap (λ (m : ℕ). numbers_at 3 (put_numbers 3 s i l) i m) (sym n) ∙ puts_back l 3 s i (rw n (omega arith))
