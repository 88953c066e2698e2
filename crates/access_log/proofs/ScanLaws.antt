-- What the reader's scans of a text make of it: where a field ends, two texts side by side, digits one by one.
-- Assumes nothing.
use Prim.Native.Nat.{ℕ, suc, ◌+◌, ◌*◌, ◌-◌, ◌%◌, ◌^◌, ◌<◌, ◌≤◌}
use native.Mathlib.Numerals.{add-one}
use native.Mathlib.Omega.{arith}
use mathlib.Core.Path.{◌≡◌, refl, ap, ◌∙◌, sym}
use mathlib.Core.Bool.{Bool, true, false, cond, ◌&&◌}
use mathlib.Core.List.{List, [], ◌∷◌}
use lib.Dec.{ltb, eqb}
use borrow.Author.Tests.{ltb-true, ltb-false}
use lib.Pointwise.{pointwise}
use Rattle.std.specs.List.{fold, position, position_or_len}
use Rattle.std.specs.Prelude.{Some, None}
use Rattle.std.proofs.lemmas.Bool.Decides.{nat_tests}
use lib.ListN.{length, take, drop, length-drop}
use lib.Seq.{take_all}
use Rattle.access_log.specs.Read.{field, after, digit_value, value, value_from}
use Rattle.access_log.specs.Text.{same}

-- ---- where a field ends

ends_by : (c : ℕ) (s : List ℕ) → position_or_len (λ b. ltb b 32) s ≡ length (field s) →
    position_or_len (λ b. ltb b 32) (c ∷ s) ≡ length (field (c ∷ s))
unfolding field
ends_by c s h = grind (arith, nat_tests)

field_ends : (s : List ℕ) → position_or_len (λ b. ltb b 32) s ≡ length (field s)
unfolding field
field_ends [] = refl
field_ends (c ∷ s) = ends_by c s (field_ends s)

-- ---- a field, and what follows it, as parts of the text

take_by : (more : Bool) (c : ℕ) (s : List ℕ) → take (length (field s)) s ≡ field s →
    take (length (cond more (c ∷ field s) [])) (c ∷ s) ≡ cond more (c ∷ field s) []
take_by true c s h = ap (λ (x : List ℕ). c ∷ x) h
take_by false c s h = refl

field_take : (s : List ℕ) → take (length (field s)) s ≡ field s
unfolding field
field_take [] = refl
field_take (c ∷ s) = take_by (ltb 31 c) c s (field_take s)

drop_by : (more : Bool) (c : ℕ) (s : List ℕ) →
    (length (field s) < length s → drop (suc (length (field s))) s ≡ after s) →
    length (cond more (c ∷ field s) []) < suc (length s) →
    drop (length (cond more (c ∷ field s) [])) s ≡ cond more (after s) s
drop_by true c s f h = f (omega arith)
drop_by false c s f h = refl

after_drop : (s : List ℕ) → length (field s) < length s → drop (suc (length (field s))) s ≡ after s
unfolding field after
after_drop [] h = absurd (omega arith)
after_drop (c ∷ s) h = drop_by (ltb 31 c) c s (after_drop s) h

none_by : (more : Bool) (c : ℕ) (s : List ℕ) → (length s ≤ length (field s) → after s ≡ []) →
    suc (length s) ≤ length (cond more (c ∷ field s) []) → cond more (after s) s ≡ []
none_by true c s f h = f (omega arith)
none_by false c s f h = absurd (omega arith)

after_none : (s : List ℕ) → length s ≤ length (field s) → after s ≡ []
unfolding field after
after_none [] h = refl
after_none (c ∷ s) h = none_by (ltb 31 c) c s (after_none s) h

-- the part of a text from a place to its end
rest_part : (s : List ℕ) (n : ℕ) → take (length s - n) (drop n s) ≡ drop n s
rest_part s n = take_all (length s - n) (drop n s) (simp length-drop (omega arith))

after_part : (s : List ℕ) (n : ℕ) → n ≡ length (field s) → n < length s →
    take (length s - (n + 1)) (drop (n + 1) s) ≡ after s
after_part s n e h =
    rest_part s (n + 1) ∙ rw add-one (ap (λ (x : ℕ). drop (suc x) s) e ∙ after_drop s (omega arith))

-- ---- two texts, side by side

heads : (a b : Bool) → (a && b) ≡ cond a b false
heads true b = refl
heads false b = refl

pub same_bytes : (s t : List ℕ) → pointwise eqb s t ≡ same s t
unfolding same
same_bytes [] [] = refl
same_bytes [] (d ∷ t) = refl
same_bytes (c ∷ s) [] = refl
same_bytes (c ∷ s) (d ∷ t) = heads (eqb c d) (pointwise eqb s t) ∙ simp (same_bytes s t)

-- ---- a text split at the end of its first field

split_by : (b : Bool) (m n k : ℕ) → ltb m k ≡ b → cond b (Some m) None ≡ Some n → (n ≡ m) × (n < k)
split_by true m n k e h = let i : n ≡ m = cc in (i, omega (arith, ltb-true m k e))
split_by false m n k e h = cc

whole_by : (b : Bool) (m k : ℕ) → ltb m k ≡ b → cond b (Some m) None ≡ None → k ≤ m
whole_by true m k e h = cc
whole_by false m k e h = omega (arith, ltb-false m k e)

end_at : (s : List ℕ) (n : ℕ) → position (λ b. ltb b 32) s ≡ Some n → (n ≡ length (field s)) × (n < length s)
end_at s n h =
    let e = split_by _ (position_or_len (λ b. ltb b 32) s) n (length s) refl h in
    (e.0 ∙ field_ends s, e.1)

no_end : (s : List ℕ) → position (λ b. ltb b 32) s ≡ None → length s ≤ length (field s)
no_end s h = omega (arith, field_ends s, whole_by _ (position_or_len (λ b. ltb b 32) s) (length s) refl h)

pub field_split : (s : List ℕ) (n : ℕ) → position (λ b. ltb b 32) s ≡ Some n → take n s ≡ field s
field_split s n h = rw (end_at s n h).0 (field_take s)

pub after_split : (s : List ℕ) (n : ℕ) → position (λ b. ltb b 32) s ≡ Some n → take (length s - (n + 1)) (drop (n + 1) s) ≡ after s
after_split s n h = after_part s n (end_at s n h).0 (end_at s n h).1

pub field_whole : (s : List ℕ) → position (λ b. ltb b 32) s ≡ None → s ≡ field s
field_whole s h = sym (take_all (length (field s)) s (no_end s h)) ∙ field_take s

pub after_whole : (s : List ℕ) → position (λ b. ltb b 32) s ≡ None → [] ≡ after s
after_whole s h = sym (after_none s (no_end s h))

-- ---- digits, one by one

folds_from : (base n : ℕ) (s : List ℕ) → fold (λ m c. (m * base + digit_value c) % 2 ^ 32) n s ≡ value_from base n s
unfolding value_from
folds_from base n [] = refl
folds_from base n (c ∷ s) = folds_from base ((n * base + digit_value c) % 2 ^ 32) s

pub value_folds : (base : ℕ) (s : List ℕ) → fold (λ m c. (m * base + digit_value c) % 2 ^ 32) 0 s ≡ value base s
unfolding value
value_folds base s = folds_from base 0 s
