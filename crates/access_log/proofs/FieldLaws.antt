-- Texts and fields: the field that a text starts with, what follows it, and texts that are the same.
-- Assumes nothing.
use Prim.Native.Nat.{ℕ, ◌<◌}
use mathlib.Core.Path.{◌≡◌, refl}
use mathlib.Core.Bool.{Bool, true, false, cond}
use mathlib.Core.List.{List, [], ◌∷◌, ◌++◌}
use lib.Dec.{ltb, eqb}
use borrow.Author.Tests.{lt-ltb, eq-eqb, eqb-true}
use Rattle.access_log.specs.Read.{field, after}
use Rattle.access_log.specs.Text.{same}

-- no byte of the text ends a field
unfoldable pub plain : List ℕ → Bool
plain [] = true
plain (c ∷ s) = cond (ltb 31 c) (plain s) false

both : (a b : Bool) → a ≡ true → b ≡ true → cond a b false ≡ true
both true b p q = q
both false b p q = p

pub tail_of_lem : (a b : Bool) → cond a b false ≡ true → b ≡ true
tail_of_lem true b p = p
tail_of_lem false b p = let z : ◌≡◌ {A = Bool} true false = cc in cc

pub head_of : (a b : Bool) → cond a b false ≡ true → a ≡ true
head_of true b p = refl
head_of false b p = p

pub plain_more : (s : List ℕ) (c : ℕ) → plain s ≡ true → 31 < c → plain (s ++ c ∷ []) ≡ true
unfolding plain
plain_more [] c p h = simp (lt-ltb 31 c h)
plain_more (x ∷ s) c p h = both _ _ (head_of (ltb 31 x) (plain s) p) (plain_more s c (tail_of_lem (ltb 31 x) (plain s) p) h)

-- a plain text and the byte that ends it
pub field_of : (s : List ℕ) (c : ℕ) (rest : List ℕ) → plain s ≡ true → ltb 31 c ≡ false → field (s ++ c ∷ rest) ≡ s
unfolding field plain
field_of [] c rest p h = simp h
field_of (x ∷ s) c rest p h = simp (head_of (ltb 31 x) (plain s) p, field_of s c rest (tail_of_lem (ltb 31 x) (plain s) p) h)

pub after_of : (s : List ℕ) (c : ℕ) (rest : List ℕ) → plain s ≡ true → ltb 31 c ≡ false → after (s ++ c ∷ rest) ≡ rest
unfolding after plain
after_of [] c rest p h = simp h
after_of (x ∷ s) c rest p h = simp (head_of (ltb 31 x) (plain s) p, after_of s c rest (tail_of_lem (ltb 31 x) (plain s) p) h)

-- ---- the same text

pub same_self : (s : List ℕ) → same s s ≡ true
unfolding same
same_self [] = refl
same_self (c ∷ s) = simp (eq-eqb c c refl, same_self s)

same_by : (b : Bool) (c d : ℕ) (s t : List ℕ) → eqb c d ≡ b → (same s t ≡ true → s ≡ t) → cond b (same s t) false ≡ true → c ∷ s ≡ d ∷ t
same_by true c d s t e f h = simp (eqb-true c d e, f h)
same_by false c d s t e f h = let z : ◌≡◌ {A = Bool} false true = h in cc

pub same_eq : (s t : List ℕ) → same s t ≡ true → s ≡ t
unfolding same
same_eq [] [] h = refl
same_eq [] (d ∷ t) h = let z : ◌≡◌ {A = Bool} false true = h in cc
same_eq (c ∷ s) [] h = let z : ◌≡◌ {A = Bool} false true = h in cc
same_eq (c ∷ s) (d ∷ t) h = same_by (eqb c d) c d s t refl (same_eq s t) h
