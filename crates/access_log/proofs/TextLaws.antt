-- What appending makes of a text: one list after another, and the text of a list that fits.
-- Assumes nothing.
use mathlib.Core.Path.{◌≡◌, refl, ◌∙◌}
use mathlib.Core.List.{List, [], ◌∷◌, ◌++◌}
use Prim.Native.Nat.{ℕ, ◌+◌, ◌≤◌, ◌<◌}
use native.Mathlib.Nat.{add-zero, zero-add, add-suc, suc-add}
use native.Mathlib.Numerals.{add-one}
use native.Mathlib.Omega.{arith}
use lib.ListN.{length, get_or, take, drop, set, length-set}
use lib.Seq.{drop-cons, sets, sets-eq, length-sets, take-append_seam}
use borrow.Author.Tests.{lt-ltb}
use Rattle.access_log.specs.declared.line.row.Field.{Field}
use Rattle.access_log.specs.Line.{tab}
use Rattle.access_log.specs.Line.Parts.{field_of, fields_of}
use Rattle.access_log.specs.Text.{Text, text, with_byte, with_bytes}

pub with_append : (t : Text) (a b : List ℕ) → with_bytes t (a ++ b) ≡ with_bytes (with_bytes t a) b
unfolding with_bytes
with_append t [] b = refl
with_append t (x ∷ a) b = with_append (with_byte t x) a b

-- one more byte of a list
pub bytes_next : (t : Text) (bs : List ℕ) (i d : ℕ) → i < length bs → with_bytes (with_bytes t (get_or bs i d ∷ [])) (drop (i + 1) bs) ≡ with_bytes t (drop i bs)
unfolding with_bytes
bytes_next t bs i d h = rw (drop-cons bs i d, add-one) refl

-- ---- the fields of a row

-- one more field, after its tab
pub fields_next : (t : Text) (fs : List Field) (i : ℕ) (d : Field) → i < length fs →
    with_bytes (with_bytes (with_bytes t (tab ∷ [])) (field_of (get_or fs i d))) (fields_of (drop (i + 1) fs)) ≡ with_bytes t (fields_of (drop i fs))
unfolding with_bytes fields_of
fields_next t fs i d h = rw (drop-cons fs i d, add-one) (simp with_append)

-- ---- the text of a list that fits

stored : Text → List ℕ → Text
stored t bs = record { bytes = sets t.bytes t.len bs; len = t.len + length bs }

fits : (t : Text) (bs : List ℕ) → t.len + length bs ≤ length t.bytes → with_bytes t bs ≡ stored t bs
unfolding with_bytes with_byte stored
fits t [] h = simp add-zero
fits t (b ∷ bs) h =
    simp (lt-ltb t.len (length t.bytes) (omega arith))
    (fits (record { bytes = set t.bytes t.len b; len = t.len + 1 }) bs (omega (arith, length-set t.bytes t.len b)) ∙ simp (add-one, add-suc, suc-add))

-- ---- a line in a buffer of 64 bytes

-- t is the text of bs
pub record Holds (t : Text) (bs : List ℕ) : Type 0 where
  pub len : t.len ≡ length bs
  pub bytes : take (length bs) t.bytes ≡ bs
  pub within : t.len ≤ length t.bytes

stored_holds : (out bs : List ℕ) → length out ≡ 64 → length bs ≤ 64 → Holds (stored (text out 0) bs) bs
unfolding stored text
stored_holds out bs e h = record {
  len = zero-add (length bs);
  bytes = rw (sets-eq bs out 0 (omega arith)) (take-append_seam bs _);
  within = omega (arith, length-sets out 0 bs);
}

-- written to the start of a buffer of 64 bytes
pub holds : {t : Text} {bs : List ℕ} (out : List ℕ) → length out ≡ 64 → t ≡ with_bytes (text out 0) bs → length bs ≤ 53 → Holds t bs
unfolding text
holds {t} {bs} out k e h = rw (e, fits (text out 0) bs (omega arith)) (stored_holds out bs k (omega arith))
