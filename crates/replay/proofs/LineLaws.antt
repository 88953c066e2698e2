-- A line's bytes end in their only newline, so a log written line by line is cut into those lines again.
-- Assumes nothing.
use Prim.Native.Nat.{ℕ}
use native.Mathlib.Omega.{arith}
use mathlib.Core.Path.{◌≡◌, refl, ap, ◌∙◌}
use mathlib.Core.Bool.{Bool, true, false}
use mathlib.Core.List.{List, [], ◌∷◌, ◌++◌, map}
use lib.Dec.{eqb, ltb}
use borrow.Author.Tests.{eqb-true, ltb-true}
use Rattle.calls.specs.declared.types.Access.{Access}
use Rattle.calls.specs.declared.types.Access.TheVariants.{Read, Store, Or, And, Swap, Cas}
use Rattle.machine.specs.declared.types.Side.{Side}
use Rattle.access_log.specs.declared.line.LoggedCall.{LoggedCall}
use Rattle.access_log.specs.declared.line.LoggedCall.TheVariants.{InitControl, ExpandArray, Bind, Close, SetPriority, Raise, Unmask, Service, Mask, ClearMask}
use Rattle.access_log.specs.declared.line.Line.{Line}
use Rattle.access_log.specs.declared.line.Line.TheVariants as line
use Rattle.access_log.specs.Line.{ascii, newline, row, access_bytes, call_bytes, bytes_of}
use Rattle.access_log.proofs.FieldLaws.{plain, head_of, tail_of_lem}
use Rattle.access_log.proofs.NumberLaws.{hex_plain, decimal_plain}
use Rattle.access_log.proofs.GuessLaws.{side_plain, place_plain}
use Rattle.replay.specs.Replay.{lines_of}
use Rattle.replay.specs.Claims.{log_text}

-- ---- a text whose only newline is its last byte

pub data IsLine : List ℕ → Type 0 where
  last : IsLine (newline ∷ [])
  more : {b : ℕ} {s : List ℕ} → eqb b newline ≡ false → IsLine s → IsLine (b ∷ s)

-- ---- every line's bytes are one

above_by : (t : Bool) (b : ℕ) → eqb b newline ≡ t → ltb 31 b ≡ true → eqb b newline ≡ false
above_by true b e h = absurd (omega (arith, eqb-true b newline e, ltb-true 31 b h))
above_by false b e h = e

plain_line : (s : List ℕ) {rest : List ℕ} → plain s ≡ true → IsLine rest → IsLine (s ++ rest)
unfolding plain
plain_line [] p r = r
plain_line (b ∷ s) p r =
    more (above_by (eqb b newline) b refl (head_of (ltb 31 b) (plain s) p)) (plain_line s (tail_of_lem (ltb 31 b) (plain s) p) r)

row_line : (s : Side) (g h i j k : List ℕ) → plain g ≡ true → plain h ≡ true → plain i ≡ true → plain j ≡ true → plain k ≡ true →
    IsLine (row s g h i j k)
unfolding row
row_line s g h i j k pg ph pi pj pk =
    plain_line _ (side_plain s) (more refl (plain_line g pg (more refl (plain_line h ph (more refl
    (plain_line i pi (more refl (plain_line j pj (more refl (plain_line k pk last))))))))))

access_line_lem : (s : Side) (a : Access) (seen : ℕ) → IsLine (access_bytes s a seen)
unfolding access_bytes plain
access_line_lem s (Read p) seen = row_line s _ _ _ _ _ refl (place_plain p) refl refl (hex_plain seen)
access_line_lem s (Store p v) seen = row_line s _ _ _ _ _ refl (place_plain p) refl (hex_plain v) refl
access_line_lem s (Or p v) seen = row_line s _ _ _ _ _ refl (place_plain p) refl (hex_plain v) (hex_plain seen)
access_line_lem s (And p v) seen = row_line s _ _ _ _ _ refl (place_plain p) refl (hex_plain v) (hex_plain seen)
access_line_lem s (Swap p v) seen = row_line s _ _ _ _ _ refl (place_plain p) refl (hex_plain v) (hex_plain seen)
access_line_lem s (Cas p old new) seen = row_line s _ _ _ _ _ refl (place_plain p) (hex_plain old) (hex_plain new) (hex_plain seen)

call_line : (c : LoggedCall) → IsLine (call_bytes c)
unfolding call_bytes plain
call_line (InitControl v f o) = row_line _ _ _ _ _ _ refl refl (decimal_plain v) (decimal_plain f) (decimal_plain o)
call_line (ExpandArray f) = row_line _ _ _ _ _ _ refl refl refl (decimal_plain f) refl
call_line (Bind p) = row_line _ _ _ _ _ _ refl refl (decimal_plain p.0) refl refl
call_line (Close p) = row_line _ _ _ _ _ _ refl refl (decimal_plain p.0) refl refl
call_line (SetPriority p r) = row_line _ _ _ _ _ _ refl refl (decimal_plain p.0) (decimal_plain r.0) refl
call_line (Raise p) = row_line _ _ _ _ _ _ refl refl (decimal_plain p.0) refl refl
call_line (Unmask p) = row_line _ _ _ _ _ _ refl refl (decimal_plain p.0) refl refl
call_line Service = row_line _ _ _ _ _ _ refl refl refl refl refl
call_line (Mask p) = row_line _ _ _ _ _ _ refl refl (decimal_plain p.0) refl refl
call_line (ClearMask p) = row_line _ _ _ _ _ _ refl refl (decimal_plain p.0) refl refl

pub line_of : (l : Line) → IsLine (bytes_of l)
unfolding bytes_of plain
line_of line.Header = plain_line (ascii "accesses") refl (more refl (plain_line (ascii "1") refl last))
line_of (line.Access s a seen) = access_line_lem s a seen
line_of (line.Answer s n) = row_line s _ _ _ _ _ refl (decimal_plain n) refl refl refl
line_of (line.PortAnswer s n p) = row_line s _ _ _ _ _ refl (decimal_plain n) (decimal_plain p.0) refl refl
line_of (line.Call c) = call_line c

-- ---- a line, and a log, cut again

pub cut_line : {s : List ℕ} (rest : List ℕ) → IsLine s → lines_of (s ++ rest) ≡ s ∷ lines_of rest
unfolding lines_of
cut_line rest last = refl
cut_line rest (more e h) = simp (e, cut_line rest h)

pub line_then_lem : (l : Line) (rest : List ℕ) → lines_of (bytes_of l ++ rest) ≡ bytes_of l ∷ lines_of rest
line_then_lem l rest = cut_line rest (line_of l)

pub lines_of_log : (ls : List Line) → lines_of (log_text ls) ≡ map bytes_of ls
unfolding lines_of log_text
lines_of_log [] = refl
lines_of_log (l ∷ ls) = line_then_lem l (log_text ls) ∙ ap (λ (t : List (List ℕ)). bytes_of l ∷ t) (lines_of_log ls)
