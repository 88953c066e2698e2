-- What kind of line a text is read as, and of which side, stands in its first two fields: no number in it bears on that.
-- Assumes nothing.
use Rattle.std.specs.Prelude.{None, Some}
use Prim.Native.Nat.{ℕ}
use native.Mathlib.Omega.{arith}
use mathlib.Core.Path.{◌≡◌, refl, ap, ◌∙◌}
use mathlib.Core.Bool.{Bool, true, false, cond}
use mathlib.Core.List.{List}
use Rattle.word.specs.Word.{port_at}
use Rattle.word.specs.declared.Port.{Port}
use Rattle.calls.specs.declared.types.Access.{Access}
use Rattle.calls.specs.declared.types.Access.TheVariants.{Read, Store, Or, And, Swap, Cas}
use Rattle.machine.specs.declared.types.Side.{Side}
use Rattle.machine.specs.declared.types.Side.TheVariants.{Guest}
use Rattle.access_log.specs.declared.line.LoggedCall.{LoggedCall}
use Rattle.access_log.specs.declared.line.LoggedCall.TheVariants.{InitControl, ExpandArray, Bind, Close, SetPriority, Raise, Unmask, Service, Mask, ClearMask}
use Rattle.access_log.specs.declared.line.Line.{Line}
use Rattle.access_log.specs.declared.line.Line.TheVariants as line
use Rattle.access_log.specs.declared.read.Kind.TheVariants as kind
use Rattle.access_log.specs.Line.{ascii, dash, decimal, carries_port, row, access_bytes, call_bytes, bytes_of}
use Rattle.access_log.specs.Read.{field, value, guess_from, guess, kind_of, read_line}
use Rattle.access_log.specs.Text.{same}
use Rattle.access_log.proofs.FieldLaws.{plain}
use Rattle.access_log.proofs.NumberLaws.{hex_plain, decimal_plain}
use Rattle.access_log.proofs.GuessLaws.{fields, no_header, side_back, place_plain}

-- ---- the guess is of the kind of the line that was written

access_kind : (s : Side) (a : Access) (seen : ℕ) → kind_of (guess (access_bytes s a seen)) ≡ kind.Access s
unfolding access_bytes guess_from same plain
access_kind s (Read p) seen = ap kind_of (fields s _ _ _ _ _ refl (place_plain p) refl refl (hex_plain seen)) ∙ simp (no_header s, side_back s)
access_kind s (Store p v) seen = ap kind_of (fields s _ _ _ _ _ refl (place_plain p) refl (hex_plain v) refl) ∙ simp (no_header s, side_back s)
access_kind s (Or p v) seen = ap kind_of (fields s _ _ _ _ _ refl (place_plain p) refl (hex_plain v) (hex_plain seen)) ∙ simp (no_header s, side_back s)
access_kind s (And p v) seen = ap kind_of (fields s _ _ _ _ _ refl (place_plain p) refl (hex_plain v) (hex_plain seen)) ∙ simp (no_header s, side_back s)
access_kind s (Swap p v) seen = ap kind_of (fields s _ _ _ _ _ refl (place_plain p) refl (hex_plain v) (hex_plain seen)) ∙ simp (no_header s, side_back s)
access_kind s (Cas p old new) seen = ap kind_of (fields s _ _ _ _ _ refl (place_plain p) (hex_plain old) (hex_plain new) (hex_plain seen)) ∙ simp (no_header s, side_back s)

by_port : (b : Bool) (s : Side) (number : ℕ) (port : Port) → kind_of (cond b (line.PortAnswer s number port) (line.Answer s number)) ≡ kind.Answer
by_port true s number port = refl
by_port false s number port = refl

answer_kind : (s : Side) (n : ℕ) (i : List ℕ) → plain i ≡ true → kind_of (guess (row s (ascii "answer") (decimal n) i dash dash)) ≡ kind.Answer
unfolding guess_from same plain
answer_kind s n i h =
    ap kind_of (fields s _ _ _ _ _ refl (decimal_plain n) h refl refl)
    ∙ simp (no_header s) (by_port (carries_port (value 10 (decimal n))) _ _ _)

call_kind_of : (s : Side) (h i j k : List ℕ) → plain h ≡ true → plain i ≡ true → plain j ≡ true → plain k ≡ true →
    kind_of (guess (row s (ascii "call") h i j k)) ≡ kind.Call
unfolding guess_from same plain
call_kind_of s h i j k ph pi pj pk = ap kind_of (fields s _ h i j k refl ph pi pj pk) ∙ simp (no_header s)

call_kind : (c : LoggedCall) → kind_of (guess (call_bytes c)) ≡ kind.Call
unfolding call_bytes plain
call_kind (InitControl v f o) = call_kind_of _ _ _ _ _ refl (decimal_plain v) (decimal_plain f) (decimal_plain o)
call_kind (ExpandArray f) = call_kind_of _ _ _ _ _ refl refl (decimal_plain f) refl
call_kind (Bind p) = call_kind_of _ _ _ _ _ refl (decimal_plain p.0) refl refl
call_kind (Close p) = call_kind_of _ _ _ _ _ refl (decimal_plain p.0) refl refl
call_kind (SetPriority p r) = call_kind_of _ _ _ _ _ refl (decimal_plain p.0) (decimal_plain r.0) refl
call_kind (Raise p) = call_kind_of _ _ _ _ _ refl (decimal_plain p.0) refl refl
call_kind (Unmask p) = call_kind_of _ _ _ _ _ refl (decimal_plain p.0) refl refl
call_kind Service = call_kind_of _ _ _ _ _ refl refl refl refl
call_kind (Mask p) = call_kind_of _ _ _ _ _ refl (decimal_plain p.0) refl refl
call_kind (ClearMask p) = call_kind_of _ _ _ _ _ refl (decimal_plain p.0) refl refl

pub kind_kept : (l : Line) → kind_of (guess (bytes_of l)) ≡ kind_of l
unfolding bytes_of guess guess_from same field plain
kind_kept line.Header = refl
kind_kept (line.Access s a seen) = access_kind s a seen
kind_kept (line.Answer s n) = answer_kind s n dash refl
kind_kept (line.PortAnswer s n p) = answer_kind s n (decimal p.0) (decimal_plain p.0)
kind_kept (line.Call c) = call_kind c

-- a mask's line is guessed to be a mask's
pub mask_kept : (p : Port) → guess (bytes_of (line.Call (Mask p))) ≡ line.Call (Mask (port_at (value 10 (decimal p.0))))
unfolding bytes_of call_bytes guess_from same plain
mask_kept p = fields Guest _ _ _ _ _ refl refl (decimal_plain p.0) refl refl ∙ simp (no_header Guest)

-- ---- what is read is the guess

read_by : (b : Bool) (g l : Line) → cond b (Some g) None ≡ Some l → g ≡ l
read_by true g l e = cc
read_by false g l e = absurd (let z : ◌≡◌ {A = ℕ} 0 1 = cc in omega arith)

pub read_guess : (s : List ℕ) (l : Line) → read_line s ≡ Some l → guess s ≡ l
unfolding read_line
read_guess s l e = read_by (same (bytes_of (guess s)) s) (guess s) l e
