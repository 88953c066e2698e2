-- What the reader guesses from the bytes of a legal line is that line.
-- Assumes nothing.
use Prim.Native.Nat.{ℕ, ◌<◌, ◌^◌}
use mathlib.Core.Path.{◌≡◌, refl, ap, ◌∙◌}
use mathlib.Core.Bool.{true, false}
use mathlib.Core.List.{List}
use Rattle.calls.specs.declared.types.Place.{Place}
use Rattle.calls.specs.declared.types.Place.TheVariants as place
use Rattle.calls.specs.declared.types.Access.{Access}
use Rattle.calls.specs.declared.types.Access.TheVariants.{Read, Store, Or, And, Swap, Cas}
use Rattle.machine.specs.declared.types.Side.{Side}
use Rattle.machine.specs.declared.types.Side.TheVariants.{Hypervisor, Guest}
use Rattle.word.specs.Word.{port_at, queue_at}
use Rattle.access_log.specs.declared.line.LoggedCall.{LoggedCall}
use Rattle.access_log.specs.declared.line.LoggedCall.TheVariants.{InitControl, ExpandArray, Bind, Close, SetPriority, Raise, Unmask, Service, Mask, ClearMask}
use Rattle.access_log.specs.declared.line.Line.{Line}
use Rattle.access_log.specs.declared.line.Line.TheVariants as line
use Rattle.access_log.specs.Line.{ascii, decimal, dash, side_of, place_of, row, access_bytes, call_bytes, bytes_of, carries_port, LegalPlace, LegalAccess, LegalCall, Legal}
use Rattle.access_log.specs.Read.{field, after, guess_side, guess_place, guess_from, guess}
use Rattle.access_log.specs.Text.{same}
use Rattle.access_log.proofs.FieldLaws.{plain, field_of, after_of}
use Rattle.access_log.proofs.NumberLaws.{hex_value, hex_plain, decimal_value, decimal_plain}

-- ---- the six fields of a row

pub side_plain : (s : Side) → plain (side_of s) ≡ true
unfolding plain side_of
side_plain Hypervisor = refl
side_plain Guest = refl

pub fields : (s : Side) (g h i j k : List ℕ) → plain g ≡ true → plain h ≡ true → plain i ≡ true → plain j ≡ true → plain k ≡ true →
    guess (row s g h i j k) ≡ guess_from (side_of s) g h i j k
unfolding row guess
fields s g h i j k pg ph pi pj pk = let ps = side_plain s in simp (field_of, after_of)

pub no_header : (s : Side) → same (side_of s) (ascii "accesses") ≡ false
unfolding side_of same
no_header Hypervisor = refl
no_header Guest = refl

pub side_back : (s : Side) → guess_side (side_of s) ≡ s
unfolding side_of same
side_back Hypervisor = refl
side_back Guest = refl

-- ---- access lines

pub place_plain : (p : Place) → plain (place_of p) ≡ true
unfolding plain place_of
place_plain (place.Word port) = decimal_plain port.0
place_plain place.Ready = refl
place_plain (place.Head queue) = decimal_plain queue.0

place_back : (p : Place) → LegalPlace p → guess_place (place_of p) ≡ p
unfolding place_of LegalPlace
place_back (place.Word port) h = ap (λ (n : ℕ). place.Word (port_at n)) (decimal_value port.0 h)
place_back place.Ready h = refl
place_back (place.Head queue) h = ap (λ (n : ℕ). place.Head (queue_at n)) (decimal_value queue.0 h)

access_back : (s : Side) (a : Access) (seen : ℕ) → LegalAccess a seen → guess (access_bytes s a seen) ≡ line.Access s a seen
unfolding access_bytes LegalAccess guess_from same plain
access_back s (Read p) seen h =
    fields s _ _ _ _ _ refl (place_plain p) refl refl (hex_plain seen)
    ∙ simp (no_header s, side_back s, place_back p h.0, hex_value seen h.1)
access_back s (Store p v) seen h =
    fields s _ _ _ _ _ refl (place_plain p) refl (hex_plain v) refl
    ∙ simp (no_header s, side_back s, place_back p h.0, hex_value v h.1, h.2)
access_back s (Or p v) seen h =
    fields s _ _ _ _ _ refl (place_plain p) refl (hex_plain v) (hex_plain seen)
    ∙ simp (no_header s, side_back s, place_back p h.0, hex_value v h.1, hex_value seen h.2)
access_back s (And p v) seen h =
    fields s _ _ _ _ _ refl (place_plain p) refl (hex_plain v) (hex_plain seen)
    ∙ simp (no_header s, side_back s, place_back p h.0, hex_value v h.1, hex_value seen h.2)
access_back s (Swap p v) seen h =
    fields s _ _ _ _ _ refl (place_plain p) refl (hex_plain v) (hex_plain seen)
    ∙ simp (no_header s, side_back s, place_back p h.0, hex_value v h.1, hex_value seen h.2)
access_back s (Cas p old new) seen h =
    fields s _ _ _ _ _ refl (place_plain p) (hex_plain old) (hex_plain new) (hex_plain seen)
    ∙ simp (no_header s, side_back s, place_back p h.0, hex_value old h.1, hex_value new h.2, hex_value seen h.3)

-- ---- answer lines

answer_back : (s : Side) (n : ℕ) → n < 2 ^ 32 → carries_port n ≡ false → guess (row s (ascii "answer") (decimal n) dash dash dash) ≡ line.Answer s n
unfolding guess_from same plain
answer_back s n h e =
    fields s _ _ _ _ _ refl (decimal_plain n) refl refl refl ∙ simp (no_header s, side_back s, decimal_value n h, e)

port_answer_back : (s : Side) (n p : ℕ) → n < 2 ^ 32 → p < 2 ^ 32 → carries_port n ≡ true →
    guess (row s (ascii "answer") (decimal n) (decimal p) dash dash) ≡ line.PortAnswer s n (port_at p)
unfolding guess_from same plain
port_answer_back s n p h g e =
    fields s _ _ _ _ _ refl (decimal_plain n) (decimal_plain p) refl refl
    ∙ simp (no_header s, side_back s, decimal_value n h, decimal_value p g, e)

-- ---- call lines

call_back : (c : LoggedCall) → LegalCall c → guess (call_bytes c) ≡ line.Call c
unfolding call_bytes LegalCall guess_from same plain
call_back (InitControl v f o) h =
    fields Hypervisor _ _ _ _ _ refl refl (decimal_plain v) (decimal_plain f) (decimal_plain o)
    ∙ simp (no_header Hypervisor, decimal_value v h.0, decimal_value f h.1, decimal_value o h.2)
call_back (ExpandArray f) h =
    fields Hypervisor _ _ _ _ _ refl refl refl (decimal_plain f) refl ∙ simp (no_header Hypervisor, decimal_value f h)
call_back (Bind p) h =
    fields Hypervisor _ _ _ _ _ refl refl (decimal_plain p.0) refl refl ∙ simp (no_header Hypervisor, decimal_value p.0 h)
call_back (Close p) h =
    fields Hypervisor _ _ _ _ _ refl refl (decimal_plain p.0) refl refl ∙ simp (no_header Hypervisor, decimal_value p.0 h)
call_back (SetPriority p r) h =
    fields Hypervisor _ _ _ _ _ refl refl (decimal_plain p.0) (decimal_plain r.0) refl
    ∙ simp (no_header Hypervisor, decimal_value p.0 h.0, decimal_value r.0 h.1)
call_back (Raise p) h =
    fields Hypervisor _ _ _ _ _ refl refl (decimal_plain p.0) refl refl ∙ simp (no_header Hypervisor, decimal_value p.0 h)
call_back (Unmask p) h =
    fields Hypervisor _ _ _ _ _ refl refl (decimal_plain p.0) refl refl ∙ simp (no_header Hypervisor, decimal_value p.0 h)
call_back Service h = fields Guest _ _ _ _ _ refl refl refl refl refl ∙ simp (no_header Guest)
call_back (Mask p) h =
    fields Guest _ _ _ _ _ refl refl (decimal_plain p.0) refl refl ∙ simp (no_header Guest, decimal_value p.0 h)
call_back (ClearMask p) h =
    fields Guest _ _ _ _ _ refl refl (decimal_plain p.0) refl refl ∙ simp (no_header Guest, decimal_value p.0 h)

-- ---- every legal line

pub line_back : (l : Line) → Legal l → guess (bytes_of l) ≡ l
unfolding Legal bytes_of guess guess_from same field after
line_back line.Header h = refl
line_back (line.Access s a seen) h = access_back s a seen h
line_back (line.Answer s n) h = answer_back s n h.0 h.1
line_back (line.PortAnswer s n p) h = port_answer_back s n p.0 h.0 h.1 h.2
line_back (line.Call c) h = call_back c h
