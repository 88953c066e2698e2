-- What the reader guesses is a legal line, whatever the text.
-- Assumes nothing.
use Prim.Native.Nat.{ℕ, ◌*◌, ◌+◌, ◌%◌, ◌^◌, ◌<◌}
use native.Mathlib.Omega.{arith}
use mathlib.Core.Path.{◌≡◌, refl}
use mathlib.Core.Bool.{Bool, true, false, cond}
use mathlib.Core.List.{List, [], ◌∷◌}
use lib.ListN.{drop, get_or}
use lib.Dec.{eqb}
use Prim.Native.Char.{code}
use Rattle.word.specs.Word.{port_at, queue_at}
use Rattle.calls.specs.declared.types.Place.{Place}
use Rattle.calls.specs.declared.types.Place.TheVariants as place
use Rattle.calls.specs.declared.types.Access.TheVariants.{Read, Store, Or, And, Swap, Cas}
use Rattle.machine.specs.declared.types.Side.{Side}
use Rattle.access_log.specs.declared.line.LoggedCall.{LoggedCall}
use Rattle.access_log.specs.declared.line.LoggedCall.TheVariants.{InitControl, ExpandArray, Bind, Close, SetPriority, Raise, Unmask, Service, Mask, ClearMask}
use Rattle.access_log.specs.declared.line.Line.{Line}
use Rattle.access_log.specs.declared.line.Line.TheVariants as line
use Rattle.access_log.specs.Line.{ascii, carries_port, LegalPlace, LegalAccess, LegalCall, Legal}
use Rattle.access_log.specs.Read.{field, after, digit_value, value_from, value, priority_at, guess_side, guess_place, guess_call, guess_from, guess, call_in}
use Rattle.access_log.specs.Text.{same}

value_from_below : (base n : ℕ) (s : List ℕ) → n < 2 ^ 32 → value_from base n s < 2 ^ 32
unfolding value_from
value_from_below base n [] h = h
value_from_below base n (c ∷ s) h = value_from_below base ((n * base + digit_value c) % 2 ^ 32) s (omega arith)

below : (base : ℕ) (s : List ℕ) → value base s < 2 ^ 32
unfolding value
below base s = value_from_below base 0 s (omega arith)

-- ---- each part, by the tests of its names

place_by : (a b : Bool) (n : ℕ) → n < 2 ^ 32 → LegalPlace (cond a (place.Word (port_at n)) (cond b (place.Head (queue_at n)) place.Ready))
unfolding LegalPlace
place_by true b n h = h
place_by false true n h = h
place_by false false n h = tt

place_legal : (h : List ℕ) → LegalPlace (guess_place h)
place_legal h = place_by (eqb (get_or h 0 0) (code "w")) (eqb (get_or h 0 0) (code "h")) (value 10 (drop 1 h)) (below 10 (drop 1 h))

access_by : (a b c d e : Bool) (s : Side) (p : Place) (old operand seen : ℕ) → LegalPlace p → old < 2 ^ 32 → operand < 2 ^ 32 → seen < 2 ^ 32 →
    Legal (cond a (line.Access s (Read p) seen)
    (cond b (line.Access s (Store p operand) 0)
    (cond c (line.Access s (Or p operand) seen)
    (cond d (line.Access s (And p operand) seen)
    (cond e (line.Access s (Swap p operand) seen)
    (line.Access s (Cas p old operand) seen))))))
unfolding Legal LegalAccess
access_by true b c d e s p old operand seen h i j k = (h, k)
access_by false true c d e s p old operand seen h i j k = (h, j, refl)
access_by false false true d e s p old operand seen h i j k = (h, j, k)
access_by false false false true e s p old operand seen h i j k = (h, j, k)
access_by false false false false true s p old operand seen h i j k = (h, j, k)
access_by false false false false false s p old operand seen h i j k = (h, i, j, k)

call_by : (a b c d e f g i j : Bool) (x y z : ℕ) → x < 2 ^ 32 → y < 2 ^ 32 → z < 2 ^ 32 →
    LegalCall (cond a (Raise (port_at x))
    (cond b Service
    (cond c (Mask (port_at x))
    (cond d (Unmask (port_at x))
    (cond e (ClearMask (port_at x))
    (cond f (Bind (port_at x))
    (cond g (Close (port_at x))
    (cond i (SetPriority (port_at x) (priority_at y))
    (cond j (ExpandArray y)
    (InitControl x y z))))))))))
unfolding LegalCall
call_by true b c d e f g i j x y z h k l = h
call_by false true c d e f g i j x y z h k l = tt
call_by false false true d e f g i j x y z h k l = h
call_by false false false true e f g i j x y z h k l = h
call_by false false false false true f g i j x y z h k l = h
call_by false false false false false true g i j x y z h k l = h
call_by false false false false false false true i j x y z h k l = h
call_by false false false false false false false true j x y z h k l = (h, k)
call_by false false false false false false false false true x y z h k l = k
call_by false false false false false false false false false x y z h k l = (h, k, l)

call_legal : (name : List ℕ) (x y z : ℕ) → x < 2 ^ 32 → y < 2 ^ 32 → z < 2 ^ 32 → LegalCall (guess_call name x y z)
call_legal name x y z =
    call_by (same name (ascii "raise")) (same name (ascii "service")) (same name (ascii "mask")) (same name (ascii "unmask")) (same name (ascii "clear_mask"))
    (same name (ascii "bind")) (same name (ascii "close")) (same name (ascii "set_priority")) (same name (ascii "expand_array")) x y z

answer_by : (b : Bool) (s : Side) (n p : ℕ) → carries_port n ≡ b → n < 2 ^ 32 → p < 2 ^ 32 → Legal (cond b (line.PortAnswer s n (port_at p)) (line.Answer s n))
unfolding Legal
answer_by true s n p e h g = (h, g, e)
answer_by false s n p e h g = (h, e)

-- ---- the line

line_by : (a b c : Bool) (answer : Line) (call : LoggedCall) (access : Line) → Legal answer → LegalCall call → Legal access →
    Legal (cond a line.Header (cond b answer (cond c (line.Call call) access)))
unfolding Legal
line_by true b c answer call access h i j = tt
line_by false true c answer call access h i j = h
line_by false false true answer call access h i j = i
line_by false false false answer call access h i j = j

legal_from : (f g h i j k : List ℕ) → Legal (guess_from f g h i j k)
unfolding guess_from
legal_from f g h i j k =
    line_by (same f (ascii "accesses")) (same g (ascii "answer")) (same g (ascii "call")) _ _ _
    (answer_by (carries_port (value 10 h)) (guess_side f) (value 10 h) (value 10 i) refl (below 10 h) (below 10 i))
    (call_legal h (value 10 i) (value 10 j) (value 10 k) (below 10 i) (below 10 j) (below 10 k))
    (access_by (same g (ascii "read")) (same g (ascii "store")) (same g (ascii "or")) (same g (ascii "and")) (same g (ascii "swap"))
    (guess_side f) (guess_place h) (value 16 i) (value 16 j) (value 16 k) (place_legal h) (below 16 i) (below 16 j) (below 16 k))

pub guess_legal : (s : List ℕ) → Legal (guess s)
unfolding guess
guess_legal s =
    legal_from (field s) (field (after s)) (field (after (after s))) (field (after (after (after s))))
    (field (after (after (after (after s))))) (field (after (after (after (after (after s))))))

pub call_in_legal : (s : List ℕ) → LegalCall (call_in s)
unfolding call_in
call_in_legal s = call_legal (field (after (after s))) _ _ _ (below 10 _) (below 10 _) (below 10 _)
