-- What a text would be is told by its first two fields.
-- Assumes nothing.
use native.Mathlib.Omega.{arith}
use mathlib.Core.Path.{◌≡◌, refl}
use mathlib.Core.Bool.{Bool, true, false, cond}
use mathlib.Core.List.{List}
use Prim.Native.Nat.{ℕ}
use Rattle.word.specs.Word.{port_at}
use Rattle.calls.specs.declared.types.Place.{Place}
use Rattle.calls.specs.declared.types.Access.TheVariants.{Read, Store, Or, And, Swap, Cas}
use Rattle.machine.specs.declared.types.Side.{Side}
use Rattle.access_log.specs.declared.line.LoggedCall.{LoggedCall}
use Rattle.access_log.specs.declared.line.Line.{Line}
use Rattle.access_log.specs.declared.line.Line.TheVariants as line
use Rattle.access_log.specs.declared.read.Kind.TheVariants as kind
use Rattle.access_log.specs.Line.{ascii, carries_port}
use Rattle.access_log.specs.Text.{same}
use Rattle.access_log.specs.Read.{field, after, value, guess_side, guess_from, guess, kind_of, call_in}

answer_kind : (b : Bool) (s : Side) (n p : ℕ) → kind_of (cond b (line.PortAnswer s n (port_at p)) (line.Answer s n)) ≡ kind.Answer
answer_kind true s n p = refl
answer_kind false s n p = refl

access_kind : (a b c d e : Bool) (s : Side) (p : Place) (old operand seen : ℕ) →
    kind_of (cond a (line.Access s (Read p) seen)
    (cond b (line.Access s (Store p operand) 0)
    (cond c (line.Access s (Or p operand) seen)
    (cond d (line.Access s (And p operand) seen)
    (cond e (line.Access s (Swap p operand) seen)
    (line.Access s (Cas p old operand) seen)))))) ≡ kind.Access s
access_kind true b c d e s p old operand seen = refl
access_kind false true c d e s p old operand seen = refl
access_kind false false true d e s p old operand seen = refl
access_kind false false false true e s p old operand seen = refl
access_kind false false false false true s p old operand seen = refl
access_kind false false false false false s p old operand seen = refl

kind_by : (a b c : Bool) (answer : Line) (call : LoggedCall) (access : Line) (s : Side) → kind_of answer ≡ kind.Answer → kind_of access ≡ kind.Access s →
    kind_of (cond a line.Header (cond b answer (cond c (line.Call call) access))) ≡ cond a kind.Header (cond b kind.Answer (cond c kind.Call (kind.Access s)))
kind_by true b c answer call access s e f = refl
kind_by false true c answer call access s e f = e
kind_by false false true answer call access s e f = refl
kind_by false false false answer call access s e f = f

pub kind_told : (s : List ℕ) →
    kind_of (guess s)
    ≡ cond (same (field s) (ascii "accesses")) kind.Header
    (cond (same (field (after s)) (ascii "answer")) kind.Answer
    (cond (same (field (after s)) (ascii "call")) kind.Call
    (kind.Access (guess_side (field s)))))
unfolding guess guess_from
kind_told s =
    kind_by (same (field s) (ascii "accesses")) (same (field (after s)) (ascii "answer")) (same (field (after s)) (ascii "call")) _ _ _ (guess_side (field s))
    (answer_kind (carries_port (value 10 (field (after (after s))))) _ _ _)
    (access_kind (same (field (after s)) (ascii "read")) (same (field (after s)) (ascii "store")) (same (field (after s)) (ascii "or"))
    (same (field (after s)) (ascii "and")) (same (field (after s)) (ascii "swap")) _ _ _ _ _)

-- a text that would be a call is that call
call_by : (a b c : Bool) (answer : Line) (call : LoggedCall) (access : Line) (s : Side) → kind_of answer ≡ kind.Answer → kind_of access ≡ kind.Access s →
    kind_of (cond a line.Header (cond b answer (cond c (line.Call call) access))) ≡ kind.Call →
    cond a line.Header (cond b answer (cond c (line.Call call) access)) ≡ line.Call call
call_by true b c answer call access s e f h = absurd (let z : ◌≡◌ {A = ℕ} 0 1 = cc in omega arith)
call_by false true c answer call access s e f h = absurd (let z : ◌≡◌ {A = ℕ} 0 1 = cc in omega arith)
call_by false false true answer call access s e f h = refl
call_by false false false answer call access s e f h = absurd (let z : ◌≡◌ {A = ℕ} 0 1 = cc in omega arith)

pub call_told : (s : List ℕ) → kind_of (guess s) ≡ kind.Call → guess s ≡ line.Call (call_in s)
unfolding guess guess_from call_in
call_told s h =
    call_by (same (field s) (ascii "accesses")) (same (field (after s)) (ascii "answer")) (same (field (after s)) (ascii "call")) _ _ _ (guess_side (field s))
    (answer_kind (carries_port (value 10 (field (after (after s))))) _ _ _)
    (access_kind (same (field (after s)) (ascii "read")) (same (field (after s)) (ascii "store")) (same (field (after s)) (ascii "or"))
    (same (field (after s)) (ascii "and")) (same (field (after s)) (ascii "swap")) _ _ _ _ _)
    h
