-- The reader of a line: it guesses a line from the fields and takes it exactly if the line's bytes are the text. So the guess
-- need be right on legal lines only, and what is of the form is decided by `bytes_of` alone.
-- Assumes nothing.
use Rattle.std.specs.Prelude.{ℕ, ◌+◌, ◌*◌, ◌/◌, ◌%◌, ◌^◌, cond, List, [], ◌∷◌, drop, get_or, ltb, eqb, Option, None, Some}
use Prim.Native.Char.{code}
use Rattle.word.specs.Word.{port_at, queue_at}
use Rattle.word.specs.declared.Priority.{Priority}
use Rattle.calls.specs.declared.types.Place.{Place}
use Rattle.calls.specs.declared.types.Place.TheVariants as place
use Rattle.calls.specs.declared.types.Access.TheVariants.{Read, Store, Or, And, Swap, Cas}
use Rattle.machine.specs.declared.types.Side.{Side}
use Rattle.machine.specs.declared.types.Side.TheVariants.{Hypervisor, Guest}
use Rattle.access_log.specs.declared.line.LoggedCall.{LoggedCall}
use Rattle.access_log.specs.declared.line.LoggedCall.TheVariants.{InitControl, ExpandArray, Bind, Close, SetPriority, Raise, Unmask, Service, Mask, ClearMask}
use Rattle.access_log.specs.declared.line.Line.{Line}
use Rattle.access_log.specs.declared.line.Line.TheVariants as line
use Rattle.access_log.specs.declared.read.Kind.{Kind}
use Rattle.access_log.specs.declared.read.Kind.TheVariants as kind
use Rattle.access_log.specs.Line.{ascii, carries_port, bytes_of}
use Rattle.access_log.specs.Text.{same}

-- ---- fields

-- a field ends before the first byte below 32: its bytes, and what follows that byte
unfoldable pub field : List ℕ → List ℕ
field [] = []
field (c ∷ s) = cond (ltb 31 c) (c ∷ field s) []

unfoldable pub after : List ℕ → List ℕ
after [] = []
after (c ∷ s) = cond (ltb 31 c) (after s) s

-- what a byte counts as a digit; of a byte that is none, any number
abbrev pub digit_value : ℕ → ℕ
digit_value c = c % 16 + c / 64 * 9

-- the number that digits make after the number n, reduced to 32 bits
unfoldable pub value_from : ℕ → ℕ → List ℕ → ℕ
value_from base n [] = n
value_from base n (c ∷ s) = value_from base ((n * base + digit_value c) % 2 ^ 32) s

unfoldable pub value : ℕ → List ℕ → ℕ
value base s = value_from base 0 s

-- ---- the guess

abbrev pub guess_side : List ℕ → Side
guess_side f = cond (same f (ascii "X")) Hypervisor Guest

abbrev pub guess_place : List ℕ → Place
guess_place h =
    cond (eqb (get_or h 0 0) (code "w")) (place.Word (port_at (value 10 (drop 1 h))))
    (cond (eqb (get_or h 0 0) (code "h")) (place.Head (queue_at (value 10 (drop 1 h))))
    place.Ready)

abbrev pub guess_access : Side → Place → List ℕ → ℕ → ℕ → ℕ → Line
guess_access side p kind old operand seen =
    cond (same kind (ascii "read")) (line.Access side (Read p) seen)
    (cond (same kind (ascii "store")) (line.Access side (Store p operand) 0)
    (cond (same kind (ascii "or")) (line.Access side (Or p operand) seen)
    (cond (same kind (ascii "and")) (line.Access side (And p operand) seen)
    (cond (same kind (ascii "swap")) (line.Access side (Swap p operand) seen)
    (line.Access side (Cas p old operand) seen)))))

abbrev pub priority_at : ℕ → Priority
priority_at n = record { 0 = n }

abbrev pub guess_call : List ℕ → ℕ → ℕ → ℕ → LoggedCall
guess_call name first second third =
    cond (same name (ascii "raise")) (Raise (port_at first))
    (cond (same name (ascii "service")) Service
    (cond (same name (ascii "mask")) (Mask (port_at first))
    (cond (same name (ascii "unmask")) (Unmask (port_at first))
    (cond (same name (ascii "clear_mask")) (ClearMask (port_at first))
    (cond (same name (ascii "bind")) (Bind (port_at first))
    (cond (same name (ascii "close")) (Close (port_at first))
    (cond (same name (ascii "set_priority")) (SetPriority (port_at first) (priority_at second))
    (cond (same name (ascii "expand_array")) (ExpandArray second)
    (InitControl first second third)))))))))

abbrev pub guess_answer : Side → ℕ → ℕ → Line
guess_answer side number port = cond (carries_port number) (line.PortAnswer side number (port_at port)) (line.Answer side number)

-- of the six fields
unfoldable pub guess_from : List ℕ → List ℕ → List ℕ → List ℕ → List ℕ → List ℕ → Line
guess_from f g h i j k =
    cond (same f (ascii "accesses")) line.Header
    (cond (same g (ascii "answer")) (guess_answer (guess_side f) (value 10 h) (value 10 i))
    (cond (same g (ascii "call")) (line.Call (guess_call h (value 10 i) (value 10 j) (value 10 k)))
    (guess_access (guess_side f) (guess_place h) g (value 16 i) (value 16 j) (value 16 k))))

unfoldable pub guess : List ℕ → Line
guess s =
    guess_from (field s) (field (after s)) (field (after (after s))) (field (after (after (after s))))
    (field (after (after (after (after s))))) (field (after (after (after (after (after s))))))

-- what a text would be, by its first two fields
abbrev pub kind_of : Line → Kind
kind_of line.Header = kind.Header
kind_of (line.Access side access seen) = kind.Access side
kind_of (line.Answer side number) = kind.Answer
kind_of (line.PortAnswer side number port) = kind.Answer
kind_of (line.Call call) = kind.Call

-- the call that it would be
unfoldable pub call_in : List ℕ → LoggedCall
call_in s =
    guess_call (field (after (after s))) (value 10 (field (after (after (after s))))) (value 10 (field (after (after (after (after s))))))
    (value 10 (field (after (after (after (after (after s)))))))

-- ---- the reader

unfoldable pub read_line : List ℕ → Option Line
read_line s = cond (same (bytes_of (guess s)) s) (Some (guess s)) None
