-- A text built in place, by appending, and what becomes of a buffer that a line is written to.
-- Assumes nothing.
use Rattle.std.specs.Prelude.{ℕ, ◌≡◌, ◌+◌, Bool, true, false, cond, List, [], ◌∷◌, ◌++◌, length, drop, set, ltb, eqb, Result, Ok, Err}
use Rattle.access_log.specs.declared.text.Writer.{Writer}
use Rattle.access_log.specs.declared.line.TooShort.{TooShort}

-- a buffer whose first len bytes are the text
pub record Text : Type 0 where
  pub bytes : List ℕ
  pub len : ℕ

unfoldable pub text : List ℕ → ℕ → Text
text bytes len = record { bytes = bytes; len = len }

-- one byte more; what no longer fits is left out
unfoldable pub with_byte : Text → ℕ → Text
with_byte t b = cond (ltb t.len (length t.bytes)) (record { bytes = set t.bytes t.len b; len = t.len + 1 }) t

unfoldable pub with_bytes : Text → List ℕ → Text
with_bytes t [] = t
with_bytes t (b ∷ bs) = with_bytes (with_byte t b) bs

-- a writer with the same buffer, and these bytes more in it
abbrev pub Appends : Writer → Writer → List ℕ → Type 0
Appends old new bytes = (new.out.ghost_name ≡ old.out.ghost_name) × (text new.out.now new.len ≡ with_bytes (text old.out.now old.len) bytes)

-- whether two texts are the same
unfoldable pub same : List ℕ → List ℕ → Bool
same [] [] = true
same [] (d ∷ t) = false
same (c ∷ s) [] = false
same (c ∷ s) (d ∷ t) = cond (eqb c d) (same s t) false

-- ---- writing

-- an answer, and the buffer afterwards
pub record Writing : Type 0 where
  pub written : Result ℕ TooShort
  pub out : List ℕ

abbrev pub writing : Result ℕ TooShort → List ℕ → Writing
writing w out = record { written = w; out = out }

-- the bytes stand at the start of out, or nothing changes where out is too short
unfoldable pub write_of : List ℕ → List ℕ → Writing
write_of bytes out =
    cond (ltb (length out) (length bytes)) (writing (Err (record {})) out)
    (writing (Ok (length bytes)) (bytes ++ drop (length bytes) out))
