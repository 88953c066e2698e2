-- A line of which no newline is read yet: how it goes on and ends, and that it reads as nothing, as any text of more than 53 bytes does.
-- So the first 64 bytes of a line are played as the line is.
-- Assumes nothing.
use Rattle.std.specs.Prelude.{Option, None, Some}
use Prim.Native.Nat.{ℕ, ◌<◌}
use native.Mathlib.Omega.{arith}
use mathlib.Core.Path.{◌≡◌, refl, sym, ap, ◌∙◌, subst}
use mathlib.Core.Bool.{Bool, true, false, cond, false≢true}
use mathlib.Core.List.{List, [], ◌∷◌, ◌++◌, append_assoc}
use lib.ListN.{length, take, length-append}
use lib.Seq.{take_all, take-append-le, length-take-le}
use lib.Dec.{eqb, ltb}
use borrow.Author.Tests.{ltb-true, ltb-false}
use Rattle.access_log.specs.declared.line.Line.{Line}
use Rattle.access_log.specs.Line.{newline, bytes_of}
use Rattle.access_log.specs.Read.{read_line}
use Rattle.access_log.proofs.Agreement.{agree}
use Rattle.claims.specs.Numbers.{All}
use Rattle.replay.specs.Replay.{Player, playing, stopped, lines_of, played}
use Rattle.replay.specs.Player.{kept}
use Rattle.replay.proofs.LineLaws.{IsLine, last, more, line_of, cut_line}

-- no byte is a newline
abbrev pub Open : List ℕ → Type 0
Open s = All (λ (b : ℕ). eqb b newline ≡ false) s

pub open_more : (s : List ℕ) (b : ℕ) → Open s → eqb b newline ≡ false → Open (s ++ b ∷ [])
open_more [] b h e = (e, tt)
open_more (c ∷ s) b h e = (h.0, open_more s b h.1 e)

-- ---- its end: a newline, or the log's

open_ends : (s : List ℕ) → Open s → IsLine (s ++ newline ∷ [])
open_ends [] h = last
open_ends (b ∷ s) h = more h.0 (open_ends s h.1)

pub open_cut : (s rest : List ℕ) → Open s → lines_of (s ++ newline ∷ rest) ≡ (s ++ newline ∷ []) ∷ lines_of rest
open_cut s rest h = ap lines_of (sym (append_assoc s (newline ∷ []) rest)) ∙ cut_line rest (open_ends s h)

pub open_last : (b : ℕ) (s : List ℕ) → Open (b ∷ s) → lines_of (b ∷ s ++ []) ≡ (b ∷ s) ∷ []
unfolding lines_of
open_last b [] h = simp h.0
open_last b (c ∷ s) h = simp (h.0, open_last c s h.1)

-- ---- what reads as nothing

no_line : {s : List ℕ} → IsLine s → Open s → ⊥
no_line last h = false≢true (sym h.0)
no_line (more e r) h = no_line r h.1

-- a text whose readings are all absurd
unread : (s : List ℕ) → ((l : Line) → bytes_of l ≡ s → ⊥) → read_line s ≡ None
unread s never = go (read_line s) refl
  where
    go : (f : Option Line) → read_line s ≡ f → read_line s ≡ None
    go (Some l) e = absurd (never l (agree.read_writes s l e).1)
    go None e = e

pub open_unread : (s : List ℕ) → Open s → read_line s ≡ None
open_unread s h = unread s (λ l e. no_line (subst IsLine e (line_of l)) h)

long_unread : (s : List ℕ) → 53 < length s → read_line s ≡ None
long_unread s h = unread s (λ l e. omega (arith, agree.longest l, ap length e))

-- ---- the first 64 bytes

pub kept_front : (s : List ℕ) (b : ℕ) → kept (take 64 s) b ≡ take 64 (s ++ b ∷ [])
unfolding kept
kept_front s b = go (ltb (length s) 64) refl
  where
    go : (t : Bool) → ltb (length s) 64 ≡ t → cond (ltb (length (take 64 s)) 64) (take 64 s ++ b ∷ []) (take 64 s) ≡ take 64 (s ++ b ∷ [])
    go true e =
        let below = ltb-true (length s) 64 e in
        simp (take_all 64 s (omega arith), e, take_all 64 (s ++ b ∷ []) (simp length-append (omega arith)))
    go false e =
        let full = ltb-false (length s) 64 e in
        simp (length-take-le 64 s full, take-append-le 64 s (b ∷ []) full)

unread_played : (n : ℕ) (p : Player) (s t : List ℕ) → read_line s ≡ None → read_line t ≡ None → played n p s ≡ played n p t
unfolding played
unread_played n (playing w due k) s t e f = simp (e, f)
unread_played n (stopped r d) s t e f = refl

pub front_played : (n : ℕ) (p : Player) (s : List ℕ) → played n p (take 64 s) ≡ played n p s
front_played n p s = go (ltb 64 (length s)) refl
  where
    go : (t : Bool) → ltb 64 (length s) ≡ t → played n p (take 64 s) ≡ played n p s
    go true e =
        let long = ltb-true 64 (length s) e in
        unread_played n p (take 64 s) s (long_unread (take 64 s) (omega (arith, length-take-le 64 s (omega arith)))) (long_unread s (omega arith))
    go false e = ap (played n p) (take_all 64 s (ltb-false 64 (length s) e))
