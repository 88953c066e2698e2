-- What is due, as texts lent and as lines, and what a line leads to that must be the one due.
-- Assumes nothing.
use Rattle.std.specs.Prelude.{Option, None, Some}
use Prim.Native.Nat.{ℕ}
use native.Mathlib.Omega.{arith}
use mathlib.Core.Path.{◌≡◌, refl, ap, ◌∙◌, sym}
use mathlib.Core.Bool.{Bool, true, false, cond}
use mathlib.Core.List.{List, [], ◌∷◌}
use lib.ListN.{length, take}
use lib.Dec.{eqb, ltb}
use borrow.Author.Tests.{ne_eqb, eqb-false}
use Rattle.calls.specs.declared.answer.Code.{Code}
use Rattle.calls.specs.declared.types.Access.{Access}
use Rattle.machine.specs.declared.types.Side.{Side}
use Rattle.machine.specs.declared.types.Side.TheVariants as side
use Rattle.machine.specs.Exec.{World}
use Rattle.access_log.specs.declared.line.Line.{Line}
use Rattle.access_log.specs.declared.line.Line.TheVariants as line
use Rattle.access_log.specs.Line.{bytes_of}
use Rattle.access_log.specs.Event.{code_line}
use Rattle.access_log.specs.Read.{read_line}
use Rattle.access_log.specs.Text.{text, with_bytes, same}
use Rattle.access_log.proofs.TextLaws.{Holds, holds}
use Rattle.access_log.proofs.LengthLaws.{line_fits, line_some}
use Rattle.evtchn_fifo.specs.Encoded.{EncodedNext}
use Rattle.exported.specs.Decoded.{decoded_access}
use Rattle.std.specs.Prelude.{Option, Some, None, Result, Ok, Err}
use Rattle.std.specs.Int.NonZero.{non_zero_usize_get}
use Rattle.replay.specs.declared.player.due.Due.{Due}
use Rattle.replay.specs.declared.player.due.Stop.{Stop}
use Rattle.replay.specs.declared.player.due.Stop.TheVariants.{Differs, NotOfTheForm}
use Rattle.replay.specs.declared.player.named.Named.TheVariants as named
use Rattle.replay.specs.Player.{misses, met}
use Rattle.replay.specs.State.{then_answer, due_lines, code_in, named_in, result_due, after_line}

-- ---- a line put at the start of a buffer

pub record LinePut (l : Line) (bytes : List ℕ) (len : ℕ) : Type 0 where
  pub is : take len bytes ≡ bytes_of l
  pub some : eqb len 0 ≡ false

put_by : (l : Line) (bytes : List ℕ) (len : ℕ) → Holds (text bytes len) (bytes_of l) → LinePut l bytes len
unfolding text
put_by l bytes len h = record {
  is = ap (λ (k : ℕ). take k bytes) h.len ∙ h.bytes;
  some = ne_eqb len 0 (λ e. omega (arith, h.len, line_some l));
}

pub line_put : (l : Line) (out bytes : List ℕ) (len : ℕ) → length out ≡ 64 → text bytes len ≡ with_bytes (text out 0) (bytes_of l) → LinePut l bytes len
line_put l out bytes len h e = put_by l bytes len (holds out h e (line_fits l))

-- ---- a line that is due

pub due_put : (l : Line) (bytes : List ℕ) (len : ℕ) (d : Due) → LinePut l bytes len → non_zero_usize_get d.len ≡ len → due_lines (Some d) bytes ≡ bytes_of l ∷ then_answer d.masks
unfolding due_lines
due_put l bytes len d put e = simp (e, put.is)

pub put_lem : (l : Line) (out bytes : List ℕ) (len : ℕ) (d : Due) → length out ≡ 64 → text bytes len ≡ with_bytes (text out 0) (bytes_of l) → non_zero_usize_get d.len ≡ len →
    due_lines (Some d) bytes ≡ bytes_of l ∷ then_answer d.masks
put_lem l out bytes len d h e f = due_put l bytes len d (line_put l out bytes len h e) f

pub no_line : (l : Line) (out bytes : List ℕ) (len : ℕ) → length out ≡ 64 → text bytes len ≡ with_bytes (text out 0) (bytes_of l) → len ≡ 0 → ⊥
no_line l out bytes len h e f = eqb-false len 0 (line_put l out bytes len h e).some f

-- ---- a line that is not the one due

pub missed_line : (f : Option Line) (len k : ℕ) (bytes : List ℕ) (w : World) (l : Line) → f ≡ Some l → after_line (Err (Differs len)) k bytes w ≡ misses (take len bytes) k f
unfolding after_line misses
missed_line f len k bytes w l h = simp h

pub missed_form : (f : Option Line) (n len k : ℕ) (bytes : List ℕ) (w : World) → f ≡ None → after_line (Err (NotOfTheForm n)) k bytes w ≡ misses (take len bytes) k f
unfolding after_line misses
missed_form f n len k bytes w h = simp h

abbrev pub Misses : Stop → ℕ → List ℕ → Type 0
Misses s len text' = (k : ℕ) (bytes : List ℕ) (w : World) → after_line (Err s) k bytes w ≡ misses (take len bytes) k (read_line text')

-- ---- a result's answer

answered_by : (t : Bool) (x : EncodedNext) (c : Code) → cond t (named.Answer (code_in x)) (named.Access (decoded_access x)) ≡ named.Answer c → (t ≡ true) × (code_in x ≡ c)
answered_by true x c e = (refl, cc)
answered_by false x c e = absurd (let z : ◌≡◌ {A = ℕ} 0 1 = cc in omega arith)

accessed_by : (t : Bool) (x : EncodedNext) (a : Access) → cond t (named.Answer (code_in x)) (named.Access (decoded_access x)) ≡ named.Access a → (t ≡ false) × (decoded_access x ≡ a)
accessed_by true x a e = absurd (let z : ◌≡◌ {A = ℕ} 0 1 = cc in omega arith)
accessed_by false x a e = (refl, cc)

pub named_answer : (x : EncodedNext) (c : Code) → named_in x ≡ named.Answer c → (ltb x.code 0x100 ≡ true) × (code_in x ≡ c)
named_answer x c e = answered_by (ltb x.code 0x100) x c e

pub named_access : (x : EncodedNext) (a : Access) → named_in x ≡ named.Access a → (ltb x.code 0x100 ≡ false) × (decoded_access x ≡ a)
named_access x a e = accessed_by (ltb x.code 0x100) x a e

pub answer_due : (s : Side) (x : EncodedNext) (c : Code) (d : Option Due) (bytes : List ℕ) → named_in x ≡ named.Answer c → due_lines d bytes ≡ bytes_of (code_line s c) ∷ [] → due_lines d bytes ≡ result_due s x
unfolding result_due
answer_due s x c d bytes e p =
    let n = named_answer x c e in
    simp n.0 (p ∙ ap (λ (y : Code). bytes_of (code_line s y) ∷ []) (sym n.1))

pub none_due : (s : Side) (x : EncodedNext) (a : Access) (bytes : List ℕ) → named_in x ≡ named.Access a → due_lines None bytes ≡ result_due s x
unfolding result_due due_lines
none_due s x a bytes e = let n = named_access x a e in simp n.0

-- ---- a line that must be the one due

module _ (d : Due) (due : List ℕ) (text' : List ℕ) (k : ℕ) (w : World) where
  abbrev Meets : Result (Option Due) Stop → List ℕ → Type 0
  Meets r bytes = after_line r k bytes w ≡ met w (due_lines (Some d) due) k text'

  pub meets_alone : (len : ℕ) → len ≡ non_zero_usize_get d.len → same (take len due) text' ≡ true → d.masks ≡ false → Meets (Ok None) due
  unfolding after_line met due_lines
  meets_alone len e h m = simp (← e, h, m)

  pub meets_masked : (len : ℕ) (bytes : List ℕ) (r : Option Due) → len ≡ non_zero_usize_get d.len → same (take len due) text' ≡ true → d.masks ≡ true →
      due_lines r bytes ≡ bytes_of (line.Answer side.Guest 0) ∷ [] → Meets (Ok r) bytes
  unfolding after_line met due_lines
  meets_masked len bytes r e h m p = simp (← e, h, m, p)

  pub meets_not : (len : ℕ) (s : Stop) → len ≡ non_zero_usize_get d.len → same (take len due) text' ≡ false → Misses s len text' → Meets (Err s) due
  unfolding met due_lines
  meets_not len s e h f = simp (f k due w, ← e, h)

-- ---- a line that must be that of the access made

module _ (l : Line) (due : List ℕ) (len : ℕ) (text' : List ℕ) (ds : List (List ℕ)) (put : LinePut l due len) (k : ℕ) (w : World) where
  abbrev MeetsAccess : Result (Option Due) Stop → List ℕ → Type 0
  MeetsAccess r bytes = after_line r k bytes w ≡ met w (bytes_of l ∷ ds) k text'

  pub access_meets : (r : Option Due) (bytes : List ℕ) → same (take len due) text' ≡ true → due_lines r bytes ≡ ds → MeetsAccess (Ok r) bytes
  unfolding after_line met
  access_meets r bytes h d = simp (d, ← put.is, h)

  pub access_misses : (s : Stop) → same (take len due) text' ≡ false → Misses s len text' → MeetsAccess (Err s) due
  unfolding met
  access_misses s h f = simp (f k due w, ← put.is, h)
