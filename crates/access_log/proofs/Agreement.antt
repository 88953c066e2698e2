-- The theorem: reader and writer agree each way on every legal line.
-- Assumes nothing.
use Prim.Native.Nat.{ℕ}
use native.Mathlib.Omega.{arith}
use mathlib.Core.Path.{◌≡◌, refl, ap, subst}
use mathlib.Core.Logic.{◌≢◌}
use mathlib.Core.Bool.{Bool, true, false, cond}
use mathlib.Core.List.{List, [], ◌∷◌, ◌++◌, append_cancel_right}
use lib.ListN.{drop}
use Rattle.word.specs.Word.{port_at}
use Rattle.machine.specs.declared.types.Side.TheVariants.{Hypervisor}
use Rattle.access_log.specs.declared.line.LoggedCall.TheVariants.{Bind}
use Rattle.access_log.specs.declared.line.Line.{Line}
use Rattle.access_log.specs.declared.line.Line.TheVariants as line
use Rattle.std.specs.Prelude.{None, Some}
use Rattle.access_log.specs.Line.{ascii, tab, newline, dash, decimal, side_of, row, call_bytes, bytes_of, LegalCall, Legal}
use Rattle.access_log.specs.Text.{same}
use Rattle.access_log.specs.Read.{field, after, value, guess_from, guess, read_line}
use Rattle.access_log.specs.Agree.{WrittenReads, ReadWrites, OthersRefused, IsDecimal, bind_line, DecimalReads, Agree}
use Rattle.access_log.proofs.FieldLaws.{same_self, same_eq}
use Rattle.access_log.proofs.LengthLaws.{line_fits}
use Rattle.access_log.proofs.GuessLaws.{line_back}
use Rattle.access_log.proofs.LegalLaws.{guess_legal}

written_reads : WrittenReads
unfolding read_line
written_reads l h = simp (line_back l h, same_self)

found_by : (b : Bool) (s : List ℕ) (g l : Line) → same (bytes_of g) s ≡ b → Legal g → cond b (Some g) None ≡ Some l →
    Legal l × (bytes_of l ≡ s)
found_by true s g l e h p =
    let is : g ≡ l = cc in
    (subst Legal is h, subst (λ (x : Line). bytes_of x ≡ s) is (same_eq (bytes_of g) s e))
found_by false s g l e h p = absurd (let z : ◌≡◌ {A = ℕ} 0 1 = cc in omega arith)

read_writes : ReadWrites
unfolding read_line
read_writes s l p = found_by (same (bytes_of (guess s)) s) s (guess s) l refl (guess_legal s) p

others_by : (b : Bool) (s : List ℕ) (g : Line) → same (bytes_of g) s ≡ b → Legal g → ((l : Line) → Legal l → bytes_of l ≢ s) →
    cond b (Some g) None ≡ None
others_by true s g e h f = absurd (f g h (same_eq (bytes_of g) s e))
others_by false s g e h f = refl

others_refused : OthersRefused
unfolding read_line
others_refused s f = others_by (same (bytes_of (guess s)) s) s (guess s) refl (guess_legal s) f

-- ---- decimals

-- the reader guesses a bind from a bind's line, whatever its port's text
bind_guess : (text : List ℕ) → guess (bind_line text) ≡ line.Call (Bind (port_at (value 10 (field (text ++ tab ∷ (dash ++ tab ∷ (dash ++ newline ∷ [])))))))
unfolding row side_of guess guess_from field after same
bind_guess text = refl

port_text : (p text : List ℕ) → row Hypervisor (ascii "call") (ascii "bind") p dash dash ≡ bind_line text → p ≡ text
unfolding row side_of
port_text p text e = append_cancel_right p text _ (ap (drop 12) e)

decimal_by : (b : Bool) (text : List ℕ) (p : ℕ) (l : Line) → same (bytes_of (line.Call (Bind (port_at p)))) (bind_line text) ≡ b → Legal (line.Call (Bind (port_at p))) →
    cond b (Some (line.Call (Bind (port_at p)))) None ≡ Some l → IsDecimal text
unfolding bytes_of call_bytes Legal LegalCall
decimal_by true text p l e h q = record { number = p; below = h; digits = port_text (decimal p) text (same_eq _ (bind_line text) e) }
decimal_by false text p l e h q = absurd (let z : ◌≡◌ {A = ℕ} 0 1 = cc in omega arith)

decimal_reads : DecimalReads
unfolding read_line
decimal_reads text l e =
    let s = bind_line text in
    decimal_by _ text _ l refl (subst Legal (bind_guess text) (guess_legal s))
    (subst (λ (g : Line). cond (same (bytes_of g) s) (Some g) None ≡ Some l) (bind_guess text) e)

pub agree : Agree
agree = record {
  written_reads = written_reads;
  read_writes = read_writes;
  others_refused = others_refused;
  longest = line_fits;
  decimal_reads = decimal_reads;
}
