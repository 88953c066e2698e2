-- A line, by what it would be and by what is due: what code makes of it comes to `opened` and `quick`.
-- Assumes nothing.
use Prim.Native.Nat.{ℕ}
use native.Mathlib.Omega.{arith}
use mathlib.Core.Path.{◌≡◌, refl, ap, ◌∙◌, sym}
use mathlib.Core.Bool.{true, false}
use mathlib.Core.List.{List, []}
use lib.ListN.{take}
use Rattle.word.specs.Word.{link_bits}
use Rattle.machine.specs.declared.types.Side.{Side}
use Rattle.machine.specs.Exec.{World}
use Rattle.access_log.specs.declared.line.LoggedCall.{LoggedCall}
use Rattle.access_log.specs.declared.line.Line.{Line}
use Rattle.access_log.specs.declared.line.Line.TheVariants as line
use Rattle.access_log.specs.declared.read.Kind.{Kind}
use Rattle.access_log.specs.declared.read.Kind.TheVariants as kind
use Rattle.access_log.specs.Line.{LegalCall}
use Rattle.access_log.specs.Text.{same}
use Rattle.access_log.specs.Read.{guess, kind_of, call_in}
use Rattle.access_log.proofs.KindLaws.{call_told}
use Rattle.access_log.proofs.LegalLaws.{call_in_legal}
use Rattle.std.specs.Prelude.{Option, Some, None, Err}
use Rattle.replay.specs.declared.player.due.Due.{Due}
use Rattle.replay.specs.declared.player.due.Stop.{Stop}
use Rattle.replay.specs.declared.player.due.Stop.TheVariants.{NotOfTheForm}
use Rattle.replay.specs.Replay.{playing, begins}
use Rattle.replay.specs.Player.{met, made, opened, quick}
use Rattle.replay.specs.State.{due_lines, after_line}
use Rattle.replay.proofs.DueLaws.{Misses, LinePut}

-- ---- a line where nothing is due, by what it would be

other : {A : Type 0} → ◌≡◌ {A = ℕ} 0 1 → A
other z = absurd (omega arith)

opened_header : (w : World) (k : ℕ) (text : List ℕ) (g : Line) → kind_of g ≡ kind.Header → opened link_bits w k text g ≡ met w [] k text
unfolding opened
opened_header w k text line.Header e = refl
opened_header w k text (line.Access s a seen) e = other cc
opened_header w k text (line.Answer s number) e = refl
opened_header w k text (line.PortAnswer s number port) e = refl
opened_header w k text (line.Call c) e = other cc

opened_answer : (w : World) (k : ℕ) (text : List ℕ) (g : Line) → kind_of g ≡ kind.Answer → opened link_bits w k text g ≡ met w [] k text
unfolding opened
opened_answer w k text line.Header e = refl
opened_answer w k text (line.Access s a seen) e = other cc
opened_answer w k text (line.Answer s number) e = refl
opened_answer w k text (line.PortAnswer s number port) e = refl
opened_answer w k text (line.Call c) e = other cc

opened_access : (w : World) (k : ℕ) (text : List ℕ) (s : Side) (g : Line) → kind_of g ≡ kind.Access s → opened link_bits w k text g ≡ made link_bits w k s text
unfolding opened
opened_access w k text s line.Header e = other cc
opened_access w k text s (line.Access t a seen) e = ap (λ (x : Side). made link_bits w k x text) (let same : t ≡ s = cc in same)
opened_access w k text s (line.Answer t number) e = other cc
opened_access w k text s (line.PortAnswer t number port) e = other cc
opened_access w k text s (line.Call c) e = other cc

module _ (w : World) (k : ℕ) (text : List ℕ) (told : Kind) (is : told ≡ kind_of (guess text)) where
  pub open_header : told ≡ kind.Header → (r : Stop) (due : List ℕ) → Misses r 0 text → after_line (Err r) k due w ≡ opened link_bits w k text (guess text)
  unfolding met
  open_header t r due m = m k due w ∙ sym (opened_header w k text (guess text) (sym is ∙ t))

  pub open_answer : told ≡ kind.Answer → (r : Stop) (due : List ℕ) → Misses r 0 text → after_line (Err r) k due w ≡ opened link_bits w k text (guess text)
  unfolding met
  open_answer t r due m = m k due w ∙ sym (opened_answer w k text (guess text) (sym is ∙ t))

  pub open_access : (x : Side) → told ≡ kind.Access x → made link_bits w k x text ≡ opened link_bits w k text (guess text)
  open_access x t = sym (opened_access w k text x (guess text) (sym is ∙ t))

  pub open_call : told ≡ kind.Call → opened link_bits w k text (line.Call (call_in text)) ≡ opened link_bits w k text (guess text)
  open_call t = ap (opened link_bits w k text) (sym (call_told text (sym is ∙ t)))

-- ---- a line that would be a call's

module _ (w : World) (k : ℕ) (text : List ℕ) (c : LoggedCall) (is : c ≡ call_in text) (due : List ℕ) (len : ℕ) (put : LinePut (line.Call c) due len) where
  pub called : same (take len due) text ≡ true → begins link_bits w k c ≡ opened link_bits w k text (line.Call (call_in text))
  unfolding opened
  called h = simp (← is, ← put.is, h)

  pub not_called : same (take len due) text ≡ false → (n : ℕ) (bytes : List ℕ) (v : World) → after_line (Err (NotOfTheForm n)) k bytes v ≡ opened link_bits w k text (line.Call (call_in text))
  unfolding opened after_line
  not_called h n bytes v = simp (← is, ← put.is, h)

pub called_legal : (text : List ℕ) (c : LoggedCall) → c ≡ call_in text → LegalCall c
called_legal text c e = rw e (call_in_legal text)

-- ---- a line

pub quick_open : (w : World) (k : ℕ) (due text : List ℕ) (d : Option Due) → d ≡ None → opened link_bits w k text (guess text) ≡ quick link_bits (playing w (due_lines d due) k) text
unfolding due_lines quick
quick_open w k due text d e = simp e

pub quick_meet : (w : World) (k : ℕ) (due text : List ℕ) (d : Option Due) (x : Due) → d ≡ Some x → met w (due_lines (Some x) due) k text ≡ quick link_bits (playing w (due_lines d due) k) text
unfolding due_lines quick
quick_meet w k due text d x e = simp e
