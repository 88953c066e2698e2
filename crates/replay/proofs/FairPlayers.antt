-- What holds of a player after any lines: it counts them, no call's line is due, and a report that stops it is not "all agree".
-- Assumes nothing.
use Rattle.std.specs.Prelude.{Option, None, Some}
use Prim.Native.Nat.{ℕ, ◌+◌, ◌≤◌, ◌<◌}
use native.Mathlib.Omega.{arith}
use native.Mathlib.Nat.{add-zero}
use mathlib.Core.Path.{◌≡◌, refl, sym, ap, ◌∙◌, subst}
use mathlib.Core.Bool.{Bool, true, false, ◌&&◌}
use mathlib.Core.List.{List, [], ◌∷◌}
use lib.ListN.{length}
use lib.Dec.{eqb}
use Rattle.word.specs.Word.{port_at}
use Rattle.calls.specs.declared.types.Answer.{Answer}
use Rattle.calls.specs.Answers.{code_of}
use Rattle.calls.proofs.Cases.{choose}
use Rattle.machine.specs.declared.types.Side.{Side}
use Rattle.machine.specs.declared.types.Event.{Event}
use Rattle.machine.specs.declared.types.Event.TheVariants.{Nothing, HypervisorAccess, GuestAccess, ClearAccess, MaskAccess, HypervisorAnswer, GuestAnswer}
use Rattle.machine.specs.declared.types.Step.TheVariants as step
use Rattle.machine.specs.Exec.{World, exec}
use Rattle.access_log.specs.declared.line.Line.{Line}
use Rattle.access_log.specs.declared.line.Line.TheVariants as line
use Rattle.access_log.specs.Line.{carries_port, bytes_of}
use Rattle.access_log.specs.Event.{access_line, answer_line, line_of}
use Rattle.access_log.specs.Read.{guess, read_line, kind_of}
use Rattle.access_log.specs.Text.{same}
use Rattle.claims.specs.Numbers.{All}
use Rattle.replay.specs.declared.player.Report.{Report}
use Rattle.replay.specs.Replay.{Player, playing, stopped, report, next_line, texts_of, due_after, ran, is_busy, is_full, adds, meets, opens, judges, played, played_all, ends}
use Rattle.replay.specs.Claims.{most_lines}
use Rattle.replay.proofs.PlayLaws.{next_line_lem, counted, stopped_stays, over}
use Rattle.access_log.specs.declared.read.Kind.{Kind}
use Rattle.access_log.specs.declared.read.Kind.TheVariants as kind
use Rattle.replay.proofs.KindLaws.{kind_kept}

-- ---- a line that is due is no call's

abbrev pub is_call : Kind → Bool
is_call kind.Header = false
is_call (kind.Access s) = false
is_call kind.Answer = false
is_call kind.Call = true

-- a text that is not read as a call
abbrev pub NoCall : List ℕ → Type 0
NoCall text = is_call (kind_of (guess text)) ≡ false

pub no_call : (l : Line) → is_call (kind_of l) ≡ false → NoCall (bytes_of l)
no_call l h = ap is_call (kind_kept l) ∙ h

answer_no_call : (s : Side) (a : Answer) → is_call (kind_of (answer_line s a)) ≡ false
unfolding answer_line
answer_no_call s a =
    choose (λ (l : Line). is_call (kind_of l) ≡ false) (carries_port (code_of a).number) {x = line.PortAnswer s (code_of a).number (port_at (code_of a).value)} refl refl

-- the line, if there is one
abbrev NoCallLogged : Option Line → Type 0
NoCallLogged None = Unit {0}
NoCallLogged (Some l) = is_call (kind_of l) ≡ false

event_no_call : (e : Event) → NoCallLogged (line_of e)
unfolding line_of access_line
event_no_call Nothing = tt
event_no_call (HypervisorAccess c a seen) = refl
event_no_call (GuestAccess c a seen) = refl
event_no_call (ClearAccess c a seen) = refl
event_no_call (MaskAccess a seen) = refl
event_no_call (HypervisorAnswer a count) = answer_no_call _ a
event_no_call (GuestAnswer a count) = answer_no_call _ a

no_call_then : (g : Option Line) (texts : List (List ℕ)) → NoCallLogged g → All NoCall texts → All NoCall (texts_of g texts)
no_call_then None texts h i = i
no_call_then (Some l) texts h i = (no_call l h, i)

due_no_call : (es : List Event) → All NoCall (due_after es)
unfolding due_after
due_no_call [] = tt
due_no_call (e ∷ es) = no_call_then (line_of e) (due_after es) (event_no_call e) (due_no_call es)

-- ---- after j lines

abbrev pub Fair : ℕ → Player → Type 0
Fair j (playing w due k) = (k ≡ j) × All NoCall due
Fair j (stopped r d) = eqb r.kind 0 ≡ false

module _ (n : ℕ) (w : World) (j k : ℕ) (e : k ≡ j) (i : j < most_lines) (text : List ℕ) where
  counts : next_line k ≡ j + 1
  counts = ap next_line e ∙ next_line_lem j i

  meets_fair : (v : World) (due : List (List ℕ)) → All NoCall due → Fair (j + 1) (meets v due k text)
  meets_fair v [] h = refl
  meets_fair v (d ∷ ds) h = choose (Fair (j + 1)) (same d text) {x = playing v ds (next_line k)} (counts, h.1) refl

  opens_fair : (l : Line) → Fair (j + 1) (opens n w k text l)
  unfolding opens
  opens_fair line.Header = refl
  opens_fair (line.Access s a seen) =
      choose (Fair (j + 1)) (is_busy w s)
      (meets_fair (exec n w (step.Perform s)).world (due_after (exec n w (step.Perform s)).events) (due_no_call _))
      (meets_fair w [] tt)
  opens_fair (line.Answer s number) = refl
  opens_fair (line.PortAnswer s number port) = refl
  opens_fair (line.Call c) =
      choose (Fair (j + 1)) (adds n w.domain c && is_full w.domain w.memory.words) {x = stopped (report 33 (next_line k)) []} {y = playing (ran n w c).world (due_after (ran n w c).events) (next_line k)}
      refl (counts, due_no_call _)

  judges_fair : (due : List (List ℕ)) → All NoCall due → (f : Option Line) → Fair (j + 1) (judges n w due k text f)
  judges_fair [] h (Some l) = opens_fair l
  judges_fair (d ∷ ds) h (Some l) = meets_fair w (d ∷ ds) h
  judges_fair [] h None = refl
  judges_fair (d ∷ ds) h None = refl

pub played_fair : (n j : ℕ) (p : Player) (text : List ℕ) → j < most_lines → Fair j p → Fair (j + 1) (played n p text)
unfolding played
played_fair n j (playing w due k) text i h = judges_fair n w j k h.0 i text due h.1 (read_line text)
played_fair n j (stopped r d) text i h = h

pub over_fair : (n j : ℕ) (p : Player) (ls : List Line) → j + length ls ≤ most_lines → Fair j p → Fair (j + length ls) (over n p ls)
unfolding played_all
over_fair n j p [] i h = rw add-zero h
over_fair n j p (l ∷ ls) i h =
    subst (λ (c : ℕ). Fair c (over n p (l ∷ ls))) (counted j (length ls))
    (over_fair n (j + 1) (played n p (bytes_of l)) ls (omega arith) (played_fair n j p (bytes_of l) (omega arith) h))

-- ---- a player that comes to "all agree" goes on

abbrev pub goes : Player → Bool
goes (playing w due k) = true
goes (stopped r d) = false

pub agreed_goes : (n j k : ℕ) (p : Player) (texts : List (List ℕ)) → Fair j p → ends (played_all n p texts) ≡ report 0 k → goes p ≡ true
unfolding ends
agreed_goes n j k (playing w due i) texts h e = refl
agreed_goes n j k (stopped r d) texts h e =
    sym h ∙ ap (λ (x : Report). eqb x.kind 0) (ap ends (sym (stopped_stays n r d texts)) ∙ e)
