-- A sound player: its world's numbers are below 2 ^ 32, and every text that is due is a legal line's. The player at the start is sound,
-- and the next line of the log leaves it so.
-- Assumes nothing.
use Rattle.std.specs.Prelude.{Option, None, Some}
use Prim.Native.Nat.{ℕ}
use mathlib.Core.Path.{◌≡◌, refl}
use mathlib.Core.Bool.{◌&&◌}
use mathlib.Core.List.{List, [], ◌∷◌}
use lib.ListN.{replicate}
use Rattle.word.specs.Word.{Width}
use Rattle.word.specs.Entry.{fresh_entry}
use Rattle.calls.proofs.Cases.{choose}
use Rattle.machine.specs.declared.types.Side.{Side}
use Rattle.machine.specs.declared.types.Step.{Step}
use Rattle.machine.specs.declared.types.Step.TheVariants as step
use Rattle.machine.specs.declared.types.GuestStart.TheVariants as guest_start
use Rattle.machine.specs.declared.types.Event.{Event}
use Rattle.machine.specs.Exec.{World, exec}
use Rattle.access_log.specs.declared.line.LoggedCall.{LoggedCall}
use Rattle.access_log.specs.declared.line.LoggedCall.TheVariants.{InitControl, ExpandArray, Bind, Close, SetPriority, Raise, Unmask, Service, Mask, ClearMask}
use Rattle.access_log.specs.declared.line.Line.{Line}
use Rattle.access_log.specs.declared.line.Line.TheVariants as line
use Rattle.access_log.specs.Line.{bytes_of, Legal}
use Rattle.access_log.specs.Event.{line_of}
use Rattle.access_log.specs.Text.{same}
use Rattle.access_log.specs.Read.{read_line}
use Rattle.claims.specs.Numbers.{All, SmallEvent, SmallWorld, SmallStep}
use Rattle.claims.proofs.Numbers.{numbers_stay_small, fresh_is_small}
use Rattle.replay.specs.Replay.{Player, playing, stopped, fresh_world, step_of_call, adds, is_full, ran, texts_of, due_after, meets, is_busy, makes, begins, opens, moves, judges, played, starts}
use Rattle.replay.proofs.LegalEvents.{LegalLogged, event_legal}

pub record LegalText (text : List ℕ) : Type 0 where
  pub line : Line
  pub legal : Legal line
  pub bytes : bytes_of line ≡ text

abbrev pub Sound : Player → Type 0
Sound (playing w due k) = SmallWorld w × All LegalText due
Sound (stopped r d) = Unit {0}

-- ---- what a step brings

texts_legal : (l : Option Line) → LegalLogged l → (texts : List (List ℕ)) → All LegalText texts → All LegalText (texts_of l texts)
texts_legal None h texts i = i
texts_legal (Some l) h texts i = (record { line = l; legal = h; bytes = refl }, i)

events_legal : (es : List Event) → All SmallEvent es → All LegalText (due_after es)
unfolding due_after
events_legal [] h = tt
events_legal (e ∷ es) h = texts_legal (line_of e) (event_legal e h.0) (due_after es) (events_legal es h.1)

pub due_legal : {n : ℕ} → Width n → (w : World) → SmallWorld w → (s : Step) → SmallStep s → All LegalText (due_after (exec n w s).events)
due_legal {n} wide w i s h = events_legal (exec n w s).events (numbers_stay_small n wide w s i h).events

pub call_small : (c : LoggedCall) → SmallStep (step_of_call c)
unfolding step_of_call
call_small (InitControl vcpu frame offset) = tt
call_small (ExpandArray frame) = tt
call_small (Bind port) = tt
call_small (Close port) = tt
call_small (SetPriority port priority) = tt
call_small (Raise port) = tt
call_small (Unmask port) = tt
call_small Service = tt
call_small (Mask port) = tt
call_small (ClearMask port) = tt

-- ---- the start

pub starts_sound : (entries words : ℕ) → Sound (starts entries words)
unfolding fresh_world Legal
starts_sound entries words =
    (fresh_is_small (replicate entries fresh_entry) words, (record { line = line.Header; legal = tt; bytes = refl }, tt))

-- ---- the next line

meets_sound : (w : World) (due : List (List ℕ)) (k : ℕ) (text : List ℕ) → SmallWorld w → All LegalText due → Sound (meets w due k text)
meets_sound w [] k text i h = tt
meets_sound w (d ∷ ds) k text i h = choose Sound (same d text) (i, h.1) tt

module _ {n : ℕ} (wide : Width n) (w : World) (i : SmallWorld w) (k : ℕ) where
  makes_sound : (s : Side) (text : List ℕ) → Sound (makes n w k s text)
  makes_sound s text =
      let performs = step.Perform s in
      let world = (numbers_stay_small n wide w performs i tt).world in
      choose Sound (is_busy w s) (meets_sound _ (due_after (exec n w performs).events) k text world (due_legal wide w i performs tt)) tt

  begins_sound : (c : LoggedCall) → Sound (begins n w k c)
  unfolding ran
  begins_sound c =
      let called = numbers_stay_small n wide w (step_of_call c) i (call_small c) in
      let telling = numbers_stay_small n wide (exec n w (step_of_call c)).world (step.Guest (guest_start.Tell _)) called.world tt in
      choose Sound (adds n w.domain c && is_full w.domain w.memory.words) tt
      (choose SmallWorld (adds n w.domain c) telling.world called.world, due_legal wide w i (step_of_call c) (call_small c))

  opens_sound : (text : List ℕ) (l : Line) → Sound (opens n w k text l)
  unfolding opens
  opens_sound text line.Header = tt
  opens_sound text (line.Access s a seen) = makes_sound s text
  opens_sound text (line.Answer s number) = tt
  opens_sound text (line.PortAnswer s number port) = tt
  opens_sound text (line.Call c) = begins_sound c

  moves_sound : (due : List (List ℕ)) → All LegalText due → (text : List ℕ) (l : Line) → Sound (moves n w due k text l)
  moves_sound [] h text l = opens_sound text l
  moves_sound (d ∷ ds) h text l = meets_sound w (d ∷ ds) k text i h

  judges_sound : (due : List (List ℕ)) → All LegalText due → (text : List ℕ) (f : Option Line) → Sound (judges n w due k text f)
  judges_sound due h text (Some l) = moves_sound due h text l
  judges_sound due h text None = tt

pub played_sound : {n : ℕ} → Width n → (p : Player) (text : List ℕ) → Sound p → Sound (played n p text)
unfolding played
played_sound wide (playing w due k) text h = judges_sound wide w h.0 k due h.1 text (read_line text)
played_sound wide (stopped r d) text h = tt
