-- What is claimed of a replay. n is the number of link bits.
-- Assumes nothing.
use Rattle.std.specs.Prelude.{ℕ, ◌+◌, ◌*◌, ◌≤◌, ◌<◌, ◌≡◌, ◌≢◌, true, false, cond, ◌&&◌, List, [], ◌∷◌, ◌++◌, length, Option, None, Some}
use Rattle.word.specs.Word.{Width}
use Rattle.machine.specs.declared.types.Side.{Side}
use Rattle.machine.specs.declared.types.GuestStart.TheVariants as guest_start
use Rattle.machine.specs.declared.types.Step.{Step}
use Rattle.machine.specs.declared.types.Step.TheVariants as step
use Rattle.machine.specs.declared.types.Event.{Event}
use Rattle.machine.specs.Exec.{World, exec, exec_all}
use Rattle.access_log.specs.declared.line.LoggedCall.{LoggedCall}
use Rattle.access_log.specs.declared.line.LoggedCall.TheVariants as call
use Rattle.access_log.specs.declared.line.Line.{Line}
use Rattle.access_log.specs.declared.line.Line.TheVariants as line
use Rattle.access_log.specs.Line.{bytes_of, LegalCall, Legal}
use Rattle.access_log.specs.Event.{line_of}
use Rattle.replay.specs.Replay.{fresh_world, step_of_call, adds, is_full, is_busy, report, starts, replay}
use Rattle.replay.specs.Player.{Feed, feed, fed, reports}

-- ---- however the log is cut into pieces, the report is that of the whole

unfoldable pub fed_pieces : ℕ → Feed → List (List ℕ) → Feed
fed_pieces n f [] = f
fed_pieces n f (piece ∷ pieces) = fed_pieces n (fed n f piece) pieces

unfoldable pub joined : List (List ℕ) → List ℕ
joined [] = []
joined (piece ∷ pieces) = piece ++ joined pieces

abbrev pub PiecesPlayed : Type 0
PiecesPlayed = (n : ℕ) → Width n → (entries words : ℕ) (pieces : List (List ℕ)) →
    reports (fed_pieces n (feed (starts entries words) []) pieces) ≡ replay n entries words (joined pieces)

-- ---- logs as lists of lines

unfoldable pub log_text : List Line → List ℕ
log_text [] = []
log_text (l ∷ ls) = bytes_of l ++ log_text ls

-- lines are counted up to 2 ^ 64 - 1
abbrev pub most_lines : ℕ
most_lines = 0xFFFFFFFFFFFFFFFF

-- ---- the log that `exec` writes replays to "all agree"

-- what is recorded: the start of a call, or the access that a side's call under way waits for
pub data Act : Type 0 where
  calls : LoggedCall → Act
  accesses : Side → Act

-- its steps: an expand that adds a page is followed by a tell of the array's words, and there is no other tell
abbrev pub tell_after : World → List Step
tell_after w = step.Guest (guest_start.Tell (1024 * w.domain.pages)) ∷ []

abbrev pub steps_of : ℕ → World → Act → List Step
steps_of n w (calls c) = step_of_call c ∷ cond (adds n w.domain c) (tell_after (exec n w (step_of_call c)).world) []
steps_of n w (accesses s) = step.Perform s ∷ []

abbrev pub after_act : ℕ → World → Act → World
after_act n w a = (exec_all n w (steps_of n w a)).world

-- its lines
abbrev pub line_then : Option Line → List Line → List Line
line_then None ls = ls
line_then (Some l) ls = l ∷ ls

unfoldable pub lines_of_events : List Event → List Line
lines_of_events [] = []
lines_of_events (e ∷ es) = line_then (line_of e) (lines_of_events es)

abbrev pub lines_of_act : ℕ → World → Act → List Line
lines_of_act n w (calls c) = line.Call c ∷ lines_of_events (exec n w (step_of_call c)).events
lines_of_act n w (accesses s) = lines_of_events (exec n w (step.Perform s)).events

unfoldable pub recorded : ℕ → World → List Act → List Line
recorded n w [] = []
recorded n w (a ∷ acts) = lines_of_act n w a ++ recorded n (after_act n w a) acts

-- arguments below 2 ^ 32, no expand past the lent pages, no access without a call under way
abbrev pub MayRecord : ℕ → World → Act → Type 0
MayRecord n w (calls c) = LegalCall c × (adds n w.domain c && is_full w.domain w.memory.words ≡ false)
MayRecord n w (accesses s) = is_busy w s ≡ true

unfoldable pub Recordable : ℕ → World → List Act → Type 0
Recordable n w [] = Unit {0}
Recordable n w (a ∷ acts) = MayRecord n w a × Recordable n (after_act n w a) acts

abbrev pub whole_log : ℕ → ℕ → ℕ → List Act → List Line
whole_log n entries words acts = line.Header ∷ recorded n (fresh_world entries words) acts

abbrev pub OwnLogAgrees : Type 0
OwnLogAgrees = (n : ℕ) → Width n → (entries words : ℕ) (acts : List Act) → Recordable n (fresh_world entries words) acts →
    length (whole_log n entries words acts) ≤ most_lines →
    replay n entries words (log_text (whole_log n entries words acts)) ≡ report 0 (length (whole_log n entries words acts))

-- ---- in a log that agrees, another line in place of one that is due, or another access of the same side, differs there

abbrev pub SameSide : Side → Line → Type 0
SameSide s line.Header = ⊥
SameSide s (line.Access t a seen) = s ≡ t
SameSide s (line.Answer t number) = ⊥
SameSide s (line.PortAnswer t number port) = ⊥
SameSide s (line.Call c) = ⊥

-- a line l with a line m in its place: of calls nothing is claimed
abbrev pub MayReplace : Line → Line → Type 0
MayReplace line.Header m = Unit {0}
MayReplace (line.Access s a seen) m = SameSide s m
MayReplace (line.Answer s number) m = Unit {0}
MayReplace (line.PortAnswer s number port) m = Unit {0}
MayReplace (line.Call c) m = ⊥

abbrev pub OtherDiffers : Type 0
OtherDiffers = (n entries words : ℕ) (before : List Line) (l m : Line) (after : List Line) (k : ℕ) →
    replay n entries words (log_text (before ++ l ∷ after)) ≡ report 0 k → Legal m → bytes_of m ≢ bytes_of l → MayReplace l m →
    length before < most_lines →
    replay n entries words (log_text (before ++ m ∷ after)) ≡ report 1 (length before + 1)

-- a mask's access is due at once: any other line differs in its place
abbrev pub MaskDiffers : Type 0
MaskDiffers = (n entries words : ℕ) (before : List Line) (l m : Line) (after : List Line) (k p : ℕ) →
    replay n entries words (log_text (before ++ line.Call (call.Mask (record { 0 = p })) ∷ l ∷ after)) ≡ report 0 k → Legal m → bytes_of m ≢ bytes_of l →
    length before + 1 < most_lines →
    replay n entries words (log_text (before ++ line.Call (call.Mask (record { 0 = p })) ∷ m ∷ after)) ≡ report 1 (length before + 2)

pub record Claims : Type 0 where
  pub pieces_played : PiecesPlayed
  pub own_log_agrees : OwnLogAgrees
  pub other_differs : OtherDiffers
  pub mask_differs : MaskDiffers
