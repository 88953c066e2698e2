-- The play as code makes it: what is due is compared before the line is read, an access is made before its line is read, and the log
-- comes byte by byte. Where every number is below 2 ^ 32, as it is from the start on, this comes to `replay` (Claims).
-- Assumes nothing.
use Rattle.std.specs.Prelude.{ℕ, cond, List, [], ◌∷◌, ◌++◌, length, eqb, ltb, Option, None, Some}
use Rattle.machine.specs.declared.types.Side.{Side}
use Rattle.machine.specs.declared.types.Step.TheVariants as step
use Rattle.machine.specs.Exec.{World, exec}
use Rattle.access_log.specs.declared.line.Line.{Line}
use Rattle.access_log.specs.declared.line.Line.TheVariants as line
use Rattle.access_log.specs.Line.{newline, bytes_of}
use Rattle.access_log.specs.Text.{same}
use Rattle.access_log.specs.Read.{guess, read_line}
use Rattle.replay.specs.declared.player.Report.{Report}
use Rattle.replay.specs.Replay.{Player, playing, stopped, report, next_line, is_busy, due_after, begins, ends}

-- ---- a line

-- a line that is not the one due
unfoldable pub misses : List ℕ → ℕ → Option Line → Player
misses d k (Some l) = stopped (report 1 (next_line k)) d
misses d k None = stopped (report 22 (next_line k)) []

unfoldable pub met : World → List (List ℕ) → ℕ → List ℕ → Player
met w [] k text = misses [] k (read_line text)
met w (d ∷ ds) k text = cond (same d text) (playing w ds (next_line k)) (misses d k (read_line text))

unfoldable pub made : ℕ → World → ℕ → Side → List ℕ → Player
made n w k s text =
    cond (is_busy w s) (met (exec n w (step.Perform s)).world (due_after (exec n w (step.Perform s)).events) k text)
    (met w [] k text)

unfoldable pub opened : ℕ → World → ℕ → List ℕ → Line → Player
opened n w k text line.Header = met w [] k text
opened n w k text (line.Access s a seen) = made n w k s text
opened n w k text (line.Answer s number) = met w [] k text
opened n w k text (line.PortAnswer s number port) = met w [] k text
opened n w k text (line.Call c) = cond (same (bytes_of (line.Call c)) text) (begins n w k c) (stopped (report 22 (next_line k)) [])

unfoldable pub quick : ℕ → Player → List ℕ → Player
quick n (playing w [] k) text = opened n w k text (guess text)
quick n (playing w (d ∷ ds) k) text = met w (d ∷ ds) k text
quick n (stopped r d) text = stopped r d

-- ---- bytes

-- a player, and the first 64 bytes of the line that is being read, or of the one at which it stopped
pub record Feed : Type 0 where
  pub player : Player
  pub line : List ℕ

abbrev pub feed : Player → List ℕ → Feed
feed p l = record { player = p; line = l }

unfoldable pub kept : List ℕ → ℕ → List ℕ
kept l b = cond (ltb (length l) 64) (l ++ b ∷ []) l

abbrev pub line_ended : Player → List ℕ → Feed
line_ended (playing w due k) l = feed (playing w due k) []
line_ended (stopped r d) l = feed (stopped r d) l

abbrev pub fed_player : ℕ → Player → List ℕ → ℕ → Feed
fed_player n (playing w due k) l b =
    cond (eqb b newline) (line_ended (quick n (playing w due k) (kept l b)) (kept l b)) (feed (playing w due k) (kept l b))
fed_player n (stopped r d) l b = feed (stopped r d) l

unfoldable pub fed_byte : ℕ → Feed → ℕ → Feed
fed_byte n f b = fed_player n f.player f.line b

unfoldable pub fed : ℕ → Feed → List ℕ → Feed
fed n f [] = f
fed n f (b ∷ bytes) = fed n (fed_byte n f b) bytes

-- a last line without its newline is not of the form
unfoldable pub lastly : Player → List ℕ → Report
lastly p [] = ends p
lastly (playing w due k) (b ∷ l) = report 22 (next_line k)
lastly (stopped r d) (b ∷ l) = r

abbrev pub reports : Feed → Report
reports f = lastly f.player f.line
