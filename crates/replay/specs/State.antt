-- What a position and the bytes lent to a replay mean: a player, as `Player.antt` has it.
-- Assumes nothing.
use Rattle.std.specs.Prelude.{ℕ, suc, Bool, false, cond, not, List, [], ◌∷◌, take, eqb, ltb, Option, Some, None, Result, Ok, Err}
use Rattle.std.specs.Option.{option_map, option_map_or}
use Rattle.std.specs.Int.{from_bool}
use Rattle.std.specs.Int.NonZero.{non_zero_usize_get}
use Rattle.calls.specs.declared.answer.Code.{Code}
use Rattle.machine.specs.declared.types.Side.{Side}
use Rattle.machine.specs.declared.types.Side.TheVariants as side
use Rattle.machine.specs.Memory.{memory}
use Rattle.machine.specs.Exec.{World}
use Rattle.access_log.specs.declared.line.Line.TheVariants as line
use Rattle.access_log.specs.Line.{newline, bytes_of}
use Rattle.access_log.specs.Event.{code_line}
use Rattle.evtchn_fifo.specs.Encoded.{EncodedNext}
use Rattle.exported.specs.Decoded.{decoded_access}
use Rattle.exported.specs.Run.{world_of}
use Rattle.replay.specs.declared.player.Position.{Position}
use Rattle.replay.specs.declared.player.due.Due.{Due}
use Rattle.replay.specs.declared.player.due.Stop.{Stop}
use Rattle.replay.specs.declared.player.due.Stop.TheVariants.{Differs, NotOfTheForm, NotLent}
use Rattle.replay.specs.declared.player.named.Named.{Named}
use Rattle.replay.specs.declared.player.named.Named.TheVariants as named
use Rattle.replay.specs.declared.player.progress.Playing.{Playing}
use Rattle.replay.specs.declared.player.progress.Stopped.{Stopped}
use Rattle.replay.specs.Replay.{Player, playing, stopped, report, next_line}
use Rattle.replay.specs.Player.{Feed, feed}

-- the world that lent bytes are: a domain's record, its ledger, a guest's record, the array's words and the control block
abbrev pub world_in : List ℕ → List ℕ → List ℕ → List ℕ → List ℕ → World
world_in domain ledger guest words block = world_of (record { domain = domain; ledger = ledger; guest = guest; memory = memory words block })

-- ---- what is due

-- the first bytes of a buffer, and a mask's answer after its access
abbrev pub answer_after : ℕ → List (List ℕ)
answer_after mask = cond (eqb mask 0) [] (bytes_of (line.Answer side.Guest 0) ∷ [])

unfoldable pub due_in : List ℕ → ℕ → ℕ → List (List ℕ)
due_in due len mask = cond (eqb len 0) [] (take len due ∷ answer_after mask)

-- the same of code's own type
abbrev pub then_answer : Bool → List (List ℕ)
then_answer masks = cond masks (bytes_of (line.Answer side.Guest 0) ∷ []) []

unfoldable pub due_lines : Option Due → List ℕ → List (List ℕ)
due_lines None due = []
due_lines (Some d) due = take (non_zero_usize_get d.len) due ∷ then_answer d.masks

-- an answer by its numbers, and its line where a result is one
abbrev pub code_in : EncodedNext → Code
code_in x = record { number = x.code; value = x.index }

unfoldable pub result_due : Side → EncodedNext → List (List ℕ)
result_due s x = cond (ltb x.code 0x100) (bytes_of (code_line s (code_in x)) ∷ []) []

-- what a result says
abbrev pub named_in : EncodedNext → Named
named_in x = cond (ltb x.code 0x100) (named.Answer (code_in x)) (named.Access (decoded_access x))

-- ---- what a line leads to

-- the kind of the report, and how many bytes of the line that was due are kept
abbrev pub stop_kind : Stop → ℕ
stop_kind (Differs due) = 1
stop_kind (NotOfTheForm due) = 22
stop_kind NotLent = 33

abbrev pub stop_due : Stop → ℕ
stop_due (Differs due) = due
stop_due (NotOfTheForm due) = 0
stop_due NotLent = 0

abbrev pub stopped_by : Stop → ℕ → List ℕ → Player
stopped_by s k due = stopped (report (stop_kind s) (next_line k)) (take (stop_due s) due)

-- k lines before it agreed
unfoldable pub after_line : Result (Option Due) Stop → ℕ → List ℕ → World → Player
after_line (Ok d) k due w = playing w (due_lines d due) (next_line k)
after_line (Err s) k due w = stopped_by s k due

-- ---- positions

-- stop is 0, or the kind of the report
unfoldable pub player_at : Position → List ℕ → World → Player
player_at p due w =
    cond (eqb p.stop 0) (playing w (due_in due p.due p.mask) p.lines)
    (stopped (report p.stop (next_line p.lines)) (cond (eqb p.stop 1) (take p.due due) []))

unfoldable pub feed_at : Position → List ℕ → List ℕ → World → Feed
feed_at p line due w = feed (player_at p due w) (take p.line line)

-- what is due by code's own types, and where a line has just ended
abbrev pub due_of : Playing → Option Due
due_of p = option_map (λ len. record { len = len; masks = not (eqb p.mask 0) }) p.due

abbrev pub playing_after : ℕ → Option Due → Playing
playing_after k d = record { lines = k; line = 0; due = option_map (λ (e : Due). e.len) d; mask = option_map_or (λ (e : Due). from_bool e.masks) d 0 }

-- a feed by them
unfoldable pub feed_of : Result Playing Stopped → List ℕ → List ℕ → World → Feed
feed_of (Ok p) line due w = feed (playing w (due_lines (due_of p) due) p.lines) (take p.line line)
feed_of (Err p) line due w = feed (stopped_by p.stop p.lines due) (take p.line line)

-- their numbers in C. A stop of 22 has that of the line that was due too, of which its player keeps nothing
abbrev pub position_due : Stop → ℕ
position_due (Differs due) = due
position_due (NotOfTheForm due) = due
position_due NotLent = 0

unfoldable pub position_of : Result Playing Stopped → Position
position_of (Ok p) = record { lines = p.lines; line = p.line; due = option_map_or non_zero_usize_get p.due 0; mask = p.mask; stop = 0 }
position_of (Err p) = record { lines = p.lines; line = p.line; due = position_due p.stop; mask = 0; stop = stop_kind p.stop }

-- ---- lines of a piece

-- the length of the first line, its newline included; of the whole text where it has none
unfoldable pub line_length : List ℕ → ℕ
line_length [] = 0
line_length (b ∷ text) = cond (eqb b newline) 1 (suc (line_length text))

-- whether the last byte is a newline
abbrev pub ends_after : ℕ → List ℕ → Bool
ends_after b [] = eqb b newline
ends_after b (c ∷ text) = ends_after c text

abbrev pub ends_line : List ℕ → Bool
ends_line [] = false
ends_line (b ∷ text) = ends_after b text
