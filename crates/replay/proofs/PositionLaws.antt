-- A position of C and code's own types are the same: `feed_at` and `feed_of` agree.
-- Assumes nothing.
use Prim.Native.Nat.{ℕ}
use native.Mathlib.Omega.{arith}
use mathlib.Core.Path.{◌≡◌, refl, ap, ◌∙◌, sym}
use mathlib.Core.Bool.{Bool, true, false, cond, not}
use mathlib.Core.List.{List, [], ◌∷◌}
use lib.ListN.{take}
use lib.Dec.{eqb}
use borrow.Author.Tests.{ne_eqb}
use Rattle.std.specs.Prelude.{Option, Some, None, Result, Ok, Err, MatchOption}
use Rattle.std.specs.Option.{option_map_or, option_map}
use Rattle.std.specs.Int.{from_bool}
use Rattle.std.specs.Int.NonZero.{non_zero_usize_get}
use Rattle.std.specs.declared.num.NonZeroUsize.{NonZeroUsize}
use Rattle.machine.specs.declared.types.Side.TheVariants as side
use Rattle.machine.specs.Exec.{World}
use Rattle.access_log.specs.declared.line.Line.TheVariants as line
use Rattle.access_log.specs.Line.{bytes_of}
use Rattle.replay.specs.declared.player.Position.{Position}
use Rattle.replay.specs.declared.player.due.Due.{Due}
use Rattle.replay.specs.declared.player.due.Stop.{Stop}
use Rattle.replay.specs.declared.player.due.Stop.TheVariants.{Differs, NotOfTheForm, NotLent}
use Rattle.replay.specs.declared.player.progress.Playing.{Playing}
use Rattle.replay.specs.declared.player.progress.Stopped.{Stopped}
use Rattle.replay.specs.Replay.{Player, playing}
use Rattle.replay.specs.Player.{feed}
use Rattle.replay.specs.State.{then_answer, due_in, due_lines, stop_kind, stopped_by, player_at, feed_at, due_of, playing_after, feed_of, position_due, position_of}

-- ---- what is due

-- a line that has just ended leaves what is due after it
mask_again : (b : Bool) → not (eqb (from_bool b) 0) ≡ b
mask_again true = refl
mask_again false = refl

pub due_again : (k : ℕ) (d : Option Due) → due_of (playing_after k d) ≡ d
due_again k None = refl
due_again k (Some d) = ap (λ (b : Bool). Some (record { len = d.len; masks = b })) (mask_again d.masks)

masks_by : (b : Bool) → then_answer (not b) ≡ cond b [] (bytes_of (line.Answer side.Guest 0) ∷ [])
masks_by true = refl
masks_by false = refl

due_by : (d : Option NonZeroUsize) (mask : ℕ) (due : List ℕ) →
    due_in due (option_map_or non_zero_usize_get d 0) mask ≡ due_lines (option_map (λ len. record { len = len; masks = not (eqb mask 0) }) d) due
unfolding due_in due_lines
due_by None mask due = refl
due_by (Some len) mask due = simp (ne_eqb len.value 0 (λ z. omega (arith, len.ok)), masks_by (eqb mask 0))

-- ---- positions

stopped_at_by : (s : Stop) (k : ℕ) (due : List ℕ) (w : World) → player_at (record { lines = k; line = 0; due = position_due s; mask = 0; stop = stop_kind s }) due w ≡ stopped_by s k due
unfolding player_at
stopped_at_by (Differs n) k due w = refl
stopped_at_by (NotOfTheForm n) k due w = refl
stopped_at_by NotLent k due w = refl

pub position_feeds : (r : Result Playing Stopped) (line due : List ℕ) (w : World) → feed_at (position_of r) line due w ≡ feed_of r line due w
unfolding position_of feed_of feed_at player_at
position_feeds (Ok p) line due w = ap (λ (ds : List (List ℕ)). feed (playing w ds p.lines) (take p.line line)) (due_by p.due p.mask due)
position_feeds (Err p) line due w = ap (λ (x : Player). feed x (take p.line line)) (stopped_at_by p.stop p.lines due w)

pub feeds_by : (q : Position) (r : Result Playing Stopped) → q ≡ position_of r → (line due : List ℕ) (w : World) → feed_at q line due w ≡ feed_of r line due w
feeds_by q r e line due w = ap (λ (x : Position). feed_at x line due w) e ∙ position_feeds r line due w

-- a position that has not stopped is that of its parts
abbrev with_numbers : Position → ℕ → ℕ → Position
with_numbers q due stop = record { lines = q.lines; line = q.line; due = due; mask = q.mask; stop = stop }

numbers_of : (q : Position) (due : ℕ) → q.due ≡ due → q.stop ≡ 0 → q ≡ with_numbers q due 0
numbers_of q due e s = ap (λ (n : ℕ). with_numbers q n q.stop) e ∙ ap (with_numbers q due) s

pub playing_is : (q : Position) (d : Option NonZeroUsize) → q.stop ≡ 0 → MatchOption d (q.due ≡ 0) (λ n. non_zero_usize_get n ≡ q.due) →
    q ≡ position_of (Ok (record { lines = q.lines; line = q.line; due = d; mask = q.mask }))
unfolding position_of
playing_is q None s e = numbers_of q 0 e s
playing_is q (Some n) s e = numbers_of q (non_zero_usize_get n) (sym e) s
