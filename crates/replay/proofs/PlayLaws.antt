-- Play over lines: one list after another, what a stop leaves, and how the lines are counted.
-- Assumes nothing.
use Prim.Native.Nat.{ℕ, suc, ◌+◌, ◌<◌}
use native.Mathlib.Omega.{arith}
use mathlib.Core.Path.{◌≡◌, refl, ap}
use mathlib.Core.List.{List, [], ◌∷◌, ◌++◌, map}
use borrow.Author.Tests.{lt-ltb}
use Rattle.access_log.specs.declared.line.Line.{Line}
use Rattle.access_log.specs.Line.{bytes_of}
use Rattle.replay.specs.declared.player.Report.{Report}
use Rattle.replay.specs.Replay.{Player, stopped, next_line, played, played_all, starts, ends, replay}
use Rattle.replay.specs.Claims.{log_text, most_lines}
use Rattle.replay.proofs.LineLaws.{lines_of_log}

map_append : (ls ms : List Line) → map bytes_of (ls ++ ms) ≡ map bytes_of ls ++ map bytes_of ms
map_append [] ms = refl
map_append (l ∷ ls) ms = ap (λ (t : List (List ℕ)). bytes_of l ∷ t) (map_append ls ms)

pub played_append : (n : ℕ) (p : Player) (xs ys : List (List ℕ)) → played_all n p (xs ++ ys) ≡ played_all n (played_all n p xs) ys
unfolding played_all
played_append n p [] ys = refl
played_append n p (x ∷ xs) ys = played_append n (played n p x) xs ys

pub stopped_stays : (n : ℕ) (r : Report) (d : List ℕ) (texts : List (List ℕ)) → played_all n (stopped r d) texts ≡ stopped r d
unfolding played played_all
stopped_stays n r d [] = refl
stopped_stays n r d (text ∷ texts) = stopped_stays n r d texts

pub next_line_lem : (k : ℕ) → k < most_lines → next_line k ≡ k + 1
unfolding next_line
next_line_lem k h = simp (lt-ltb k most_lines h)

pub counted : (k j : ℕ) → k + 1 + j ≡ k + suc j
counted k j = omega arith

-- lines, written and played
abbrev pub over : ℕ → Player → List Line → Player
over n p ls = played_all n p (map bytes_of ls)

pub over_append : (n : ℕ) (p : Player) (ls ms : List Line) → over n p (ls ++ ms) ≡ over n (over n p ls) ms
over_append n p ls ms = rw (map_append ls ms) (played_append n p (map bytes_of ls) (map bytes_of ms))

pub replay_over : (n entries words : ℕ) (ls : List Line) → replay n entries words (log_text ls) ≡ ends (over n (starts entries words) ls)
replay_over n entries words ls = rw (lines_of_log ls) refl
