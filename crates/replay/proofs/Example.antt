-- The example, by computation.
-- Assumes nothing.
use mathlib.Core.Path.{refl}
use lib.Dec.{lit≤}
use Rattle.calls.specs.Answers.{code_of}
use Rattle.machine.specs.Computes.{runs}
use Rattle.access_log.specs.Line.{digit, digits, places, decimal, hex8, side_of, place_of, row, access_bytes, call_bytes, bytes_of, LegalCall}
use Rattle.access_log.specs.Event.{seen_in, access_line, answer_line, line_of}
use Rattle.access_log.specs.Text.{same}
use Rattle.access_log.specs.Read.{field, after, value_from, value, guess_from, guess, read_line}
use Rattle.replay.specs.Replay.{fresh_world, step_of_call, adds, ran, due_after, next_line, opens, played, played_all, lines_of, ends}
use Rattle.replay.specs.Claims.{joined, lines_of_events, recorded, Recordable}
use Rattle.replay.specs.Example.{Example}

pub example : Example
unfolding code_of runs digit digits places decimal hex8 side_of place_of row access_bytes call_bytes bytes_of LegalCall seen_in access_line answer_line line_of same field after value_from value guess_from guess read_line fresh_world step_of_call adds ran due_after next_line opens played played_all lines_of ends joined lines_of_events recorded Recordable
example = record {
  may = (((lit≤ tt, lit≤ tt, lit≤ tt), refl), ((lit≤ tt, refl), ((lit≤ tt, refl), (refl, ((lit≤ tt, refl), (refl, (refl, (refl, (refl, ((lit≤ tt, refl), ((tt, refl), (refl, ((lit≤ tt, refl), (refl, (refl, (refl, (refl, (refl, (refl, ((lit≤ tt, refl), tt))))))))))))))))))));
  written = refl;
  agrees = refl;
  early = refl;
  differs = refl;
  unread = refl;
  unlent = refl;
}
