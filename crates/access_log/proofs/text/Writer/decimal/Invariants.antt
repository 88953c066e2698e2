-- `access_log::text::Writer::decimal` meets its contract. The loop's invariant: the first digits are appended. Assumes nothing.
use Rattle.std.proofs.Common.{◌-◌, ◌/◌, ◌^◌}
use Rattle.access_log.specs.Line.{digits, places}
use Rattle.access_log.specs.Text.{Appends}
use Rattle.access_log.proofs.text.Writer.decimal.Given as goal

abbrev pub invariant-loop-ten : goal.invariant-loop-ten
invariant-loop-ten l = Appends l.initial.self l.self (digits 10 l.ten-index (l.n / 10 ^ (places 10 l.n - l.ten-index)))
