-- `evtchn_fifo::numbers::put_values` meets its contract. The loop's invariant: so many numbers are written. Assumes nothing.
use Rattle.std.proofs.Common.{◌≡◌, take}
use Rattle.evtchn_fifo.specs.Numbers.{put_numbers}
use Rattle.evtchn_fifo.proofs.numbers.put_values.Given as goal

abbrev pub invariant-loop-queue : goal.invariant-loop-queue
invariant-loop-queue l = l.bytes ≡ put_numbers 3 l.initial.bytes l.base (take l.queue l.values)
