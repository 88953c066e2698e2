-- `machine::step::run` meets its contract. The loop's invariant: what is left of the run, from here on, is the whole run.
-- Assumes nothing.
use mathlib.Core.Path.{◌≡◌}
use Prim.Native.Nat.{◌-◌}
use lib.ListN.{length}
use Rattle.word.specs.Word.{link_bits}
use Rattle.machine.specs.Memory.{memory}
use Rattle.machine.specs.Exec.{world, run_of}
use Rattle.machine.proofs.step.run.Given as goal

abbrev pub invariant-loop-turn : goal.invariant-loop-turn
invariant-loop-turn l = (length l.ledger ≡ length l.initial.ledger) × (length l.words ≡ length l.initial.words) × (length l.block ≡ length l.initial.block)
    × (run_of link_bits (l.budget - l.turn) (world l.current l.ledger (memory l.words l.block)) l.side ≡ run_of link_bits l.budget (world l.initial.current l.initial.ledger (memory l.initial.words l.initial.block)) l.side)
