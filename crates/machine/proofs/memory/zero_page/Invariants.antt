-- `machine::memory::zero_page` meets its contract. The loop's invariant: the first i words of the page are 0, all others as
-- they were. Assumes nothing.
use Prim.Native.Nat.{◌≤◌, ◌-◌}
use mathlib.Core.Path.{◌≡◌}
use lib.ListN.{length}
use Rattle.machine.proofs.MemoryLaws.{Zeroed}
use Rattle.machine.proofs.memory.zero_page.Given as goal

abbrev pub invariant-loop-i : goal.invariant-loop-i
invariant-loop-i l = (length l.words ≡ length l.initial.words) × (l.i ≤ 1024) × Zeroed l.page l.i l.initial.words l.words

abbrev pub decreases-loop-i : goal.decreases-loop-i
decreases-loop-i l = 1024 - l.i
