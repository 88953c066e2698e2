-- `machine::memory::zero_page` meets its contract. The loop's invariant: the first i words of the page are 0, all others as
-- they were. Assumes nothing.
use mathlib.Core.Path.{◌≡◌, refl, ap, ◌∙◌}
use native.Mathlib.Omega.{arith}
use lib.ListN.{length, length-set}
use Rattle.machine.proofs.MemoryLaws.{zeroed_none, zeroed_more, zeroed_all}
use Rattle.machine.proofs.memory.zero_page.Goals as goal

pub loop-i-init : goal.loop-i-init
loop-i-init c = (refl, omega arith, zeroed_none _ _)

pub loop-i-preserved : goal.loop-i-preserved
loop-i-preserved c = (
  ap length c.put_word.ensures ∙ simp length-set c.loop-i.invariant.0,
  omega arith,
  rw c.put_word.ensures (zeroed_more _ _ _ _ c.loop-i.invariant.2),
)

pub shape_of-words : goal.shape_of-words
shape_of-words c = c.loop-i.invariant.0

pub returns : goal.returns
returns c = let done : c.loop-i.i ≡ 1024 = omega arith in
    zeroed_all _ _ _ c.loop-i.invariant.0 (rw done at c.loop-i.invariant.2)
