-- `machine::step::run` meets its contract. The loop's invariant: what is left of the run, from here on, is the whole run.
-- Assumes nothing.
use mathlib.Core.Path.{◌≡◌, sym, ◌∙◌}
use Prim.Native.Nat.{ℕ, ◌-◌, ◌+◌}
use native.Mathlib.Omega.{arith}
use Rattle.word.specs.Word.{link_bits}
use Rattle.machine.specs.Exec.{run_of}
use Rattle.machine.proofs.StepLaws.{run_ends, run_goes_on}
use Rattle.machine.proofs.step.run.Goals as goal

pub returns-then-is_answer : goal.returns-then-is_answer
returns-then-is_answer c = sym (run_ends link_bits _ _ _ c.perform_side-advance.ensures (c.args.budget - c.loop-turn.turn) (omega arith) (sym c.is_answer.ensures ∙ c.if-is_answer.true)) ∙ c.loop-turn.invariant.3

less : (budget turn : ℕ) → budget - (turn + 1) ≡ budget - turn - 1
less budget turn = omega arith

pub loop-turn-preserved : goal.loop-turn-preserved
loop-turn-preserved c = (
  omega arith,
  omega arith,
  omega arith,
  rw (less c.args.budget c.loop-turn.turn) (sym (run_goes_on link_bits _ _ _ c.perform_side-advance.ensures (c.args.budget - c.loop-turn.turn) (omega arith) (sym c.is_answer.ensures ∙ c.if-is_answer.false)) ∙ c.loop-turn.invariant.3),
)

pub returns : goal.returns
unfolding run_of
returns c = let none : c.args.budget - c.loop-turn.turn ≡ 0 = omega arith in
    rw none at c.loop-turn.invariant.3
