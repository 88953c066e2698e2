-- `word::effect::after_cas` meets its contract where the cas is not taken. The check finds this by itself; it stands here so that the
-- prover's refusal of a wrong word there names both sides, as the demo shows it (host/c/demo/broken). Assumes nothing.
use Rattle.word.specs.Effect.{after_cas}
use Rattle.word.proofs.effect.after_cas.Goals as goal

pub returns-else-cas_taken : goal.returns-else-cas_taken
unfolding after_cas
returns-else-cas_taken c = simp (← c.cas_taken.ensures, c.if-cas_taken.false)
