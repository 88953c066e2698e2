-- A call that names twelve accesses, a service that names five and a clear_mask that names two, run.
-- Assumes nothing.
use mathlib.Core.Path.{refl}
use Rattle.machine.specs.Computes.{runs}
use Rattle.claims.specs.Reach.{LimitsReached}

pub limits_reached : LimitsReached
unfolding runs
limits_reached = record { call = refl; service = refl; clear = refl }
