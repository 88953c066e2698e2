-- C1 to C12 and the further rows hold: the table of cases, run by the machine, is the table itself.
-- Assumes nothing.
use mathlib.Core.Path.{refl}
use Rattle.machine.specs.Computes.{runs}
use Rattle.claims.specs.Cases.{ran_part, ran_parts, ran_case, ran_cases}
use Rattle.claims.specs.FurtherCases.{CasesHold}

pub cases_hold : CasesHold
unfolding runs ran_part ran_parts ran_case ran_cases
cases_hold = refl
