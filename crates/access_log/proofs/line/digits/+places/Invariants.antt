-- `access_log::line::digits::places` meets its contract. The measure is the number of digits at most. Assumes nothing.
use Rattle.access_log.proofs.line.digits.+places.Given as goal

abbrev pub decreases-places : goal.decreases-places
decreases-places l = l.most
