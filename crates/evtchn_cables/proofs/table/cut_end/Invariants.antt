-- `evtchn_cables::table::cut_end` meets its contract. Assumes nothing.
use mathlib.Core.Path.{◌≡◌}
use Rattle.evtchn_cables.specs.TableBytes.{cut_up_to}
use Rattle.evtchn_cables.proofs.table.cut_end.Given as goal

abbrev pub invariant-loop-slot : goal.invariant-loop-slot
invariant-loop-slot l = l.table ≡ cut_up_to l.slot l.initial.table l.end
