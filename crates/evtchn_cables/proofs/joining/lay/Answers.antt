-- `evtchn_cables::joining::lay` meets its contract. Assumes nothing.
use Rattle.std.proofs.Common.{arith}
use Rattle.evtchn_cables.proofs.RefusalLaws.{number_some, lay_code_is}
use Rattle.evtchn_cables.proofs.joining.lay.Goals as goal

pub returns-in_err-check : goal.returns-in_err-check
returns-in_err-check c = grind (arith, number_some, lay_code_is)

pub returns-in_err-check_port : goal.returns-in_err-check_port
returns-in_err-check_port c = grind (arith, number_some, lay_code_is)
