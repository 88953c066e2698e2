-- `evtchn_fifo::ledger::evtchn_fifo_bytes_fresh_ledger` meets its contract. The loop's invariant: so many entries are filled. Assumes nothing.
use mathlib.Core.Path.{◌≡◌}
use Rattle.evtchn_fifo.specs.Ledger.{fill_entries}
use Rattle.evtchn_fifo.proofs.ledger.evtchn_fifo_bytes_fresh_ledger.Given as goal

abbrev pub invariant-loop-port : goal.invariant-loop-port
invariant-loop-port l = l.ledger ≡ fill_entries l.port l.initial.ledger l.fresh
