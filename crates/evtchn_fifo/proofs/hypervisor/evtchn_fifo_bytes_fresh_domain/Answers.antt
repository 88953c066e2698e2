-- `evtchn_fifo::hypervisor::evtchn_fifo_bytes_fresh_domain` meets its contract. Assumes nothing.
use Rattle.evtchn_fifo.proofs.DomainFront.{fresh_domain_front}
use Rattle.evtchn_fifo.proofs.hypervisor.evtchn_fifo_bytes_fresh_domain.Goals as goal

pub returns : goal.returns
returns c = fresh_domain_front c.in-Some.ensures.cases (simp c.fresh_domain.ensures at c.put_domain.ensures)
