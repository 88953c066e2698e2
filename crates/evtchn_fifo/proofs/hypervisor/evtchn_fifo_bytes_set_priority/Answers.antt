-- `evtchn_fifo::hypervisor::evtchn_fifo_bytes_set_priority` meets its contract. Assumes nothing.
use Rattle.word.specs.Word.{link_bits}
use Rattle.evtchn_fifo.proofs.DomainFront.{on_port_front}
use Rattle.evtchn_fifo.proofs.hypervisor.evtchn_fifo_bytes_set_priority.Goals as goal

pub returns : goal.returns
returns c = on_port_front c.in-Some.ensures.cases link_bits _ _ _ (simp (← c.next_or_answer.ensures, c.narrowed.ensures) at c.set_priority.ensures)
