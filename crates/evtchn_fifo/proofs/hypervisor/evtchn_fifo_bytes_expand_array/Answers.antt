-- `evtchn_fifo::hypervisor::evtchn_fifo_bytes_expand_array` meets its contract. Assumes nothing.
use Rattle.word.specs.Word.{link_bits}
use Rattle.evtchn_fifo.proofs.DomainFront.{expand_front}
use Rattle.evtchn_fifo.proofs.hypervisor.evtchn_fifo_bytes_expand_array.Goals as goal

pub returns : goal.returns
returns c = expand_front c.in-Some.ensures.cases link_bits _ _ (simp (← c.next_or_answer.ensures) at c.expand_array.ensures)
