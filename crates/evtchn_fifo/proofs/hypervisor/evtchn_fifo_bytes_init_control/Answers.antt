-- `evtchn_fifo::hypervisor::evtchn_fifo_bytes_init_control` meets its contract. Assumes nothing.
use Rattle.word.specs.Word.{link_bits}
use Rattle.evtchn_fifo.proofs.DomainFront.{init_front}
use Rattle.evtchn_fifo.proofs.hypervisor.evtchn_fifo_bytes_init_control.Goals as goal

pub returns : goal.returns
returns c = init_front c.in-Some.ensures.cases link_bits _ _ _ _ (simp (← c.next_or_answer.ensures, c.narrowed-vcpu.ensures, c.narrowed-offset.ensures) at c.init_control.ensures)
