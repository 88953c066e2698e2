-- `evtchn_fifo::hypervisor::evtchn_fifo_bytes_reply` meets its contract. Assumes nothing.
use Rattle.word.specs.Word.{link_bits}
use Rattle.evtchn_fifo.proofs.DomainFront.{reply_front}
use Rattle.evtchn_fifo.proofs.hypervisor.evtchn_fifo_bytes_reply.Goals as goal

pub returns-in-Some : goal.returns-in-Some
returns-in-Some c = reply_front c.in-Some.ensures.cases link_bits _ _ c.reply.ensures
