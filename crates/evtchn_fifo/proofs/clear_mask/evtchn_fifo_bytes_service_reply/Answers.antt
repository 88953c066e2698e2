-- `evtchn_fifo::clear_mask::evtchn_fifo_bytes_service_reply` meets its contract. Assumes nothing.
use Rattle.word.specs.Word.{link_bits}
use Rattle.evtchn_fifo.proofs.GuestFront.{guest_reply_front}
use Rattle.evtchn_fifo.proofs.clear_mask.evtchn_fifo_bytes_service_reply.Goals as goal

pub returns-in-Some : goal.returns-in-Some
returns-in-Some c = guest_reply_front c.in-Some.ensures.cases link_bits _ c.reply.ensures
