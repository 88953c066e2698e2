-- `evtchn_fifo::clear_mask::evtchn_fifo_bytes_service_due` meets its contract. Assumes nothing.
use Rattle.word.specs.Word.{link_bits}
use Rattle.evtchn_fifo.proofs.GuestFront.{guest_due_front}
use Rattle.evtchn_fifo.proofs.clear_mask.evtchn_fifo_bytes_service_due.Goals as goal

pub returns : goal.returns
returns c = rw c.due.ensures (guest_due_front c.in-Some.ensures.cases link_bits)
