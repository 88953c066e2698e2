-- `evtchn_fifo::guest::evtchn_fifo_bytes_service` meets its contract. Assumes nothing.
use Rattle.word.specs.Word.{link_bits}
use Rattle.evtchn_fifo.proofs.GuestFront.{service_front}
use Rattle.evtchn_fifo.proofs.guest.evtchn_fifo_bytes_service.Goals as goal

pub returns : goal.returns
returns c = service_front c.in-Some.ensures.cases link_bits c.service.ensures
