-- `evtchn_fifo::guest::evtchn_fifo_bytes_fresh_guest` meets its contract. Assumes nothing.
use Rattle.evtchn_fifo.proofs.GuestFront.{fresh_guest_front}
use Rattle.evtchn_fifo.proofs.guest.evtchn_fifo_bytes_fresh_guest.Goals as goal

pub returns : goal.returns
returns c = fresh_guest_front c.in-Some.ensures.cases (simp c.fresh_guest.ensures at c.put_guest.ensures)
