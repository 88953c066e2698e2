-- `evtchn_fifo::clear_mask::evtchn_fifo_bytes_clear_mask` meets its contract. Assumes nothing.
use Rattle.word.specs.Word.{link_bits}
use Rattle.evtchn_fifo.proofs.GuestFront.{clear_mask_front}
use Rattle.evtchn_fifo.proofs.clear_mask.evtchn_fifo_bytes_clear_mask.Goals as goal

pub returns : goal.returns
returns c = clear_mask_front c.in-Some.ensures.cases link_bits _ (simp c.narrowed.ensures at c.clear_mask.ensures)
