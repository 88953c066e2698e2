-- `evtchn_fifo::hypervisor::reply` meets its contract. Assumes nothing.
use Rattle.std.proofs.Common.{arith}
use Rattle.word.specs.Word.{link_bits}
use Rattle.evtchn_fifo.proofs.ReplyLaws.{reply_there}
use Rattle.evtchn_fifo.proofs.hypervisor.reply.Goals as goal

pub returns-then-has_entry : goal.returns-then-has_entry
returns-then-has_entry c =
    let a = c.args in
    let entry = rw c.unwrap-entry.ensures at c.as_mut_array.ensures.cases in
    let parts = c.split_at_mut-rest.ensures in
    let pair = c.split_at_mut-pair.ensures in
    simp (parts.front, pair.back, parts.back)
    (reply_there link_bits a.domain.now a.ledger.now a.seen c.fits-domain (simp (← c.is_under_way.ensures) c.if-is_under_way.true) c.u32_at.result c.u32_at.ensures (omega (arith, pair.back_len, parts.back_len)) (simp (entry.same, pair.front, parts.back) at c.reply_staged.ensures.domain) (simp (entry.same, pair.front, parts.back) at c.reply_staged.ensures.entry))
