-- `evtchn_fifo::replies::reply_r2` meets its contract. Assumes nothing.
use Rattle.std.proofs.Common.{rules}
use Rattle.word.specs.Word.{link_bits}
use Rattle.evtchn_fifo.proofs.ReplyLaws.{r2_steps}
use Rattle.evtchn_fifo.proofs.replies.reply_r2.Goals as goal

pub returns-clause-domain : goal.returns-clause-domain
returns-clause-domain c =
    let a = c.args in
    rw (← c.u16_at-old.ensures)
    (r2_steps link_bits a.domain.now a.seen _ c.u16_at-old.result _ _ (search rules) (simp c.has.ensures at c.if-has.false) c.call_at-call.ensures (simp c.priority_of.ensures at c.queue_of-queue.ensures) c.clear_stale.ensures c.from_r2.ensures)
