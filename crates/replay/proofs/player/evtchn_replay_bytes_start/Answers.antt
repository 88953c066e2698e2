-- `replay::player::evtchn_replay_bytes_start` meets its contract. Assumes nothing.
use Rattle.replay.proofs.StartLaws.{started}
use Rattle.replay.proofs.PositionLaws.{feeds_by}
use borrow.Author.Rules.{rules}
use Rattle.replay.proofs.player.evtchn_replay_bytes_start.Goals as goal

pub returns : goal.returns
returns c = started _ _ _ (search rules) (search rules) _ _ _ _ c.args.block.now _ _ _ _ _ _ _ _ c.evtchn_fifo_bytes_fresh_domain.ensures c.evtchn_fifo_bytes_fresh_ledger.ensures c.evtchn_fifo_bytes_fresh_guest.ensures (c.fill.ensures.after (search rules)) (search rules) (c.fill-2.ensures.after (search rules)) c.put_due.ensures (feeds_by _ _ (rw c.after.ensures at c.from.ensures))
