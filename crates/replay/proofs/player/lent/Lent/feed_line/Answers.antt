-- `replay::player::lent::Lent::feed_line` meets its contract. Assumes nothing.
use Rattle.replay.proofs.FeedLaws.{whole_goes_on, whole_stops, kept_goes_on, kept_stops}
use mathlib.Core.Path.{sym, ◌∙◌}
use native.Mathlib.Omega.{arith}
use borrow.Author.Rules.{rules}
use Rattle.replay.proofs.player.lent.Lent.feed_line.Goals as goal

pub returns-in-Ok-clause-fed : goal.returns-in-Ok-clause-fed
returns-in-Ok-clause-fed c = whole_goes_on c.args.at _ _ _ _ c.requires (sym c.is_ended.ensures ∙ c.if-not-is_ended.false) (omega arith) (omega arith) _ _ _ (rw c.due_line-due.ensures at c.play_line.ensures.played) _ _ c.in-Ok.is c.next.ensures

pub returns-in-Err-clause-fed : goal.returns-in-Err-clause-fed
returns-in-Err-clause-fed c = whole_stops c.args.at _ _ _ _ c.requires (sym c.is_ended.ensures ∙ c.if-not-is_ended.false) (omega arith) (omega arith) _ _ _ (rw c.due_line-due.ensures at c.play_line.ensures.played) _ _ _ _ (search rules) c.put_bytes.ensures c.in-Err.is c.stopped.ensures

pub returns-in-Ok-play_line-clause-fed : goal.returns-in-Ok-play_line-clause-fed
returns-in-Ok-play_line-clause-fed c = kept_goes_on c.args.at _ _ _ _ c.requires (sym c.is_ended.ensures ∙ c.if-not-is_ended.false) (search rules) _ _ c.put_bytes-len-2.ensures _ _ _ (rw (c.min.ensures, c.due_line-due.ensures) at c.play_line-2.ensures.played) _ _ c.in-Ok-play_line.is c.next-in-Ok-play_line.ensures

pub returns-in-Err-play_line-clause-fed : goal.returns-in-Err-play_line-clause-fed
returns-in-Err-play_line-clause-fed c = kept_stops c.args.at _ _ _ _ c.requires (sym c.is_ended.ensures ∙ c.if-not-is_ended.false) (search rules) _ _ c.put_bytes-len-2.ensures _ _ _ (rw (c.min.ensures, c.due_line-due.ensures) at c.play_line-2.ensures.played) _ _ c.in-Err-play_line.is c.stopped-in-Err-play_line.ensures
