-- `replay::player::lent::Lent::call` meets its contract. Assumes nothing.
use Rattle.replay.proofs.DueLaws.{line_put}
use Rattle.replay.proofs.OpenLaws.{called}
use mathlib.Core.Path.{sym, ◌∙◌}
use borrow.Author.Rules.{rules}
use Rattle.replay.proofs.player.lent.Lent.call.Goals as goal

pub returns-then-starts_as-clause-opened : goal.returns-then-starts_as-clause-opened
returns-then-starts_as-clause-opened c = λ k. c.begin.ensures.begun k ∙ called _ k _ _ c.call_in-call.ensures _ _ (line_put _ _ _ _ (search rules) c.put_line-len.ensures) (sym c.starts_as.ensures ∙ c.if-starts_as.true)
