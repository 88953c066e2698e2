-- `replay::player::lent::Lent::feed` meets its contract. Assumes nothing.
use Rattle.std.proofs.lemmas.Result.{err_from_is_err_and}
use Rattle.replay.proofs.FeedLaws.{line_within, line_one, line_there, next_line_lem, none_left, stopped_stays}
use mathlib.Core.Path.{◌∙◌, sym}
use native.Mathlib.Omega.{arith}
use borrow.Author.Rules.{rules}
use Rattle.replay.proofs.player.lent.Lent.feed.Goals as goal

pub split_at-requires : goal.split_at-requires
split_at-requires c = omega (arith, c.line_length.ensures, line_within c.loop-rest.rest.now)

pub feed_line-requires : goal.feed_line-requires
feed_line-requires c = line_one c.loop-rest.rest.now _ _ _ c.line_length.ensures (sym c.is_empty.ensures ∙ c.loop-rest-test.true) c.split_at.ensures.front c.split_at.ensures.back

pub returns-in_err-at-clause-fed : goal.returns-in_err-at-clause-fed
returns-in_err-at-clause-fed c = let p = err_from_is_err_and c.from_residual.result c.from_residual.ensures.1 in rw (p.1, p.2)
    (sym (stopped_stays _ _ _ _ c.split_at.result.1.now) ∙ next_line_lem c.loop-rest.rest.now _ _ _ c.line_length.ensures (sym c.is_empty.ensures ∙ c.loop-rest-test.true) c.split_at.ensures.front c.split_at.ensures.back _ _ _ c.loop-rest.invariant.fed c.in_err-at.ensures.fed)

pub loop-rest-smaller : goal.loop-rest-smaller
loop-rest-smaller c = line_there c.loop-rest.rest.now _ _ _ c.line_length.ensures (sym c.is_empty.ensures ∙ c.loop-rest-test.true) c.split_at.ensures.front c.split_at.ensures.back

pub loop-rest-preserved : goal.loop-rest-preserved
loop-rest-preserved c = record {
  same_references = search rules;
  size = omega arith;
  fed = next_line_lem c.loop-rest.rest.now _ _ _ c.line_length.ensures (sym c.is_empty.ensures ∙ c.loop-rest-test.true) c.split_at.ensures.front c.split_at.ensures.back _ _ _ c.loop-rest.invariant.fed c.in_ok-at.ensures.fed;
}

pub returns-clause-fed : goal.returns-clause-fed
returns-clause-fed c = none_left c.loop-rest.rest.now _ _ (sym c.is_empty.ensures ∙ c.loop-rest-test.false) c.loop-rest.invariant.fed
