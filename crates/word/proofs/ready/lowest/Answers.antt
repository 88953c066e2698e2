-- `word::ready::lowest` meets its contract. Assumes nothing.
use mathlib.Core.Path.{ap, sym}
use Rattle.word.specs.Word.{queue_at}
use Rattle.word.proofs.LowestLaws.{lowest_by_count, lowest_of_none}
use Rattle.word.proofs.ready.lowest.Goals as goal

pub returns-then-bits-eq0 : goal.returns-then-bits-eq0
returns-then-bits-eq0 c = ap queue_at (sym (lowest_of_none _ c.if-bits-eq0.true))

pub returns : goal.returns
returns c = ap queue_at (sym (lowest_by_count _ c.if-bits-eq0.false).1)
