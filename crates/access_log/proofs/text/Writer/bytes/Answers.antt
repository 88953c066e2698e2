-- `access_log::text::Writer::bytes` meets its contract. Assumes nothing.
use Rattle.std.proofs.Common.{◌∙◌}
use lib.ListN.{drop_of_length-le}
use Rattle.access_log.specs.Text.{with_bytes}
use Rattle.access_log.proofs.TextLaws.{bytes_next}
use Rattle.access_log.proofs.text.Writer.bytes.Goals as goal

pub loop-more_byte-preserved : goal.loop-more_byte-preserved
loop-more_byte-preserved c = (
  c.byte.ensures.0 ∙ c.loop-more_byte.invariant.0,
  rw c.byte.ensures.1 (bytes_next _ c.args.more.now c.loop-more_byte.more_byte-index _ c.loop-more_byte-test.true ∙ c.loop-more_byte.invariant.1),
)

pub returns : goal.returns
unfolding with_bytes
returns c = (
  c.loop-more_byte.invariant.0,
  simp (drop_of_length-le c.args.more.now {i = c.loop-more_byte.more_byte-index} c.loop-more_byte-test.false) at c.loop-more_byte.invariant.1,
)
