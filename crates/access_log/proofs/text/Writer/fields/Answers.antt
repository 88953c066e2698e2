-- `access_log::text::Writer::fields` meets its contract. Assumes nothing.
use Rattle.std.proofs.Common.{◌∙◌}
use lib.ListN.{drop_of_length-le}
use Rattle.access_log.specs.Line.Parts.{fields_of}
use Rattle.access_log.proofs.TextLaws.{fields_next}
use Rattle.access_log.proofs.text.Writer.fields.Goals as goal

pub loop-field-preserved : goal.loop-field-preserved
loop-field-preserved c = (
  c.field.ensures.0 ∙ c.byte.ensures.0 ∙ c.loop-field.invariant.0,
  rw (c.field.ensures.1, c.byte.ensures.1) (fields_next _ c.args.fields.now c.loop-field.field-index _ c.loop-field-test.true ∙ c.loop-field.invariant.1),
)

pub returns : goal.returns
unfolding fields_of
returns c = (
  c.byte-2.ensures.0 ∙ c.loop-field.invariant.0,
  let e = simp (drop_of_length-le c.args.fields.now {i = c.loop-field.field-index} c.loop-field-test.false) at c.loop-field.invariant.1 in
      c.byte-2.ensures.1 ∙ e,
)
