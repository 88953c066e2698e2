-- `access_log::text::Writer::fields` meets its contract. The loop's invariant: the text so far with the fields left is the whole.
-- Assumes nothing.
use Rattle.std.proofs.Common.{◌≡◌, drop}
use Rattle.access_log.specs.Text.{text, with_bytes}
use Rattle.access_log.specs.Line.Parts.{fields_of}
use Rattle.access_log.proofs.text.Writer.fields.Given as goal

abbrev pub invariant-loop-field : goal.invariant-loop-field
invariant-loop-field l =
    (l.self.out.ghost_name ≡ l.initial.self.out.ghost_name)
    × (with_bytes (text l.self.out.now l.self.len) (fields_of (drop l.field-index l.fields)) ≡ with_bytes (text l.initial.self.out.now l.initial.self.len) (fields_of l.fields))
