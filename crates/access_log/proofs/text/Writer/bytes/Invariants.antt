-- `access_log::text::Writer::bytes` meets its contract. The loop's invariant: the text so far with the bytes left is the whole.
-- Assumes nothing.
use Rattle.std.proofs.Common.{◌≡◌, drop}
use Rattle.access_log.specs.Text.{text, with_bytes}
use Rattle.access_log.proofs.text.Writer.bytes.Given as goal

abbrev pub invariant-loop-more_byte : goal.invariant-loop-more_byte
invariant-loop-more_byte l =
    (l.self.out.ghost_name ≡ l.initial.self.out.ghost_name)
    × (with_bytes (text l.self.out.now l.self.len) (drop l.more_byte-index l.more) ≡ with_bytes (text l.initial.self.out.now l.initial.self.len) l.more)
