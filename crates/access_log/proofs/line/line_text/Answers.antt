-- `access_log::line::line_text` meets its contract: every line fits the buffer. Assumes nothing.
use native.Mathlib.Omega.{arith}
use Rattle.access_log.specs.Text.{text}
use Rattle.access_log.proofs.TextLaws.{holds}
use Rattle.access_log.proofs.LengthLaws.{line_fits}
use Rattle.access_log.proofs.line.line_text.Goals as goal

pub shared_ref_as_front-result : goal.shared_ref_as_front-result
unfolding text
shared_ref_as_front-result c = omega (arith, line_fits c.args.line, (holds _ c.told-buffer c.put_line-len.ensures (line_fits _)).len)

pub returns : goal.returns
unfolding text
returns c = let k = holds _ c.told-buffer c.put_line-len.ensures (line_fits _) in
    simp (k.len, k.bytes)
