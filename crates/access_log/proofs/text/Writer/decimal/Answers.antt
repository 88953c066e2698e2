-- `access_log::text::Writer::decimal` meets its contract. Assumes nothing.
use Rattle.std.proofs.Common.{refl, ◌∙◌, ◌≡◌, ◌≤◌, ◌<◌}
use native.Mathlib.Omega.{arith}
use Rattle.access_log.specs.Line.{digits, decimal, places}
use Rattle.access_log.specs.Text.{with_bytes}
use Rattle.access_log.proofs.DigitLaws.{places_le, length_tens, digits_next, digits_all}
use Rattle.access_log.proofs.text.Writer.decimal.Goals as goal

pub loop-ten-init : goal.loop-ten-init
unfolding digits with_bytes
loop-ten-init c = (refl, refl)

pub loop-ten-preserved : goal.loop-ten-preserved
loop-ten-preserved c =
    let k : c.places.result ≤ 10 = omega (arith, c.places.ensures, places_le 10 c.args.n) in
    let i : c.loop-ten.ten-index < c.places.result = omega (arith, length_tens c.places.result k) in (
      c.byte.ensures.0 ∙ c.loop-ten.invariant.0,
      rw (c.byte.ensures.1, c.loop-ten.invariant.1, c.digit.ensures, ← c.places.ensures) (digits_next _ c.args.n c.places.result c.loop-ten.ten-index k i),
    )

pub returns : goal.returns
unfolding decimal
returns c =
    let k : c.places.result ≤ 10 = omega (arith, c.places.ensures, places_le 10 c.args.n) in
    let i : c.loop-ten.ten-index ≡ places 10 c.args.n = omega (arith, length_tens c.places.result k, c.places.ensures) in
    (c.loop-ten.invariant.0, rw (c.loop-ten.invariant.1, i, digits_all c.args.n (places 10 c.args.n)) refl)
