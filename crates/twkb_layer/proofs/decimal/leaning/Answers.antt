-- The sum is small, so no bits are lost.
use Rattle.twkb_layer.proofs.Prelude.{pos, ◌+ℤ◌, ◌-ℤ◌, ◌*ℤ◌, FitsSigned, ◌∙◌, arith, rules, w64, ints, to_z-of_z}
use Rattle.twkb_layer.proofs.decimal.leaning.Goals as goal

pub returns : goal.returns
returns c =
    let ahead_fits : FitsSigned w64 c.args.ahead = c.ranges.ahead in
    let digit_fits : FitsSigned w64 c.args.digit = c.ranges.digit in
    let other_fits : FitsSigned w64 c.args.other = c.ranges.other in
    let tens : FitsSigned w64 (c.args.ahead *ℤ pos 10) = omega (arith, ints) in
    let step : FitsSigned w64 (c.args.digit -ℤ c.args.other) = omega (arith, ints) in
    let sum : FitsSigned w64 (c.args.ahead *ℤ pos 10 +ℤ (c.args.digit -ℤ c.args.other)) = omega (arith, ints) in
    let leans = simp to_z-of_z at c.clamp.ensures.value in
    to_z-of_z w64 c.clamp.result (search rules) ∙ leans
