-- A maximum of 65 bits scaled to units has 128.
use Rattle.twkb_head.proofs.Prelude.{◌≡◌, ◌+ℤ◌, ap₂, ◌∙◌, arith, rules, ints, to_z-of_z, SFits, to_z, of_z, w8, w128}
use Rattle.twkb_num.specs.Units.{units_of}
use Rattle.twkb_head.proofs.boxes.Span.spelled.Goals as goal

pub returns : goal.returns
returns c =
    let low : to_z w128 (of_z w128 c.from.result) ≡ c.args.minimum = omega (arith, ints) in
    let high : to_z w128 (of_z w128 c.maximum.result) ≡ c.args.minimum +ℤ c.args.width = omega (arith, ints) in
    let at : to_z w8 (of_z w8 c.args.precision) ≡ c.args.precision = omega (arith, ints) in
    let lo_fits : SFits w128 c.units.result = search rules in
    let hi_fits : SFits w128 c.units-2.result = search rules in
    let lo : c.units.result ≡ units_of c.args.minimum c.args.precision = c.units.ensures ∙ ap₂ units_of low at in
    let hi : c.units-2.result ≡ units_of (c.args.minimum +ℤ c.args.width) c.args.precision = c.units-2.ensures ∙ ap₂ units_of high at in
    λ j. record { lo = (to_z-of_z w128 c.units.result lo_fits ∙ lo) j; hi = (to_z-of_z w128 c.units-2.result hi_fits ∙ hi) j }
