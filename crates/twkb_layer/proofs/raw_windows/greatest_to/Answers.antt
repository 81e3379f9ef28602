-- A quotient rounded down, or an end of 64 bits, is the greatest.
use Rattle.twkb_layer.proofs.Prelude.{◌≡◌, true, false, ℤ, pos, ◌-ℤ◌, to_z, of_z, ap, sym, ◌∙◌, rules, to_z-of_z, w64, w128, lt_z, int_div, int_rem}
use Rattle.twkb_layer.proofs.RawWindows.{greatest_down, greatest_as_it_is, less_fits, quotient_is, rest_is}
use Rattle.twkb_layer.proofs.raw_windows.greatest_to.Goals as goal

pub returns-then-rest-lt0 : goal.returns-then-rest-lt0
returns-then-rest-lt0 c = λ z inner.
    let hi = c.args.hi in
    let unit = c.args.unit in
    let quotient = quotient_is hi unit c.divided-quotient.result.0 c.ranges.hi c.ranges.unit c.requires c.divided-quotient.ensures.quotient in
    let rest : lt_z (int_rem hi unit) (pos 0) ≡ true = ap (λ (r : ℤ). lt_z r (pos 0)) (rest_is hi unit c.divided-quotient.result.1 c.ranges.hi c.ranges.unit (search rules) c.divided-quotient.ensures.rest) ∙ c.if-rest-lt0.true in
    let less = (λ j. to_z w128 (of_z w128 (quotient j -ℤ pos 1))) ∙ to_z-of_z w128 (int_div hi unit -ℤ pos 1) (less_fits hi unit c.ranges.hi c.requires rest) in
    let own = to_z-of_z w64 c.in_64_bits.result (search rules) in
    greatest_down hi unit z c.requires rest ∙ (ap (λ (q : ℤ). lt_z q z) (sym less) ∙ (c.in_64_bits.ensures.above z inner ∙ ap (λ (q : ℤ). lt_z q z) (sym own)))

pub returns-else-rest-lt0 : goal.returns-else-rest-lt0
returns-else-rest-lt0 c = λ z inner.
    let hi = c.args.hi in
    let unit = c.args.unit in
    let quotient = quotient_is hi unit c.divided-quotient.result.0 c.ranges.hi c.ranges.unit c.requires c.divided-quotient.ensures.quotient in
    let rest : lt_z (int_rem hi unit) (pos 0) ≡ false = ap (λ (r : ℤ). lt_z r (pos 0)) (rest_is hi unit c.divided-quotient.result.1 c.ranges.hi c.ranges.unit (search rules) c.divided-quotient.ensures.rest) ∙ c.if-rest-lt0.false in
    let own = to_z-of_z w64 c.in_64_bits-else-rest-lt0.result (search rules) in
    greatest_as_it_is hi unit z c.requires rest ∙ (ap (λ (q : ℤ). lt_z q z) (sym quotient) ∙ (c.in_64_bits-else-rest-lt0.ensures.above z inner ∙ ap (λ (q : ℤ). lt_z q z) (sym own)))
