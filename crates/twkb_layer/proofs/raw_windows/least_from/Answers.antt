-- A quotient rounded up, or an end of 64 bits, is the least.
use Rattle.twkb_layer.proofs.Prelude.{◌≡◌, true, false, pos, ◌+ℤ◌, to_z, of_z, ap, sym, ◌∙◌, rules, to_z-of_z, w64, w128, lt_z, int_div, int_rem}
use Rattle.twkb_layer.proofs.RawWindows.{least_up, least_as_it_is, more_fits, quotient_is, rest_is}
use Rattle.twkb_layer.proofs.raw_windows.least_from.Goals as goal

pub returns-then-rest-gt0 : goal.returns-then-rest-gt0
returns-then-rest-gt0 c = λ z inner.
    let lo = c.args.lo in
    let unit = c.args.unit in
    let quotient = quotient_is lo unit c.divided-quotient.result.0 c.ranges.lo c.ranges.unit c.requires c.divided-quotient.ensures.quotient in
    let rest : lt_z (pos 0) (int_rem lo unit) ≡ true = ap (lt_z (pos 0)) (rest_is lo unit c.divided-quotient.result.1 c.ranges.lo c.ranges.unit (search rules) c.divided-quotient.ensures.rest) ∙ c.if-rest-gt0.true in
    let more = (λ j. to_z w128 (of_z w128 (quotient j +ℤ pos 1))) ∙ to_z-of_z w128 (int_div lo unit +ℤ pos 1) (more_fits lo unit c.ranges.lo c.requires rest) in
    let own = to_z-of_z w64 c.in_64_bits.result (search rules) in
    least_up lo unit z c.requires rest ∙ (ap (lt_z z) (sym more) ∙ (c.in_64_bits.ensures.below z inner ∙ ap (lt_z z) (sym own)))

pub returns-else-rest-gt0 : goal.returns-else-rest-gt0
returns-else-rest-gt0 c = λ z inner.
    let lo = c.args.lo in
    let unit = c.args.unit in
    let quotient = quotient_is lo unit c.divided-quotient.result.0 c.ranges.lo c.ranges.unit c.requires c.divided-quotient.ensures.quotient in
    let rest : lt_z (pos 0) (int_rem lo unit) ≡ false = ap (lt_z (pos 0)) (rest_is lo unit c.divided-quotient.result.1 c.ranges.lo c.ranges.unit (search rules) c.divided-quotient.ensures.rest) ∙ c.if-rest-gt0.false in
    let own = to_z-of_z w64 c.in_64_bits-else-rest-gt0.result (search rules) in
    least_as_it_is lo unit z c.requires rest ∙ (ap (lt_z z) (sym quotient) ∙ (c.in_64_bits-else-rest-gt0.ensures.below z inner ∙ ap (lt_z z) (sym own)))
