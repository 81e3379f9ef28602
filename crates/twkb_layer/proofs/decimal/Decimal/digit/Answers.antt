-- The digit is one of the zeros, of the fraction or of the whole.
use Rattle.twkb_layer.proofs.Prelude.{◌*◌, ◌/◌, ◌%◌, ◌^◌, ap, sym, ◌∙◌, Decimal}
use Rattle.twkb_layer.proofs.Decimals.{zero_digit, digit_here, digit_before}
use Rattle.twkb_layer.proofs.decimal.Decimal.digit.Goals as goal

pub returns-then-power-zeros : goal.returns-then-power-zeros
returns-then-power-zeros c = sym (zero_digit c.args.self.now.number c.args.zeros c.args.power c.if-power-zeros.true)

pub returns-then-power-places : goal.returns-then-power-places
returns-then-power-places c =
    digit_here c.self.inside.whole.now c.self.inside.fraction.now c.args.zeros c.args.power c.digit_of.result c.self.invariant.fraction_digits c.if-power-zeros.false c.if-power-places.true c.digit_of.ensures
    ∙ ap (λ (d : Decimal). d.number * 10 ^ c.args.zeros / 10 ^ c.args.power % 10) c.self.view_is

pub returns-else-power-places : goal.returns-else-power-places
returns-else-power-places c =
    digit_before c.self.inside.whole.now c.self.inside.fraction.now c.args.zeros c.args.power c.digit_of-else-power-places.result c.self.invariant.fraction_digits c.if-power-zeros.false c.if-power-places.false
    c.digit_of-else-power-places.ensures
    ∙ ap (λ (d : Decimal). d.number * 10 ^ c.args.zeros / 10 ^ c.args.power % 10) c.self.view_is
