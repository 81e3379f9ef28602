-- A digit that isn't 0 leaves a remainder, and no others do.
use Rattle.twkb_layer.proofs.Prelude.{◌*◌, ◌%◌, ◌^◌, ap, sym, ◌∙◌, arith, Decimal}
use Rattle.twkb_layer.proofs.Decimals.{no_rest_yet, some_rest, is_some}
use Rattle.twkb_layer.proofs.decimal.Decimal.is_between_units.Goals as goal

pub loop-power-preserved : goal.loop-power-preserved
loop-power-preserved c = no_rest_yet (c.args.self.now.number * 10 ^ 7) c.loop-power.power c.loop-power.invariant (sym c.digit.ensures ∙ c.if-digit-ne0.false)

pub returns-then-digit-ne0 : goal.returns-then-digit-ne0
returns-then-digit-ne0 c =
    let places = ap (λ (d : Decimal). d.places) c.self.view_is in
    is_some (c.args.self.now.number * 10 ^ 7 % 10 ^ c.args.self.now.places)
    (some_rest (c.args.self.now.number * 10 ^ 7) c.loop-power.power c.args.self.now.places (omega (arith, places, c.loop-power-test.true)) (λ e. c.if-digit-ne0.true (c.digit.ensures ∙ e)))
