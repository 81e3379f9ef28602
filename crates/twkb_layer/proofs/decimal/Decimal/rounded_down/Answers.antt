-- Rounding down is rounding away from 0 if the decimal has a minus.
use Rattle.twkb_layer.proofs.Prelude.{◌*◌, ◌^◌, Bool, min, ap, ◌∙◌, rules, to_z-of_z, w128, Decimal, signed, farthest}
use Rattle.twkb_layer.proofs.Rounding.{up_by, lowered_is}
use Rattle.twkb_layer.proofs.decimal.Decimal.rounded_down.Goals as goal

pub returns : goal.returns
returns c =
    let d = c.args.self.now in
    to_z-of_z w128 c.rounded.result (search rules) ∙ (c.rounded.ensures ∙ (ap (λ (b : Bool). signed d.minus (min (up_by b (d.number * 10 ^ 7) (10 ^ d.places)) farthest)) (ap (λ (e : Decimal). e.minus) c.self.view_is) ∙ lowered_is d.minus d.number d.places))
