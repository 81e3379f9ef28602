-- Rounding up is rounding away from 0 if the decimal has no minus.
use Rattle.twkb_layer.proofs.Prelude.{◌*◌, ◌^◌, Bool, not, min, ap, ◌∙◌, rules, to_z-of_z, w128, Decimal, signed, farthest}
use Rattle.twkb_layer.proofs.Rounding.{up_by, raised_is}
use Rattle.twkb_layer.proofs.decimal.Decimal.rounded_up.Goals as goal

pub returns : goal.returns
returns c =
    let d = c.args.self.now in
    to_z-of_z w128 c.rounded.result (search rules) ∙ (c.rounded.ensures ∙ (ap (λ (b : Bool). signed d.minus (min (up_by (not b) (d.number * 10 ^ 7) (10 ^ d.places)) farthest)) (ap (λ (e : Decimal). e.minus) c.self.view_is) ∙ raised_is d.minus d.number d.places))
