-- Of two axes, the second point is two differences from the last one before.
use Rattle.twkb_body.proofs.Prelude.{[], ◌∷◌, map, sym, ap, ◌∙◌, subst, w32, cast_unsigned, All, IsShort}
use Rattle.twkb_body.proofs.LaneSums.{lanes_are}
use Rattle.twkb_body.proofs.ExtentLanes.{two_steps, one_step, wide_steps}
use Rattle.twkb_body.proofs.extent_lanes.steps_of.Goals as goal
use Rattle.twkb_body.proofs.extent_lanes.steps_of.Goals.{then-this-eq2, else-this-eq2}

pub returns : goal.returns
returns g c a b c' d is =
    let numbers = lanes_are w32 c.args.numbers (a ∷ b ∷ c' ∷ d ∷ []) c.fits-numbers.1 is in
    let short = subst (All IsShort) is c.requires.short in
    elim c.if-this-eq2.branch [
      | then-this-eq2 w ↦ wide_steps c.args.numbers c.if-this-eq2.result a b c' d numbers short (λ ka kb kc kd e. w.result-is ∙ w.with_pair_before.ensures ka kb kc kd e) ∙ ap (map (cast_unsigned w32)) (sym (two_steps g.row.AXES a b c' d w.if-this-eq2.true))
      | else-this-eq2 w ↦ w.result-is ∙ numbers ∙ ap (map (cast_unsigned w32)) (sym (one_step g.row.AXES a b c' d w.if-this-eq2.false))
    ]
