-- Of two axes, the second point of each half is two differences from the last one before.
use Rattle.twkb_body.proofs.Prelude.{ℤ, List, [], ◌∷◌, ◌++◌, map, sym, ap, ap₂, ◌∙◌, subst, w16, All, cast_signed, IsBrief}
use Rattle.twkb_body.proofs.LaneSums.{lanes_are}
use Rattle.twkb_body.proofs.ExtentLanes.{two_steps, one_step, brief_steps}
use Rattle.twkb_body.proofs.extent_lanes.brief_steps_of.Goals as goal
use Rattle.twkb_body.proofs.extent_lanes.brief_steps_of.Goals.{then-this-eq2, else-this-eq2}

pub returns : goal.returns
returns g c a b c' d e f g' h is =
    let numbers = lanes_are w16 c.args.numbers (a ∷ b ∷ c' ∷ d ∷ e ∷ f ∷ g' ∷ h ∷ []) c.fits-numbers.1 is in
    let short = subst (All IsBrief) is c.requires.brief in
    elim c.if-this-eq2.branch [
      | then-this-eq2 w ↦
          brief_steps c.args.numbers c.if-this-eq2.result a b c' d e f g' h numbers short (λ ka kb kc kd ke kf kg kh eq. w.result-is ∙ w.with_brief_pair_before.ensures ka kb kc kd ke kf kg kh eq)
          ∙ ap₂ (λ (xs ys : List ℤ). xs ++ ys) (sym (two_steps g.row.AXES a b c' d w.if-this-eq2.true)) (sym (two_steps g.row.AXES e f g' h w.if-this-eq2.true))
      | else-this-eq2 w ↦
          ap (map (cast_signed w16)) w.result-is ∙ is ∙ ap₂ (λ (xs ys : List ℤ). xs ++ ys) (sym (one_step g.row.AXES a b c' d w.if-this-eq2.false)) (sym (one_step g.row.AXES e f g' h w.if-this-eq2.false))
    ]
