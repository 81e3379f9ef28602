-- Each half of the lanes is widened.
use Rattle.twkb_body.proofs.Prelude.{rules, ℕ, List, [], ◌∷◌, ◌++◌, map, ap, ◌∙◌, w16, w32, cast_signed, cast_unsigned, pick_l}
use Rattle.twkb_body.proofs.ExtentLanes.{widened_steps}
use Rattle.twkb_body.proofs.extent_lanes.narrow_steps_of.Goals as goal

pub returns : goal.returns
returns g c a b c' d e f g' h is =
    let sums = c.brief_steps_of-sums in
    widened_steps g.row.AXES sums.result c.widened.result c.widened-2.result a b c' d e f g' h (search rules) (sums.ensures a b c' d e f g' h is)
    (λ p q r s t u v w eq. (
      c.widened.ensures ∙ ap (λ (s : List ℕ). map (λ (n : ℕ). cast_unsigned w32 (cast_signed w16 n)) (pick_l 0 (s ++ s) (0 ∷ 1 ∷ 2 ∷ 3 ∷ []))) eq,
      c.widened-2.ensures ∙ ap (λ (s : List ℕ). map (λ (n : ℕ). cast_unsigned w32 (cast_signed w16 n)) (pick_l 0 (s ++ s) (4 ∷ 5 ∷ 6 ∷ 7 ∷ []))) eq,
    ))
