-- There are no points yet.
use Rattle.twkb_body.proofs.Prelude.{refl, sym, ◌∙◌, subst, arith, few_axes, IsAxes}
use Rattle.twkb_body.proofs.ExtentRuns.{axes_known, no_coordinate, none_reach}
use Rattle.twkb_body.proofs.extent_reader.ExtentReader.new.Goals as goal

pub returns : goal.returns
returns g c h axes_are =
    let few = few_axes g.row.AXES (subst IsAxes (sym axes_are) (axes_known h.z h.m)) in
    record {
      axes_are = axes_are;
      same = refl;
      many = refl;
      held = c.none.ensures.held g.row.AXES few;
      stays = c.none.ensures.left;
      lasts = λ k there. no_coordinate k ∙ sym (c.none.ensures.last k (omega (arith, there, few)));
      reach = none_reach h g.row.AXES c.none.result axes_are (λ k there. c.none.ensures.range g.row.AXES k few there);
    }
