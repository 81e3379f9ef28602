-- A box that holds all points in raw coordinates isn't refused.
use Rattle.twkb_body.proofs.Prelude.{not, ◌==◌}
use Rattle.twkb_body.proofs.ExtentJudging.{held_judged}
use Rattle.twkb_body.proofs.shape.are_held.Goals as goal

pub returns-in-Some : goal.returns-in-Some
returns-in-Some g c = λ held.
    held_judged (not (g.row.TIGHT == 0)) c.args.raw.now c.in-Some.bounds c.args.ranges.now c.in-Some.is (c.are_held_by.ensures held)
