-- The range of an axis is that of its lanes.
use Rattle.twkb_body.proofs.Prelude.{zero, suc, ◌∙◌, arith, lt-ltb, no_base}
use Rattle.twkb_body.proofs.ExtentLanes.{settles_by}
use Rattle.twkb_body.proofs.extents.lane_ranges.Goals as goal

pub returns : goal.returns
returns g c held zero few four =
    c.of_lanes.ensures ∙ (settles_by g.row.AXES no_base c.args.lanes.now 0 _ _ held few four (c.least_of_axes.ensures 0 few four) (c.greatest_of_axes.ensures 0 few four)).range
returns g c held (suc zero) few four =
    c.of_lanes-2.ensures ∙ (settles_by g.row.AXES no_base c.args.lanes.now 1 _ _ held few four (c.least_of_axes.ensures 1 few four) (c.greatest_of_axes.ensures 1 few four)).range
returns g c held (suc (suc zero)) few four =
    c.range_if.ensures (lt-ltb 2 g.row.AXES few) ∙ (settles_by g.row.AXES no_base c.args.lanes.now 2 _ _ held few four (c.least_of_axes.ensures 2 few four) (c.greatest_of_axes.ensures 2 few four)).range
returns g c held (suc (suc (suc zero))) few four =
    c.range_if-2.ensures (lt-ltb 3 g.row.AXES few) ∙ (settles_by g.row.AXES no_base c.args.lanes.now 3 _ _ held few four (c.least_of_axes.ensures 3 few four) (c.greatest_of_axes.ensures 3 few four)).range
returns g c held (suc (suc (suc (suc k)))) few four = absurd (omega (arith, four))
