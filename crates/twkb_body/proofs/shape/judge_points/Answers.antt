-- The ranges of the axes are those of all points, by which the box is judged, and which the boxes above see.
use Rattle.twkb_body.proofs.Prelude.{not, ◌==◌, sym, ap, subst, ◌∙◌, head_said, box_judged, of_head}
use Rattle.twkb_body.proofs.ExtentJudging.{settled_is}
use Rattle.twkb_body.proofs.shape.judge_points.Goals as goal

pub returns-then-are_held-clause-boxed : goal.returns-then-are_held-clause-boxed
returns-then-are_held-clause-boxed g c =
    let head = head_said c.args.raw.now in
    let all = settled_is (of_head head) g.row.AXES c.args.all.now c.ranges-ranges.result c.requires.axes (c.ranges-ranges.ensures c.requires.held) in
    sym (ap (box_judged (not (g.row.TIGHT == 0)) (of_head head) head.bounds) (sym all) ∙ c.are_held.ensures c.if-are_held.true)

pub returns-then-are_held-clause-seen : goal.returns-then-are_held-clause-seen
returns-then-are_held-clause-seen g c =
    let all = settled_is (of_head (head_said c.args.raw.now)) g.row.AXES c.args.all.now c.ranges-ranges.result c.requires.axes (c.ranges-ranges.ensures c.requires.held) in
    subst (g.A.Above.saw c.args.above.now c.show.new.self) all c.show.ensures

pub returns-clause-boxed : goal.returns-clause-boxed
returns-clause-boxed g c =
    let head = head_said c.args.raw.now in
    let all = settled_is (of_head head) g.row.AXES c.args.all.now c.ranges-ranges.result c.requires.axes (c.ranges-ranges.ensures c.requires.held) in
    c.judge_in_units.ensures ∙ ap (box_judged (not (g.row.TIGHT == 0)) (of_head head) head.bounds) all

pub returns-clause-seen : goal.returns-clause-seen
returns-clause-seen g c =
    let all = settled_is (of_head (head_said c.args.raw.now)) g.row.AXES c.args.all.now c.ranges-ranges.result c.requires.axes (c.ranges-ranges.ensures c.requires.held) in
    subst (g.A.Above.saw c.args.above.now c.show.new.self) all c.show.ensures
