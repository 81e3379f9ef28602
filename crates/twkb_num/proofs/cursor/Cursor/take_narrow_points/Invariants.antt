-- All points but those left were taken.
use Rattle.twkb_num.proofs.Prelude.{◌-◌, ◌*◌, ◌≤◌, Takes}
use Rattle.twkb_num.proofs.cursor.Cursor.take_narrow_points.Given as goal

abbrev pub invariant-loop-left : goal.invariant-loop-left
invariant-loop-left g l = record {
  few : l.left ≤ l.points;
  takes : Takes g.T.TakePoints.took g.row.AXES 0 (g.row.AXES * (l.points - l.left)) l.fn.self l.self l.fn.to l.to;
}

abbrev pub decreases-loop-left : goal.decreases-loop-left
decreases-loop-left g l = l.left
