-- All points but those left were taken, and two are left where two are asked for.
use Rattle.twkb_num.proofs.Prelude.{◌≡◌, ◌-◌, ◌*◌, ◌≤◌, ◌<◌, true, Takes}
use Rattle.twkb_num.proofs.cursor.Cursor.take_run.Given as goal

abbrev pub invariant-loop-left : goal.invariant-loop-left
invariant-loop-left g l = record {
  still : l.self ≡ l.fn.self;
  few : l.left ≤ l.points;
  two : l.are_two ≡ true → 0 < l.left → 2 ≤ l.left;
  takes : Takes g.T.TakePoints.took g.row.AXES 0 (g.row.AXES * (l.points - l.left)) l.fn.self l.ahead l.fn.to l.to;
}

abbrev pub decreases-loop-left : goal.decreases-loop-left
decreases-loop-left g l = l.left
