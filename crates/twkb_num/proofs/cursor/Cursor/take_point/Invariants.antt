-- The numbers of the axes before this one were taken.
use Rattle.twkb_num.proofs.Prelude.{Takes}
use Rattle.twkb_num.proofs.cursor.Cursor.take_point.Given as goal

abbrev pub invariant-loop-axis : goal.invariant-loop-axis
invariant-loop-axis g l = Takes g.T.TakePoints.took g.row.AXES 0 l.axis l.fn.self l.self l.fn.to l.to
