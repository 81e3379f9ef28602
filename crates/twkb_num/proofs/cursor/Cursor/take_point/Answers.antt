-- Each turn takes the number of one axis more.
use Rattle.twkb_num.proofs.Prelude.{◌+◌, arith, refl}
use Rattle.twkb_num.proofs.TakeLemmas.{takes_more, stops_here}
use Rattle.twkb_num.proofs.cursor.Cursor.take_point.Goals as goal

pub loop-axis-preserved : goal.loop-axis-preserved
loop-axis-preserved g c =
    takes_more g.T.TakePoints.took g.row.AXES 0 c.loop-axis.axis 0 c.loop-axis.axis 1 (c.loop-axis.axis + 1) _ _ _ _ _ _ c.loop-axis.invariant c.in_default.ensures.ok (omega arith) refl

pub returns-in-Err-clause-err : goal.returns-in-Err-clause-err
returns-in-Err-clause-err g c =
    stops_here g.T.TakePoints.took g.row.AXES c.loop-axis.axis g.row.AXES _ _ _ _ _ _ _ c.loop-axis.invariant (omega arith) c.in-Err.ensures.err.0 c.in-Err.ensures.err.1
