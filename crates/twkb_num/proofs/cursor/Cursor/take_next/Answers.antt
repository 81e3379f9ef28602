-- A point that stops does so where no lanes were read.
use Rattle.twkb_num.proofs.Prelude.{subst, arith, Reading, StopsTaking}
use Rattle.twkb_num.proofs.cursor.Cursor.take_next.Goals as goal

pub returns-in-Err-clause-err : goal.returns-in-Err-clause-err
returns-in-Err-clause-err g c =
    let n = g.row.AXES in
    let took = g.T.TakePoints.took in
    let fault = c.in-Err.fault in
    let same = c.take_wide_points-taken.ensures.none (omega (arith, c.if-taken-gt0.false)) in
    let from = subst (λ (r : Reading). StopsTaking took n n r c.take_point.new.self c.take_wide_points-taken.new.to c.take_point.new.to fault) same.0 c.in-Err.ensures.err in
    subst (λ (to : g.row.T.Denot). StopsTaking took n n c.args.self.now c.take_point.new.self to c.take_point.new.to fault) same.1 from
