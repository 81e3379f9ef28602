-- One more list is read at each turn: its length, and then as many values.
use Rattle.twkb_body.proofs.Prelude.{arith, err_from_is_err_and}
use Rattle.twkb_body.proofs.ListReads.{lists_begin, lists_ready, lists_go_on, lists_end, values_fail, length_fails}
use Rattle.twkb_body.proofs.parts.PrefixedValues.take.Goals as goal

pub loop-init : goal.loop-init
loop-init g c = lists_begin

pub take-requires : goal.take-requires
take-requires g c = record { ready = lists_ready c.loop.invariant c.loop-test.true c.in-Ok.ensures c.requires.ready }

pub returns-in_err-take-in-Ok : goal.returns-in_err-take-in-Ok
returns-in_err-take-in-Ok g c =
    let p = err_from_is_err_and c.from_residual.result c.from_residual.ensures.1 in
    rw (p.1, p.2) (values_fail c.loop.invariant g.R.PointReader.lasts c.loop-test.true c.in-Ok.ensures c.in_err-take-in-Ok.ensures)

pub returns-in-Err : goal.returns-in-Err
returns-in-Err g c = length_fails c.loop.invariant g.R.PointReader.lasts c.loop-test.true c.in-Err.ensures c.fault_of.ensures

pub loop-preserved : goal.loop-preserved
loop-preserved g c = lists_go_on c.loop.invariant c.loop-test.true c.in-Ok.ensures c.in_ok-take-in-Ok.ensures

pub returns : goal.returns
returns g c = lists_end c.loop.invariant (omega arith)
