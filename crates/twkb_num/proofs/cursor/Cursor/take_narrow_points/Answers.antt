-- Each turn takes the points of eight lanes more.
use Rattle.twkb_num.proofs.Prelude.{◌≡◌, ◌+◌, ◌-◌, ◌*◌, arith, ap, mul-add, count_in}
use Rattle.twkb_num.proofs.TakeLemmas.{takes_more}
use Rattle.twkb_num.proofs.cursor.Cursor.take_narrow_points.Goals as goal

pub loop-left-preserved : goal.loop-left-preserved
loop-left-preserved g c =
    let l = c.loop-left in
    let some = c.points_in_lanes-some in
    let more : (c.args.points - l.left) + some.result ≡ c.args.points - (l.left - some.result) = omega (arith, l.invariant.few) in
    let sum : g.row.AXES * (c.args.points - l.left) + count_in g.row.AXES ≡ g.row.AXES * (c.args.points - (l.left - some.result)) = omega (arith, mul-add g.row.AXES (c.args.points - l.left) some.result, some.ensures.all, ap (λ n. g.row.AXES * n) more) in
    record {
      few = omega (arith, l.invariant.few);
      takes = takes_more g.T.TakePoints.took g.row.AXES 0 0 (c.args.points - l.left) _ (count_in g.row.AXES) _ _ _ _ _ _ _ l.invariant.takes (c.take_narrow_numbers.ensures.read c.if-not-take_narrow_numbers.false) (omega arith) sum;
    }
