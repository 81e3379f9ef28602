-- Points that can be read are passed as numbers, and no other place is their end.
use Rattle.twkb_body.proofs.Prelude.{arith}
use Rattle.twkb_body.proofs.Settling.{points_fit, points_stand, points_passed}
use Rattle.twkb_body.proofs.certified_walk.pass_points.Goals as goal

pub overflow_mul-count : goal.overflow_mul-count
overflow_mul-count c =
    let (s, points, stop, e) = c.requires.known in
    omega (arith, points_fit c.args.axes c.args.count s c.args.cursor.now stop points c.place_is_within.ensures e)

pub unreachable-requires : goal.unreachable-requires
unreachable-requires c =
    let (s, points, stop, e) = c.requires.known in
    points_stand c.args.axes c.args.count s c.args.cursor.now c.pass_numbers.new.self stop points c.in_default.field-0 c.place_is_within.ensures c.in_default.ensures.err e

pub returns : goal.returns
returns c = λ s points stop e.
    points_passed c.args.axes c.args.count s c.args.cursor.now c.pass_numbers.new.self stop points c.place_is_within.ensures c.in-Ok.ensures.ok e
