-- Each turn adds one more point; a malformed point ends the reading.
use Rattle.twkb_body.proofs.Prelude.{◌≡◌, ℕ, Ok, subst, ◌∙◌, arith, err_from_is_err_and, Fails, point_at, add, IsPoint}
use Rattle.twkb_body.proofs.Keeping.{keeps_point, read_keeps, failure_keeps}
use Rattle.twkb_body.proofs.PointReads.{points_read}
use Rattle.twkb_body.proofs.WalkReads.{same, loop_read, loop_ended}
use Rattle.twkb_body.proofs.Walks.{walk_goes_on, one_point, add_is_sums}
use Rattle.twkb_body.proofs.walk.WalkPointReader.take_points.Goals as goal

pub returns-in_err-take_point : goal.returns-in_err-take_point
returns-in_err-take_point c =
    let p = err_from_is_err_and c.from_residual.result c.from_residual.ensures.1 in
    let i = c.loop.invariant in
    let fails = subst (λ (n : ℕ). Fails (point_at n c.loop.self.trail.last c.loop.cursor) c.in_err-take_point.field-0.0 c.take_point.new.cursor) i.axes c.in_err-take_point.ensures in
    rw (p.1, p.2) (record {
      read = tt;
      ended = λ at before. loop_ended c.args.self.now.axes c.args.self.now.trail c.args.count c.args.cursor.now c.loop.counter c.loop.self.trail c.loop.cursor c.take_point.new.cursor c.in_err-take_point.field-0.0 c.loop-test.true i.read fails at before.there;
      bytes = failure_keeps (point_at c.loop.self.axes c.loop.self.trail.last) c.loop.cursor c.take_point.new.cursor _ (keeps_point c.loop.self.axes c.loop.self.trail.last) c.in_err-take_point.ensures ∙ i.bytes;
    })

pub loop-preserved : goal.loop-preserved
loop-preserved c =
    let i = c.loop.invariant in
    let (point, read, taken) = c.in_ok-take_point.ensures in
    let there = subst (λ (n : ℕ). point_at n c.loop.self.trail.last c.loop.cursor ≡ (Ok point, c.take_point.new.cursor)) i.axes read in
    let walked = subst (λ (n : ℕ). IsPoint n c.loop.self.trail c.take_point.new.trail c.loop.cursor.place c.take_point.new.cursor.place point) i.axes taken in
    record {
      axes = i.axes;
      bytes = read_keeps (point_at c.loop.self.axes c.loop.self.trail.last) c.loop.cursor c.take_point.new.cursor point (keeps_point c.loop.self.axes c.loop.self.trail.last) read ∙ i.bytes;
      read = walk_goes_on same c.args.self.now.axes add (point_at c.args.self.now.axes) one_point add_is_sums c.args.count c.args.self.now.trail tt c.args.cursor.now _ _ _ _ _ _ _ point c.loop-test.true there walked i.read;
    }

pub returns : goal.returns
returns c = points_read c.args.count c.requires.ready (λ at before.
    rw c.loop.invariant.axes (loop_read c.args.self.now.axes c.args.self.now.trail c.args.count c.args.cursor.now c.loop.counter c.loop.self.trail c.loop.cursor (omega (arith, c.loop.auto.counter-end, c.loop-test.false)) c.loop.invariant.read at before.there))
