-- Each turn of the loop reads one more coordinate; a malformed one ends the point.
use Rattle.twkb_body.proofs.Prelude.{◌≡◌, pos, slice_index_or, refl, arith, err_from_is_err_and, ints, to_z, of_z, w64}
use Rattle.twkb_body.proofs.Coordinates.{point_goes_on, point_fails, point_ends}
use Rattle.twkb_body.proofs.trail.take_point.Goals as goal

pub returns-in_err-coordinate : goal.returns-in_err-coordinate
returns-in_err-coordinate c =
    let p = err_from_is_err_and c.from_residual.result c.from_residual.ensures.1 in
    let before : to_z w64 (of_z w64 (slice_index_or c.loop-axis.trail.last c.loop-axis.axis (pos 0))) ≡ slice_index_or c.loop-axis.trail.last c.loop-axis.axis (pos 0) = omega (arith, ints) in
    let read = rw before at c.in_err-coordinate.ensures in
    rw (p.1, p.2) (point_fails _ _ _ c.loop-axis.axis _ _ _ _ c.loop-axis-test.true (omega (arith, c.requires.few)) read c.loop-axis.invariant)

pub loop-axis-preserved : goal.loop-axis-preserved
loop-axis-preserved c =
    let before : to_z w64 (of_z w64 (slice_index_or c.loop-axis.trail.last c.loop-axis.axis (pos 0))) ≡ slice_index_or c.loop-axis.trail.last c.loop-axis.axis (pos 0) = omega (arith, ints) in
    let after : to_z w64 (of_z w64 c.in_ok-coordinate.coordinate) ≡ c.in_ok-coordinate.coordinate = omega (arith, ints) in
    let read = rw before at c.in_ok-coordinate.ensures.1 in
    let sum = rw before at c.in_ok-coordinate.ensures.2 in
    point_goes_on _ _ _ c.loop-axis.axis _ _ _ _ c.in_ok-coordinate.ensures.0 c.in_ok-coordinate.coordinate c.loop-axis-test.true (omega (arith, c.requires.few)) read sum (rw after refl) refl c.loop-axis.invariant

pub returns : goal.returns
returns c =
    point_ends _ _ _ {S = Unit {0}} (λ s point. s) tt tt c.loop-axis.axis _ _ _ (omega arith) (omega arith) refl refl c.loop-axis.invariant
