-- The coordinates before this axis were read, and the others are as before.
use Rattle.twkb_body.proofs.Coordinates.{IsPointLoop}
use Rattle.twkb_body.proofs.trail.take_point.Given as goal

abbrev pub invariant-loop-axis : goal.invariant-loop-axis
invariant-loop-axis l = IsPointLoop l.axes l.fn.trail l.fn.cursor l.axis l.trail l.cursor
