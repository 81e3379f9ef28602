-- The points so far were read.
use Rattle.twkb_body.proofs.Prelude.{◌≡◌}
use Rattle.twkb_body.proofs.WalkReads.{Loop}
use Rattle.twkb_body.proofs.walk.WalkPointReader.take_points.Given as goal

abbrev pub invariant-loop : goal.invariant-loop
invariant-loop l = record {
  axes : l.self.axes ≡ l.fn.self.axes;
  bytes : l.cursor.bytes ≡ l.fn.cursor.bytes;
  read : Loop l.fn.self.axes l.fn.self.trail l.count l.fn.cursor l.counter l.self.trail l.cursor;
}
