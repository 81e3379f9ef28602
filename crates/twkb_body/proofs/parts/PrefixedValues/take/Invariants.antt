-- The lists so far were read.
use Rattle.twkb_body.proofs.ListReads.{AreRead}
use Rattle.twkb_body.proofs.parts.PrefixedValues.take.Given as goal

abbrev pub invariant-loop : goal.invariant-loop
invariant-loop g l = AreRead g.R.PointReader.step g.R.PointReader.trusts g.V.Values.after g.V.Values.each g.V.Values.points_in l.count (g.R.PointReader.stands l.fn.reader) l.fn.cursor (g.R.PointReader.stands l.reader) l.counter l.cursor
