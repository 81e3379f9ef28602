-- Points, lines and polygons are parts. A collection has none.
use Rattle.twkb_body.proofs.Prelude.{[], replicate, refl, sym, subst, IsWalked}
use Rattle.twkb_body.proofs.PointReads.{points_are_parts, lines_are_parts, parts_ready, parts_read_or_end, nothing_read, nothing_has}
use Rattle.twkb_body.proofs.Walks.{walked_none}
use Rattle.twkb_body.proofs.parts.take_parts.Goals as goal

pub take-requires : goal.take-requires
take-requires g c = record { ready = parts_ready (points_are_parts c.args.kind c.in-Point.is) c.args.count c.requires.ready }

pub returns-in-Point : goal.returns-in-Point
returns-in-Point g c = parts_read_or_end (points_are_parts c.args.kind c.in-Point.is) c.args.count c.take.ensures

pub take-requires-in-LineString : goal.take-requires-in-LineString
take-requires-in-LineString g c = record { ready = parts_ready (lines_are_parts c.args.kind c.in-LineString.is) c.args.count c.requires.ready }

pub returns-in-LineString : goal.returns-in-LineString
returns-in-LineString g c = parts_read_or_end (lines_are_parts c.args.kind c.in-LineString.is) c.args.count c.take-in-LineString.ensures

pub returns-in-GeometryCollection : goal.returns-in-GeometryCollection
returns-in-GeometryCollection g c = rw c.in-GeometryCollection.is (record {
  read = λ at before. record {
    value = replicate c.args.count [];
    read = nothing_read at.axes c.args.count at.trail.last c.args.cursor.now;
    trail = at.trail;
    state = at.state;
    there = before.there;
    walked = subst (IsWalked g.R.PointReader.step at.axes at.trail at.trail at.state at.state c.args.cursor.now.place c.args.cursor.now.place) (sym (nothing_has c.args.count)) (walked_none g.R.PointReader.step at.axes at.trail at.state c.args.cursor.now.place);
  };
  ended = tt;
  bytes = refl;
})
