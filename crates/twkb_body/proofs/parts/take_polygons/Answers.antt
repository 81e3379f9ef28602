-- Polygons are parts.
use Rattle.twkb_body.proofs.PointReads.{polygons_are_parts, parts_ready, parts_read_or_end}
use Rattle.twkb_body.proofs.parts.take_polygons.Goals as goal

pub take-requires : goal.take-requires
take-requires g c = record { ready = parts_ready (polygons_are_parts c.args.kind c.requires.kind) c.args.count c.requires.ready }

pub returns : goal.returns
returns g c = parts_read_or_end (polygons_are_parts c.args.kind c.requires.kind) c.args.count c.take.ensures
