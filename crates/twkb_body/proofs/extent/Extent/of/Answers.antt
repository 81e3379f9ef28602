-- The extent of one vertex is from the vertex to itself, on each axis that it has.
use Rattle.twkb_body.proofs.Prelude.{rules}
use Rattle.twkb_body.proofs.extent.Extent.of.Goals as goal

pub returns : goal.returns
returns c = search rules
