-- The empty extent is the extent of no vertices.
use Rattle.twkb_body.proofs.Prelude.{rules}
use Rattle.twkb_body.proofs.extent.Extent.empty.Goals as goal

pub returns : goal.returns
returns c = search rules
