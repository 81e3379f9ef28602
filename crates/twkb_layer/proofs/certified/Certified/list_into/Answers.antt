-- The rows are the rows of the layer, as far as there is room.
use Rattle.twkb_layer.proofs.Prelude.{rules}
use Rattle.twkb_layer.proofs.certified.Certified.list_into.Goals as goal

pub returns-clause-room : goal.returns-clause-room
returns-clause-room g c = search rules
