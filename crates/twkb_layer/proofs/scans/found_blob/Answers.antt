-- The blob that was passed ends at the place.
use Rattle.twkb_layer.proofs.Prelude.{rules}
use Rattle.twkb_layer.proofs.scans.found_blob.Goals as goal

pub returns : goal.returns
returns c = search rules
