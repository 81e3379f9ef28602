-- The count is the cursor's.
use Rattle.twkb_layer.proofs.Prelude.{rules}
use Rattle.twkb_layer.proofs.certified.Certified.read_count.Goals as goal

pub returns : goal.returns
returns c = search rules
