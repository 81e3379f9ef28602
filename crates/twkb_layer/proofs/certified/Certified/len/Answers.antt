-- The length is the number of the bytes.
use Rattle.twkb_layer.proofs.Prelude.{rules}
use Rattle.twkb_layer.proofs.certified.Certified.len.Goals as goal

pub returns : goal.returns
returns c = search rules
