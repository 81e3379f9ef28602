-- After the scan the layer is still certified, with the same numbers.
use Rattle.twkb_layer.proofs.Prelude.{rules}
use Rattle.twkb_layer.proofs.certified.Certified.scan_into.Goals as goal

pub invariant_of-self : goal.invariant_of-self
invariant_of-self g c = search rules
