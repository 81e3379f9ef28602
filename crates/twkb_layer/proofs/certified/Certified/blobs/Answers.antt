-- A layer has no more blobs than bytes.
use Rattle.twkb_layer.proofs.Counting.{counted_is}
use Rattle.twkb_layer.proofs.certified.Certified.blobs.Goals as goal

pub returns-clause-value : goal.returns-clause-value
returns-clause-value c = λ trees layer. (counted_is _ _ _ c.self.invariant trees (rw (← c.self.view_is) at layer)).0
