-- The number of vertices of all trees is the number that was counted.
use Rattle.twkb_layer.proofs.Counting.{counted_is}
use Rattle.twkb_layer.proofs.certified.Certified.vertices.Goals as goal

pub returns : goal.returns
returns c = λ trees layer. (counted_is _ _ _ c.self.invariant trees (rw (← c.self.view_is) at layer)).1
