-- The slots of the most that the blobs can take, and none for an empty layer.
use Rattle.twkb_layer.proofs.Prelude.{arith}
use Rattle.twkb_layer.proofs.Counting.{counted_is}
use Rattle.twkb_layer.proofs.Keeping.{no_blobs}
use Rattle.twkb_layer.proofs.certified.Certified.most_slots.Goals as goal

pub returns-clause-slots : goal.returns-clause-slots
returns-clause-slots c = λ trees layer. omega (arith, (counted_is _ _ _ c.self.invariant trees (rw (← c.self.view_is) at layer)).0)

pub returns-clause-empty : goal.returns-clause-empty
returns-clause-empty c = λ none. omega (arith, no_blobs _ _ _ c.self.invariant (rw (← c.self.view_is) at none))
