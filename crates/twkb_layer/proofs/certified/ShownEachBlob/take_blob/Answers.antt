-- No more bytes are read of a blob than it has.
use Rattle.twkb_layer.proofs.Visits.{walk_few}
use Rattle.twkb_layer.proofs.certified.ShownEachBlob.take_blob.Goals as goal

pub returns-clause-few : goal.returns-clause-few
returns-clause-few g c = λ tree at. walk_few g.V.Visit.State g.V.Visit.step g.V.Visit.passes tree _ _ _ at
