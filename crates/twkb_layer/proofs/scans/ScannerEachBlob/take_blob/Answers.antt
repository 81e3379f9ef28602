-- The blob is passed, and no more bytes are read of it than it has.
use Rattle.twkb_layer.proofs.Prelude.{ap, arith, Reading}
use Rattle.twkb_layer.proofs.Visits.{cost_few}
use Rattle.twkb_layer.proofs.scans.ScannerEachBlob.take_blob.Goals as goal

pub found_blob-requires : goal.found_blob-requires
found_blob-requires g c =
    let moved = c.look.ensures.cursor c.requires.stands.0 c.requires.stands.1 in
    omega (arith, c.place-offset.ensures.value, ap (λ (r : Reading). r.place) moved)

pub returns-then-look-clause-few : goal.returns-then-look-clause-few
returns-then-look-clause-few g c = λ tree at. cost_few _ tree _ _ at

pub returns-else-look-clause-few : goal.returns-else-look-clause-few
returns-else-look-clause-few g c = λ tree at. cost_few _ tree _ _ at
