-- Parts that can't be read are malformed, and reading them from the first on names the field.
use Rattle.twkb_body.proofs.Prelude.{refl}
use Rattle.twkb_body.proofs.PointReads.{none_yet}
use Rattle.twkb_body.proofs.shape.parts_fault.Goals as goal

pub unreachable-requires : goal.unreachable-requires
unreachable-requires c =
    let read = c.in_default.ensures.read _ (none_yet c.new-walk.ensures.stands refl) in
    c.requires.malformed read.value _ read.read

pub returns : goal.returns
returns c = c.in-Err.ensures.ended _ (none_yet c.new-walk.ensures.stands refl)
