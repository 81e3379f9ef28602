use Rattle.twkb_body.proofs.Prelude.{refl}
use Rattle.twkb_body.proofs.extent_lanes.with_brief_pair_before.Goals as goal

pub returns : goal.returns
returns k a b c' d e f g h is = rw is refl
