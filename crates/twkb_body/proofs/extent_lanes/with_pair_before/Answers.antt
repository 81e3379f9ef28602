use Rattle.twkb_body.proofs.Prelude.{refl}
use Rattle.twkb_body.proofs.extent_lanes.with_pair_before.Goals as goal

pub returns : goal.returns
returns k a b c d is = rw is refl
