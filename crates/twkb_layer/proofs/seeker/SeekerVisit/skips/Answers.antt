-- The visitor skips exactly the boxes that miss the window.
use Rattle.twkb_layer.proofs.Prelude.{rules}
use Rattle.twkb_layer.proofs.seeker.SeekerVisit.skips.Goals as goal

pub returns : goal.returns
returns c = search rules
