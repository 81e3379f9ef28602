-- A layer that is certified under a limit of depth is certified under a greater one.
use Rattle.twkb_layer.proofs.Layers.{layer_stays, certified_stays}
use Rattle.twkb_layer.proofs.laws.limits_may_be_raised.Goals as goal

pub returns : goal.returns
returns c = record { layer = layer_stays; certified = certified_stays }
