-- If an axis is bounded, a vertex without it is outside.
use Rattle.twkb_layer.proofs.Prelude.{rules}
use Rattle.twkb_layer.proofs.window.in_bound.Goals as goal

pub returns-in-Some-None : goal.returns-in-Some-None
returns-in-Some-None c = search rules
