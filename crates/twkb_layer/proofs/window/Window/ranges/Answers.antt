-- The ranges are the ranges of the window.
use Rattle.twkb_layer.proofs.Prelude.{rules}
use Rattle.twkb_layer.proofs.window.Window.ranges.Goals as goal

pub returns : goal.returns
returns c = search rules
