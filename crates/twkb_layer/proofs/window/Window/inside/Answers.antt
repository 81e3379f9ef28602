-- A vertex is inside exactly if it is in range on each axis that the window bounds.
use Rattle.twkb_layer.proofs.Prelude.{rules}
use Rattle.twkb_layer.proofs.window.Window.inside.Goals as goal

pub returns-then-in_bound : goal.returns-then-in_bound
returns-then-in_bound c = search rules
