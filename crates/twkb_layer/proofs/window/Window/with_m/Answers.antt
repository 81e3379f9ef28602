-- Only the range of M changes.
use Rattle.twkb_layer.proofs.Prelude.{rules}
use Rattle.twkb_layer.proofs.window.Window.with_m.Goals as goal

pub returns : goal.returns
returns c = search rules
