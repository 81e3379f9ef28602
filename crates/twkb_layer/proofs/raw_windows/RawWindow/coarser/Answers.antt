-- The ranges of a window are made coarser each by itself.
use Rattle.twkb_layer.proofs.raw_windows.RawWindow.coarser.Goals as goal

pub returns : goal.returns
returns c = λ p window le exact. record { x = c.coarser.ensures p window.x le exact.x; y = c.coarser-2.ensures p window.y le exact.y }
