-- Below this code each precision has its window in raw integers.
use Rattle.twkb_layer.proofs.Prelude.{◌≡◌, length}
use Rattle.twkb_layer.proofs.RawWindows.{AreRawBelow}
use Rattle.twkb_layer.proofs.raw_windows.fill_by_divisions.Given as goal

abbrev pub invariant-loop-code : goal.invariant-loop-code
invariant-loop-code l = (length l.raws ≡ 16) × AreRawBelow l.code l.window l.raws
