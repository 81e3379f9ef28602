-- From this code on each precision has its window in raw integers, whatever window the finest one is of.
use Rattle.twkb_layer.proofs.Prelude.{◌≡◌, ◌≤◌, ◌-ℤ◌, pos, length, Bounds, IsExactWindow, precision_of}
use Rattle.twkb_layer.proofs.RawWindows.{AreRawFrom}
use Rattle.twkb_layer.proofs.raw_windows.fill_by_tenths.Given as goal

abbrev pub invariant-loop-code : goal.invariant-loop-code
invariant-loop-code l = record {
  all : length l.raws ≡ 16;
  few : l.code ≤ 16;
  exact : (window : Bounds) → IsExactWindow (pos 7) window l.fn.finest → IsExactWindow (precision_of l.code -ℤ pos 1) window l.raw;
  each : (window : Bounds) → IsExactWindow (pos 7) window l.fn.finest → AreRawFrom l.code window l.raws;
}

abbrev pub decreases-loop-code : goal.decreases-loop-code
decreases-loop-code l = l.code
