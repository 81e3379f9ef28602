-- Devices of proofs: nothing public names them.
-- Windows in raw integers, the numbers that headers and bodies have, at a precision.
use Rattle.std.specs.Prelude.{◌≡◌, ℕ, ◌<◌, ◌-◌, ◌^◌, ℤ, pos, neg_ℤ, ◌≤ℤ◌, ◌<ℤ◌, ◌-ℤ◌, int_lt, ◌||◌, Bool, List, get_or, length}
use Rattle.twkb_num.specs.Units.{units_of}
use Rattle.twkb_head.specs.declared.boxes.Span.{Span}
use Rattle.twkb_head.specs.declared.boxes.Bounds.{Bounds}
use Rattle.twkb_layer.specs.Window.{lie_apart_if_both}
use Rattle.twkb_layer.specs.declared.raw_windows.RawEnds.{RawEnds}
use Rattle.twkb_layer.specs.declared.raw_windows.RawWindow.{RawWindow}

-- the precision of a code of four bits: code 0 is -8
abbrev pub precision_of : ℕ → ℤ
precision_of code = pos code -ℤ pos 8

-- a number of 64 bits that is neither the least nor the greatest of them
pub record IsInner (c : ℤ) : Type 0 where
  pub low : neg_ℤ (pos (2 ^ 63)) <ℤ c
  pub high : c <ℤ pos (2 ^ 63 - 1)

-- both ends of a range are numbers of 64 bits, and neither is the least or the greatest of them
pub record AreInner (ends : ℤ × ℤ) : Type 0 where
  pub first : IsInner ends.0
  pub second : IsInner ends.1

-- The ends of a range at a precision: a number's units lie below the range exactly if the number is below the lower end, and
-- above the range exactly if the number is above the upper end.
pub record IsRawEnds (p : ℤ) (range : Span) (raw : RawEnds) : Type 0 where
  pub below : (c : ℤ) → IsInner c → int_lt (units_of c p) range.lo ≡ int_lt c raw.least
  pub above : (c : ℤ) → IsInner c → int_lt range.hi (units_of c p) ≡ int_lt raw.greatest c

-- `IsRawEnds` for a window in X and in Y
pub record IsRawWindow (p : ℤ) (window : Bounds) (raw : RawWindow) : Type 0 where
  pub x : IsRawEnds p window.x raw.x
  pub y : IsRawEnds p window.y raw.y

-- `IsRawEnds` for all numbers, also the ends of 64 bits and beyond
pub record IsExactEnds (p : ℤ) (range : Span) (raw : RawEnds) : Type 0 where
  pub below : (c : ℤ) → int_lt (units_of c p) range.lo ≡ int_lt c raw.least
  pub above : (c : ℤ) → int_lt range.hi (units_of c p) ≡ int_lt raw.greatest c

-- `IsExactEnds` for a window in X and in Y
pub record IsExactWindow (p : ℤ) (window : Bounds) (raw : RawWindow) : Type 0 where
  pub x : IsExactEnds p window.x raw.x
  pub y : IsExactEnds p window.y raw.y

-- The second ends are a range's exact ends at the next coarser precision, for each range whose exact ends are the first.
abbrev pub AreCoarserEnds : RawEnds → RawEnds → Type 0
AreCoarserEnds raw coarse = (p : ℤ) (range : Span) → p ≤ℤ pos 7
    → IsExactEnds p range raw → IsExactEnds (p -ℤ pos 1) range coarse

-- `AreCoarserEnds` for a window in X and in Y
abbrev pub IsCoarserWindow : RawWindow → RawWindow → Type 0
IsCoarserWindow raw coarse = (p : ℤ) (window : Bounds) → p ≤ℤ pos 7
    → IsExactWindow p window raw → IsExactWindow (p -ℤ pos 1) window coarse

-- a raw window for each code of a precision
pub record AreRawWindows (window : Bounds) (raws : List RawWindow) : Type 0 where
  pub all : length raws ≡ 16
  pub each : (code : ℕ) → code < 16 → (nowhere : RawWindow)
      → IsRawWindow (precision_of code) window (get_or raws code nowhere)

-- the range between two numbers has no number in common with the range between these ends
abbrev pub raw_range_misses : RawEnds → ℤ × ℤ → Bool
raw_range_misses raw ends = int_lt ends.1 raw.least || int_lt raw.greatest ends.0

-- the box between these numbers in X and in Y misses the window
abbrev pub raw_box_misses : RawWindow → ℤ × ℤ → ℤ × ℤ → Bool
raw_box_misses raw x y = raw_range_misses raw.x x || raw_range_misses raw.y y

-- a box misses the window in Z or in M
abbrev pub misses_in_z_or_m : Bounds → Bounds → Bool
misses_in_z_or_m w box = lie_apart_if_both box.z w.z || lie_apart_if_both box.m w.m
