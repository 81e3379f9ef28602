-- Devices of proofs: nothing public names them.
-- The fields of a header whose box is raw integers, as they are read.
use Rattle.std.specs.Prelude.{◌≡◌, ℕ, ℤ, Bool, true, false, Option, is_some, option_map, Result, Ok, Err}
use Rattle.twkb_head.specs.declared.refusal.Malformed.{Malformed}
use Rattle.twkb_head.specs.declared.raw.RawBox.{RawBox}
use Rattle.twkb_num.specs.Cursor.{Reading}
use Rattle.twkb_head.specs.declared.boxes.Bounds.{Bounds}
use Rattle.twkb_head.specs.declared.raw.RawRange.{RawRange}
use Rattle.twkb_head.specs.declared.raw.Fields.{Fields}
use Rattle.twkb_head.specs.declared.read.Begun.{Begun}
use Rattle.twkb_head.specs.Shared.Reader.{optional_at, range_from}
use Rattle.twkb_head.specs.Devices.HeadReader.{kind_from_type, byte_at, bounds_from}
use Rattle.twkb_head.specs.Raw.{ends_of, raw_bounds, head_said, zero_range}
use Rattle.twkb_head.specs.declared.header.Head.{Head}

-- what the code read, in the terms of the definitions, or the fault: a range as its least and its greatest number
abbrev pub range_result : Result RawRange Malformed → Result (ℤ × ℤ) Malformed
range_result (Ok range) = Ok (ends_of range)
range_result (Err m) = Err m

-- two ranges, each as its least and its greatest number, or the fault
abbrev pub two_ranges_result : Result (RawRange × RawRange) Malformed → Result ((ℤ × ℤ) × (ℤ × ℤ)) Malformed
two_ranges_result (Ok both) = Ok (ends_of both.0, ends_of both.1)
two_ranges_result (Err m) = Err m

-- a box in units, where there is one, or the fault
abbrev pub bounds_result_if : ℤ → Option ℕ → Option ℕ → Result (Option RawBox) Malformed
    → Result (Option Bounds) Malformed
bounds_result_if xy z m (Ok box) = Ok (option_map (raw_bounds xy z m) box)
bounds_result_if xy z m (Err w) = Err w

-- a header with its box in units, or the fault
abbrev pub head_result : Result Fields Malformed → Result Head Malformed
head_result (Ok raw) = Ok (head_said raw)
head_result (Err m) = Err m

-- if the axis is there, its range was read; if not, the range is zeros, and nothing was read
abbrev pub IsRangeIf : Bool → RawRange → Reading → Reading → Type 0
IsRangeIf true range old new = range_from old ≡ (Ok (ends_of range), new)
IsRangeIf false range old new = (range ≡ zero_range) × (new ≡ old)

-- the range of an axis that is there was read, or its fault; or it isn't there, and the range is all zeros
abbrev pub ReadsIf : Bool → Result RawRange Malformed → Reading → Reading → Type 0
ReadsIf there (Ok range) old new = IsRangeIf there range old new
ReadsIf there (Err m) old new = (there ≡ true) × (range_from old ≡ (Err m, new))

-- a box was read if it is announced, whatever the precisions of its axes, or its fault
abbrev pub ReadsBoxIf : Bool → Bool → Bool → Result (Option RawBox) Malformed → Reading → Reading → Type 0
ReadsBoxIf announced has_z has_m result old new =
    (xy : ℤ) (z m : Option ℕ) → is_some z ≡ has_z → is_some m ≡ has_m
    → optional_at announced (bounds_from xy z m) old ≡ (bounds_result_if xy z m result, new)

-- the first two bytes of a header were read, one after the other
pub record ReadsFirstTwo (levels : ℕ) (begun : Begun) (before now : Reading) : Type 0 where
  pub mid : Reading
  pub type : kind_from_type levels before ≡ (Ok (begun.kind, begun.xy), mid)
  pub byte : byte_at mid ≡ (Ok begun.metadata, now)
  pub start : begun.start ≡ before.place
