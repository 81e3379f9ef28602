-- Headers whose boxes are raw integers.
use Rattle.std.specs.Prelude.{◌≡◌, ◌||◌, ◌&&◌, Bool, false, ℕ, ◌/◌, ◌%◌, ◌^◌, ◌≤◌, ℤ, pos, neg_ℤ, ◌+ℤ◌, ◌≤ℤ◌, List, [], ◌∷◌, Option, option_map, IfSome, Result, Ok, Err}
use Rattle.twkb_head.specs.declared.boxes.Bounds.{Bounds}
use Rattle.twkb_head.specs.declared.raw.RawRange.{RawRange}
use Rattle.twkb_head.specs.declared.raw.RawBox.{RawBox}
use Rattle.twkb_head.specs.declared.raw.Axes.{Axes}
use Rattle.twkb_head.specs.declared.raw.Fields.{Fields}
use Rattle.twkb_head.specs.declared.header.Head.{Head}
use Rattle.twkb_head.specs.declared.header.BoxField.{BoxField}
use Rattle.twkb_num.specs.Cursor.{Reading, rest, passed, added, IsMoved}
use Rattle.twkb_num.specs.Units.{IsPrecision}
use Rattle.twkb_num.specs.Varint.{zigzag_value}
use Rattle.twkb_head.specs.declared.read.Begun.{Begun}
use Rattle.twkb_head.specs.declared.refusal.Malformed.{Malformed}
use Rattle.twkb_head.specs.BegunHeader.{IsAllowedAt}
use Rattle.twkb_head.specs.Header.{code_of}
use Rattle.twkb_head.specs.Head.{IsHeadAt, bounds_of}
use Rattle.twkb_head.specs.Refusal.{IsRefusedHead, looked_at_until}

-- each precision is in its range: of X and Y from -8 to 7, of Z and M from 0 to 7
abbrev pub HavePrecisions : Axes → Type 0
HavePrecisions axes = IsPrecision axes.xy × IfSome axes.z (λ p. p ≤ 7) × IfSome axes.m (λ p. p ≤ 7)

-- the least and the greatest number of a range
abbrev pub ends_of : RawRange → ℤ × ℤ
ends_of range = (range.minimum, range.minimum +ℤ range.extent)

-- the ranges of a box, in the order of the axes
abbrev pub ranges_in : RawBox → List (ℤ × ℤ)
ranges_in box = ends_of box.x ∷ ends_of box.y ∷ ends_of box.third ∷ ends_of box.fourth ∷ []

-- a raw range whose minimum and width are at most 2^61 from zero, so that sums of them fit 64 bits
pub record IsNear (range : RawRange) : Type 0 where
  pub low : neg_ℤ (pos (2 ^ 61)) ≤ℤ range.minimum
  pub high : range.minimum ≤ℤ pos (2 ^ 61)
  pub least : neg_ℤ (pos (2 ^ 61)) ≤ℤ range.extent
  pub greatest : range.extent ≤ℤ pos (2 ^ 61)

-- each range of a box is near (`IsNear`)
pub record HasNearRanges (box : RawBox) : Type 0 where
  pub x : IsNear box.x
  pub y : IsNear box.y
  pub third : IsNear box.third
  pub fourth : IsNear box.fourth

-- the range of an axis that isn't there
abbrev pub zero_range : RawRange
zero_range = record { minimum = pos 0; extent = pos 0 }

-- a missing axis has a range of zeros: the third range if there is neither Z nor M, the fourth unless there are both
abbrev pub HasZeros : Bool → Bool → RawBox → Type 0
HasZeros z m box = ((z || m) ≡ false → box.third ≡ zero_range) × ((z && m) ≡ false → box.fourth ≡ zero_range)

-- the box of two ranges in X and Y, and none in Z and M
abbrev pub flat_box : RawRange → RawRange → RawBox
flat_box x y = record { x = x; y = y; third = zero_range; fourth = zero_range }

-- a box of raw integers in units, by the precisions of its header
abbrev pub raw_bounds : ℤ → Option ℕ → Option ℕ → RawBox → Bounds
raw_bounds xy z m box = bounds_of xy z m (ranges_in box)

-- the box field of a header with these fields, with this box in units
abbrev pub fields_box : Fields → RawBox → BoxField
fields_box f box = record { bounds = raw_bounds f.axes.xy f.axes.z f.axes.m box; offset = f.box_place }

-- the header of these fields, with its box in units
abbrev pub head_said : Fields → Head
head_said f = record {
  kind = f.kind;
  xy = f.axes.xy;
  z = f.axes.z;
  m = f.axes.m;
  size = f.size;
  bounds = option_map (fields_box f) f.bounds;
  ids = f.ids;
  empty = f.empty;
  start = f.start;
  stop = f.stop;
}

-- The first two bytes of a header that is allowed at the depth were read; the three highest bits of the second don't matter.
pub record BeginsHead (begun : Begun) (depth : ℕ) (before now : Reading) : Type 0 where
  pub type_byte : ℕ
  pub metadata : ℕ
  pub bytes : passed before now ≡ type_byte ∷ metadata ∷ []
  pub moved : IsMoved before now
  pub kind : type_byte % 16 ≡ code_of begun.kind
  pub allowed : IsAllowedAt begun.kind depth
  pub precision : begun.xy ≡ zigzag_value (type_byte / 16)
  pub announced : metadata % 32 ≡ begun.metadata % 32
  pub start : begun.start ≡ before.place

-- The header was read from its start; or a field can't follow, and the cursor is at that field, with the bytes looked at counted.
abbrev pub ReadsHead : ℕ → Reading → Reading → Result Fields Malformed → Type 0
ReadsHead depth before new (Ok raw) =
    IsHeadAt (head_said raw) depth before.place (passed before new) × IsMoved before new
ReadsHead depth before new (Err m) = IsRefusedHead m depth before.place (rest before)
    × (new ≡ record { bytes = before.bytes; place = m.offset; count = added before.count (looked_at_until m before) })
