-- The slots of a directory: of a blob one slot says all, or four do.
use Rattle.std.specs.Prelude.{ℕ, ◌/◌, ◌%◌, ◌^◌, ◌==◌, nat_lt, ℤ, pos, ◌-ℤ◌, if◌then◌else◌, Bool, List, [], ◌∷◌, Option, Some, None}
use Rattle.std.specs.Int.{w32, w64, cast_signed}
use Rattle.twkb_head.specs.declared.raw.Axes.{Axes}
use Rattle.twkb_head.specs.declared.raw.RawRange.{RawRange}
use Rattle.twkb_head.specs.declared.raw.RawBox.{RawBox}
use Rattle.twkb_head.specs.Head.{span_at}
use Rattle.twkb_head.specs.Raw.{raw_bounds}
use Rattle.twkb_layer.specs.Directory.{Entry}
use Rattle.twkb_layer.specs.declared.slots.Slot.{Slot}

-- The first slot of a blob has in the lowest four bits of its word the precision of X and Y, plus 8,
abbrev pub precision_in : Slot → ℤ
precision_in slot = pos (slot.word % 16) -ℤ pos 8

-- then whether the blob has a box,
abbrev pub is_boxed : Slot → Bool
is_boxed slot = (slot.word / 16) % 2 == 1

-- and then whether the blob takes four slots.
abbrev pub is_long : Slot → Bool
is_long slot = (slot.word / 32) % 2 == 1

-- two ends of 32 bits in a number of 64, the least one in its lower half
abbrev pub ends_in : ℕ → ℤ × ℤ
ends_in number = (cast_signed w32 (number % 2 ^ 32), cast_signed w32 (number / 2 ^ 32))

-- the entry of a blob that takes one slot: the other bits of the word are its offset, and the numbers are the ends in X and in Y
abbrev pub short_entry : Slot → Entry
short_entry slot = record {
  offset = slot.word / 64;
  bounds = if is_boxed slot then Some (record {
    x = span_at (precision_in slot) (ends_in slot.first);
    y = span_at (precision_in slot) (ends_in slot.second);
    z = None;
    m = None;
  }) else None;
}

-- a minimum and an extent of 64 bits, in one of four slots
abbrev pub range_in : Slot → RawRange
range_in slot = record { minimum = cast_signed w64 slot.first; extent = cast_signed w64 slot.second }

-- the precision of Z or M, in the third or the fourth of four slots, unless the word says that there is no such axis
abbrev pub axis_in : Slot → Option ℕ
axis_in slot = if nat_lt slot.word 8 then Some slot.word else None

-- the precisions of a blob that takes four slots
abbrev pub axes_in : Slot → Slot → Slot → Axes
axes_in x third fourth = record { xy = precision_in x; z = axis_in third; m = axis_in fourth }

-- the box that four slots have, as a header has it
abbrev pub box_in : Slot → Slot → Slot → Slot → RawBox
box_in x y third fourth = record { x = range_in x; y = range_in y; third = range_in third; fourth = range_in fourth }

-- the entry of a blob that takes four slots, one for each axis of its box; the word of the second is its offset
abbrev pub long_entry : Slot → Slot → Slot → Slot → Entry
long_entry x y third fourth =
    let axes = axes_in x third fourth in
    record {
      offset = y.word;
      bounds = if is_boxed x then Some (raw_bounds axes.xy axes.z axes.m (box_in x y third fourth)) else None;
    }

abbrev mutual
  -- the entries of the blobs of slots, one after another
  pub entries_kept : List Slot → List Entry
  entries_kept [] = []
  entries_kept (slot ∷ slots) = if is_long slot then entries_long slot slots else short_entry slot ∷ entries_kept slots

  -- `entries_kept` from the first of four slots on; if fewer than four are left, there is no blob
  pub entries_long : Slot → List Slot → List Entry
  entries_long x (y ∷ third ∷ fourth ∷ slots) = long_entry x y third fourth ∷ entries_kept slots
  entries_long x _ = []
