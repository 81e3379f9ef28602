-- Devices of proofs: nothing public names them.
-- The slots of a blob, and slots that others follow.
use Rattle.std.specs.Prelude.{◌≡◌, ℕ, List, ◌∷◌, ◌++◌, Option, option_map}
use Rattle.twkb_head.specs.declared.boxes.Bounds.{Bounds}
use Rattle.twkb_head.specs.declared.raw.Fields.{Fields}
use Rattle.twkb_head.specs.Raw.{raw_bounds}
use Rattle.twkb_layer.specs.Directory.{Entry}
use Rattle.twkb_layer.specs.Slots.{entries_kept, long_entry, short_entry}
use Rattle.twkb_layer.specs.declared.entry.Entry.{Entry as Slots}
use Rattle.twkb_layer.specs.declared.entry.Entry.TheVariants.{One, Four}
use Rattle.twkb_layer.specs.declared.slots.Slot.{Slot}

-- the box that a header has, in units
abbrev pub box_said : Fields → Option Bounds
box_said raw = option_map (raw_bounds raw.axes.xy raw.axes.z raw.axes.m) raw.bounds

-- the entry of a blob that begins at the offset with the header
abbrev pub entry_said : ℕ → Fields → Entry
entry_said offset raw = record { offset = offset; bounds = box_said raw }

-- the entry that the slots of a blob say
abbrev pub entry_in : Slots → Entry
entry_in (One slot) = short_entry slot.now
entry_in (Four x y third fourth) = long_entry x.now y.now third.now fourth.now

-- whatever slots follow, the first blob has this entry, and takes these slots
abbrev pub AreSlotsOf : Entry → List Slot → Type 0
AreSlotsOf entry slots = (more : List Slot) → entries_kept (slots ++ more) ≡ entry ∷ entries_kept more

-- the last blob has all its slots: whatever slots follow say the same as without these
abbrev pub AreWhole : List Slot → Type 0
AreWhole slots = (more : List Slot) → entries_kept (slots ++ more) ≡ entries_kept slots ++ entries_kept more
