-- The slots of a directory, as blobs are added one at a time.
use Rattle.twkb_layer.proofs.Prelude.{◌≡◌, ℕ, ◌+◌, ◌-◌, ◌*◌, ◌/◌, ◌%◌, ◌==◌, ◌<◌, ◌≤◌, pos, ◌-ℤ◌, arith, true, false, if◌then◌else◌, List, [], ◌∷◌, ◌++◌, drop, Bool, Some, None, option_map, ap, sym, ◌∙◌, append_assoc, drop-drop, append-nil, Reading, Fields, Geometry, head_standing, AreSlotsOf, AreWhole, entry_said, Entry, entry_of, from_bool, span_at, head_said, raw_bounds, Axes, RawBox, Bounds, axis_in, ends_in, entries_kept, entries_long, is_long, long_entry, precision_in, range_in, short_entry}
use Rattle.twkb_layer.specs.declared.slots.Slot.{Slot}
use Rattle.twkb_layer.proofs.Keeping.{says_of}

-- ---- the slots of a blob

one_of : (slot : Slot) (entry : Entry) → is_long slot ≡ false → short_entry slot ≡ entry → AreSlotsOf entry (slot ∷ [])
one_of slot entry short is = λ more j. if short j then entries_long slot more else is j ∷ entries_kept more

pub four_of : (x y third fourth : Slot) (entry : Entry) → is_long x ≡ true → long_entry x y third fourth ≡ entry → AreSlotsOf entry (x ∷ y ∷ third ∷ fourth ∷ [])
four_of x y third fourth entry long is = λ more j. if long j then is j ∷ entries_kept more else short_entry x ∷ entries_kept (y ∷ third ∷ fourth ∷ more)

-- the box of a slot that says all of a blob
abbrev short_box : Slot → Bounds
short_box slot = record { x = span_at (precision_in slot) (ends_in slot.first); y = span_at (precision_in slot) (ends_in slot.second); z = None; m = None }

from_bool_few : (b : Bool) → from_bool b < 2
from_bool_few true = omega arith
from_bool_few false = omega arith

-- the parts of the word of a blob's first slot
module _ (word code : ℕ) (few : code < 16) where
  boxed_by : (b : Bool) → word ≡ code + 16 * from_bool b + 32 → ((word / 16) % 2 == 1) ≡ b
  boxed_by true is = let one : (word / 16) % 2 ≡ 1 = omega (arith, few, is) in ap (λ n. n == 1) one
  boxed_by false is = let none : (word / 16) % 2 ≡ 0 = omega (arith, few, is) in ap (λ n. n == 1) none

  long_by : (b : Bool) → word ≡ code + 16 * from_bool b + 32 → ((word / 32) % 2 == 1) ≡ true
  long_by b is = let one : (word / 32) % 2 ≡ 1 = omega (arith, few, is, from_bool_few b) in ap (λ n. n == 1) one

-- the slot of a blob without a box
pub bare_says : (slot : Slot) (code offset : ℕ) (raw : Fields) → code < 16 → slot.word ≡ code + 64 * offset → raw.bounds ≡ None → AreSlotsOf (entry_said offset raw) (slot ∷ [])
bare_says slot code offset raw few is none =
    let no_long : (slot.word / 32) % 2 ≡ 0 = omega (arith, few, is) in
    let no_box : (slot.word / 16) % 2 ≡ 0 = omega (arith, few, is) in
    let at : slot.word / 64 ≡ offset = omega (arith, few, is) in
    one_of slot (entry_said offset raw) (ap (λ (n : ℕ). n == 1) no_long) (λ j. record {
      offset = at j;
      bounds = (ap (λ (n : ℕ). if n == 1 then Some (short_box slot) else None) no_box ∙ ap (option_map (raw_bounds raw.axes.xy raw.axes.z raw.axes.m)) (sym none)) j;
    })

-- the four slots of a blob
pub four_say : (x y third fourth : Slot) (code offset : ℕ) (axes : Axes) (boxed : Bool) (box : RawBox) → code < 16 → pos code -ℤ pos 8 ≡ axes.xy → x.word ≡ code + 16 * from_bool boxed + 32 → y.word ≡ offset
    → axis_in third ≡ axes.z → axis_in fourth ≡ axes.m → range_in x ≡ box.x → range_in y ≡ box.y → range_in third ≡ box.third → range_in fourth ≡ box.fourth
    → AreSlotsOf (record { offset = offset; bounds = if boxed then Some (raw_bounds axes.xy axes.z axes.m box) else None }) (x ∷ y ∷ third ∷ fourth ∷ [])
four_say x y third fourth code offset axes boxed box few xy is at z m x_is y_is third_is fourth_is =
    let rest : x.word % 16 ≡ code = omega (arith, few, is, from_bool_few boxed) in
    let p : precision_in x ≡ axes.xy = ap (λ (n : ℕ). pos n -ℤ pos 8) rest ∙ xy in
    four_of x y third fourth _ (long_by x.word code few boxed is) (λ j. record {
      offset = at j;
      bounds = if boxed_by x.word code few boxed is j then Some (raw_bounds (p j) (z j) (m j) (record { x = x_is j; y = y_is j; third = third_is j; fourth = fourth_is j })) else None;
    })

-- ---- one more blob

-- the slots of a blob, behind whole slots
module _ (slots own : List Slot) (entry : Entry) (whole : AreWhole slots) (is : AreSlotsOf entry own) where
  pub kept_more : entries_kept (slots ++ own) ≡ entries_kept slots ++ entry ∷ []
  kept_more = whole own ∙ ap (λ es. entries_kept slots ++ es) (ap entries_kept (sym (append-nil own)) ∙ is [])

  pub whole_more : AreWhole (slots ++ own)
  whole_more = λ more.
      ap entries_kept (append_assoc slots own more)
      ∙ (whole (own ++ more)
      ∙ (ap (λ es. entries_kept slots ++ es) (is more)
      ∙ (sym (append_assoc (entries_kept slots) (entry ∷ []) (entries_kept more))
      ∙ ap (λ es. es ++ entries_kept more) (sym kept_more))))

-- the slots of a blob whose header was read
pub blob_more : (slots own : List Slot) (offset : ℕ) (r : Reading) (g : Geometry) (raw : Fields) → AreWhole slots → AreSlotsOf (entry_said offset raw) own → offset ≡ r.place → head_said raw ≡ head_standing g r.place
    → entries_kept (slots ++ own) ≡ entries_kept slots ++ entry_of 0 r.place g ∷ []
blob_more slots own offset r g raw whole is at read =
    kept_more slots own (entry_said offset raw) whole is
    ∙ (λ j. entries_kept slots ++ record { offset = at j; bounds = (says_of g r.place raw read).box j } ∷ [])

-- what is equal after some places is equal after more
pub later : (used more : ℕ) (a b : List Slot) → used ≤ more → drop used a ≡ drop used b → drop more a ≡ drop more b
later used more a b le same =
    let many = more - used in
    let all : used + many ≡ more = omega (arith, le) in
    (λ j. drop (sym all j) a) ∙ (sym (drop-drop many used a) ∙ (ap (drop many) same ∙ (drop-drop many used b ∙ (λ j. drop (all j) b))))
