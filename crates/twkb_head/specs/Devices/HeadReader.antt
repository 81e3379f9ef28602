-- Devices of proofs: nothing public names them.
-- Headers read from a cursor as the code does it, one field after another.
use Rattle.std.specs.Prelude.{ℕ, ◌/◌, ℤ, pos, Option, option_map, Some, None, Ok}
use Rattle.twkb_num.specs.Varint.{zigzag_value}
use Rattle.twkb_head.specs.declared.kinds.Kind.{Kind}
use Rattle.twkb_head.specs.declared.boxes.Span.{Span}
use Rattle.twkb_head.specs.declared.boxes.Bounds.{Bounds}
use Rattle.twkb_head.specs.declared.header.Head.{Head}
use Rattle.twkb_head.specs.Header.{has_bit, has_ids, z_in, m_in}
use Rattle.twkb_head.specs.Head.{span_at}
use Rattle.twkb_head.specs.Shared.HeadPlan.{kind_from}
use Rattle.twkb_head.specs.Shared.Plan.{type_plan, byte_plan}
use Rattle.twkb_head.specs.Shared.Reader.{Reader, ◌>>=◌, viewed, read, number_at, optional_at, range_from}

-- a type byte, with this many levels below it
unfoldable pub type_at : ℕ → Reader ℕ
type_at levels = read (type_plan levels)

-- a byte
unfoldable pub byte_at : Reader ℕ
byte_at = read byte_plan

-- the kind and the precision of X and Y in a type byte, with this many levels below it
abbrev pub kind_from_type : ℕ → Reader (Kind × ℤ)
kind_from_type levels r = viewed (λ t. (kind_from t, zigzag_value (t / 16))) (type_at levels r)

-- the range of an axis, where it has a precision, in units
abbrev pub axis_from : Option ℕ → Reader (Option Span)
axis_from None r = (Ok None, r)
axis_from (Some p) r = viewed (λ range. Some (span_at (pos p) range)) (range_from r)

-- a box in units, by the precisions of its header
unfoldable pub bounds_from : ℤ → Option ℕ → Option ℕ → Reader Bounds
bounds_from xy z m r =
    viewed (span_at xy) (range_from r) >>= λ x a.
    (viewed (span_at xy) (range_from a) >>= λ y b.
    (axis_from z b >>= λ z c.
    viewed (λ m. record { x = x; y = y; z = z; m = m }) (axis_from m c)))

-- two ranges, one after the other
unfoldable pub two_ranges_from : Reader ((ℤ × ℤ) × (ℤ × ℤ))
two_ranges_from r = range_from r >>= λ first a. viewed (λ second. (first, second)) (range_from a)

-- the code's form of a header, from the fields that were read
abbrev pub head_with : Kind → ℤ → ℕ → Option ℕ → Option ℕ → Option Bounds → ℕ → ℕ → ℕ → ℕ → Head
head_with kind xy metadata extended size bounds start size_place box_place stop = record {
  kind = kind;
  xy = xy;
  z = z_in extended;
  m = m_in extended;
  size = option_map (λ n. record { value = n; offset = size_place; after = box_place }) size;
  bounds = option_map (λ bounds. record { bounds = bounds; offset = box_place }) bounds;
  ids = has_ids kind metadata;
  empty = has_bit metadata 16;
  start = start;
  stop = stop;
}

-- a header, with this many levels below it
unfoldable pub head_at : ℕ → Reader Head
head_at levels r =
    kind_from_type levels r >>= λ type a.
    (byte_at a >>= λ metadata b.
    (optional_at (has_bit metadata 8) byte_at b >>= λ extended c.
    (optional_at (has_bit metadata 2) number_at c >>= λ size d.
    (optional_at (has_bit metadata 1) (bounds_from type.1 (z_in extended) (m_in extended)) d >>= λ bounds e.
    (Ok (head_with type.0 type.1 metadata extended size bounds r.place c.place d.place e.place), e)))))

-- the rest of a header that begins at `start`, after its first two bytes and, if it has one, its extended dimensions byte
abbrev pub size_and_box_at : Kind → ℤ → ℕ → ℕ → Option ℕ → Reader Head
size_and_box_at kind xy metadata start extended c =
    optional_at (has_bit metadata 2) number_at c >>= λ size d.
    (optional_at (has_bit metadata 1) (bounds_from xy (z_in extended) (m_in extended)) d >>= λ bounds e.
    (Ok (head_with kind xy metadata extended size bounds start c.place d.place e.place), e))

-- the rest of a header that begins at `start`, after its first two bytes
unfoldable pub rest_at : Kind → ℤ → ℕ → ℕ → Reader Head
rest_at kind xy metadata start b =
    optional_at (has_bit metadata 8) byte_at b >>= λ extended c. size_and_box_at kind xy metadata start extended c
