-- Headers as the code has them, with boxes in units and with places.
use Rattle.std.specs.Prelude.{◌≡◌, ℕ, ◌+◌, if◌then◌else◌, is_some, List, ◌++◌, length, slice_get, ℤ, pos, Option, unwrap_or, option_map}
use Rattle.twkb_num.specs.Units.{units_of}
use Rattle.twkb_head.specs.declared.boxes.Span.{Span}
use Rattle.twkb_head.specs.declared.boxes.Bounds.{Bounds}
use Rattle.twkb_head.specs.declared.header.Head.{Head}
use Rattle.twkb_head.specs.Header.{Header, IsHeader}
use Rattle.twkb_head.specs.BegunHeader.{IsAllowedAt}

-- a range at a precision, in units
abbrev pub span_at : ℤ → ℤ × ℤ → Span
span_at p range = record { lo = units_of range.0 p; hi = units_of range.1 p }

-- the range of an axis, by its place among the axes
abbrev pub range_of : List (ℤ × ℤ) → ℕ → ℤ × ℤ
range_of ranges axis = unwrap_or (slice_get ranges axis) (pos 0, pos 0)

-- the index of M among the axes: after X and Y, and after Z if there is one
abbrev pub m_axis : Option ℕ → ℕ
m_axis z = 2 + (if is_some z then 1 else 0)

-- a box in units, by the precisions of its header
abbrev pub bounds_of : ℤ → Option ℕ → Option ℕ → List (ℤ × ℤ) → Bounds
bounds_of xy z m ranges = record {
  x = span_at xy (range_of ranges 0);
  y = span_at xy (range_of ranges 1);
  z = option_map (λ p. span_at (pos p) (range_of ranges 2)) z;
  m = option_map (λ p. span_at (pos p) (range_of ranges (m_axis z))) m;
}

-- the code's form of a header that begins at start, with its size at size_place, its box at box_place, its end at stop
abbrev pub head_of : Header → ℕ → ℕ → ℕ → ℕ → Head
head_of h start size_place box_place stop = record {
  kind = h.kind;
  xy = h.xy;
  z = h.z;
  m = h.m;
  size = option_map (λ n. record { value = n; offset = size_place; after = box_place }) h.size;
  bounds = option_map (λ ranges. record { bounds = bounds_of h.xy h.z h.m ranges; offset = box_place }) h.box;
  ids = h.ids;
  empty = h.empty;
  start = start;
  stop = stop;
}

-- the bytes, the first of which is at start, are a header that is allowed at the depth, and this is the code's form of it
pub record IsHeadAt (head : Head) (depth start : ℕ) (bytes : List ℕ) : Type 0 where
  pub header : Header
  pub is : IsHeader header bytes
  pub allowed : IsAllowedAt header.kind depth
  pub fields : head ≡ head_of header start (start + 2 + length is.extended_bytes)
      (start + 2 + length is.extended_bytes + length is.size_bytes) (start + length bytes)

-- the bytes begin with a header that is allowed at the depth
pub record StartsWithHeader (depth : ℕ) (bytes : List ℕ) : Type 0 where
  pub header : Header
  pub front : List ℕ
  pub behind : List ℕ
  pub parts : bytes ≡ front ++ behind
  pub is : IsHeader header front
  pub allowed : IsAllowedAt header.kind depth
