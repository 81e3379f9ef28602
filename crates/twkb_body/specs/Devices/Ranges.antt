-- Devices of proofs: nothing public names them.
-- The ranges of raw coordinates under one header, scaled once at its end.
use Rattle.std.specs.Prelude.{◌-◌, ◌^◌, ◌≡◌, ◌<◌, Bool, true, IfSome, ℕ, zero, suc, cond, ℤ, pos, neg_ℤ, ◌+ℤ◌, ◌<ℤ◌, int_lt, [], ◌∷◌, Option, Some, None, option_map}
use Rattle.twkb_num.specs.Units.{units_of}
use Rattle.twkb_head.specs.declared.boxes.Span.{Span}
use Rattle.twkb_head.specs.declared.boxes.Vertex.{Vertex}
use Rattle.twkb_head.specs.declared.raw.RawRange.{RawRange}
use Rattle.twkb_head.specs.declared.raw.Axes.{Axes}
use Rattle.twkb_head.specs.declared.raw.RawBox.{RawBox}
use Rattle.twkb_head.specs.Header.{Header, axes_with}
use Rattle.twkb_head.specs.Head.{m_axis}
use Rattle.twkb_body.specs.declared.range.Range.TheInside.{Inside}
use Rattle.twkb_body.specs.declared.range.Ranges.{Ranges}
use Rattle.twkb_body.specs.Geometry.{PointValue, coordinate}
use Rattle.twkb_body.specs.Extent.{Reach, reach_of, both, IsCovered}

-- the range that two numbers mean in code: none if the least is above the greatest
abbrev pub range_view : Inside → Option Span
range_view r = cond (int_lt r.greatest r.least) None (Some (record { lo = r.least; hi = r.greatest }))

-- the two numbers that mean a range in code
abbrev pub range_of_span : Option Span → Inside
range_of_span None = record { least = pos (2 ^ 63 - 1); greatest = neg_ℤ (pos (2 ^ 63)) }
range_of_span (Some span) = record { least = span.lo; greatest = span.hi }

-- a range of no number has the greatest number of 64 bits as its least, and the least as its greatest
abbrev pub IsRange : Inside → Type 0
IsRange r = r.greatest <ℤ r.least → (r.least ≡ pos (2 ^ 63 - 1)) × (r.greatest ≡ neg_ℤ (pos (2 ^ 63)))

-- the numbers that a raw range holds
abbrev pub span_in : RawRange → Span
span_in range = record { lo = range.minimum; hi = range.minimum +ℤ range.extent }

-- a raw range holds a range, and in tight checking it is the same
pub record IsHeldRaw (tight : Bool) (range : RawRange) (reached : Option Span) : Type 0 where
  pub held : IsCovered (Some (span_in range)) reached
  pub same : tight ≡ true → IfSome reached (λ r. r ≡ span_in range)

-- a box holds the ranges of the axes that its header has, and in tight checking they are the same
pub record AreHeldRaw (tight : Bool) (axes : Axes) (box : RawBox) (ranges : Ranges) : Type 0 where
  pub x : IsHeldRaw tight box.x ranges.x
  pub y : IsHeldRaw tight box.y ranges.y
  pub third : 2 < axes_with axes.z axes.m → IsHeldRaw tight box.third ranges.third
  pub fourth : 3 < axes_with axes.z axes.m → IsHeldRaw tight box.fourth ranges.fourth

-- the range of an axis, by its number
abbrev pub range_at : Ranges → ℕ → Option Span
range_at ranges zero = ranges.x
range_at ranges (suc zero) = ranges.y
range_at ranges (suc (suc zero)) = ranges.third
range_at ranges (suc (suc (suc k))) = ranges.fourth

-- a range in units, at a precision
abbrev pub scaled : ℤ → Option Span → Option Span
scaled p None = None
scaled p (Some range) = Some (record { lo = units_of range.lo p; hi = units_of range.hi p })

-- `scaled` if the axis has a precision, otherwise no range
abbrev pub scaled_if : Option ℕ → Option Span → Option Span
scaled_if None range = None
scaled_if (Some p) range = scaled (pos p) range

-- a point as a vertex of raw coordinates, in the axes of its header
abbrev pub raw_of : Header → PointValue → Vertex
raw_of h point = record {
  x = coordinate point 0;
  y = coordinate point 1;
  z = option_map (λ p. coordinate point 2) h.z;
  m = option_map (λ p. coordinate point (m_axis h.z)) h.m;
}

-- a reach of raw coordinates after one more point
abbrev pub widened : Header → Reach → PointValue → Reach
widened h reach point = both reach (reach_of (raw_of h point ∷ []))

-- a reach of raw coordinates in units, by the precisions of a header
abbrev pub reach_in_units : ℤ → Option ℕ → Option ℕ → Reach → Reach
reach_in_units xy z m raw =
    record { x = scaled xy raw.x; y = scaled xy raw.y; z = scaled_if z raw.z; m = scaled_if m raw.m }
