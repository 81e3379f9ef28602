-- Devices of proofs: nothing public names them.
-- What is kept of the points under one header: in each axis the last coordinate and the range of all. Points by short numbers are
-- kept as distances from a base, in lanes of 32 bits, where a distance d is 2^31 + d.
use Rattle.std.specs.Prelude.{◌≡◌, Bool, ℕ, zero, suc, ◌+◌, ◌%◌, ◌<◌, ◌≤◌, ◌^◌, ◌==◌, if◌then◌else◌, nat_le, nat_lt, Bool, ◌&&◌, cond, true, false, List, [], ◌∷◌, slice_index, fold, ℤ, pos, neg_ℤ, min, max, ◌+ℤ◌, ◌-ℤ◌, ◌≤ℤ◌, Option, Some, None, replicate}
use Rattle.twkb_head.specs.declared.boxes.Span.{Span}
use Rattle.twkb_head.specs.Header.{Header, axes_with}
use Rattle.twkb_head.specs.Head.{m_axis}
use Rattle.twkb_body.specs.declared.extents.AxisExtent.{AxisExtent}
use Rattle.twkb_body.specs.declared.extents.Base.{Base}
use Rattle.twkb_body.specs.declared.extents.Extents.{Extents}
use Rattle.twkb_body.specs.declared.extent_lanes.Lanes.{Lanes}
use Rattle.twkb_body.specs.Extent.{Reach, span_of, joined}
use Rattle.twkb_body.specs.Devices.Columns.{column, running, sum_fits, Stays}
use Rattle.twkb_body.specs.Devices.PointReader.{Stage}
use Rattle.twkb_body.specs.Geometry.{coordinate}

-- the distance that a lane means
abbrev pub distance : ℕ → ℤ
distance lane = pos lane -ℤ pos 2147483648

-- a lane with another one's distance added
abbrev pub lane_sum : ℕ → ℕ → ℕ
lane_sum more lane = (more + lane) % 4294967296

-- no lane is greater than the limit in its place
abbrev pub lanes_within : List ℕ → List ℕ → Bool
lanes_within lanes limits =
    (nat_le (slice_index lanes 0) (slice_index limits 0) && nat_le (slice_index lanes 1) (slice_index limits 1))
    && (nat_le (slice_index lanes 2) (slice_index limits 2) && nat_le (slice_index lanes 3) (slice_index limits 3))

-- the lane of the last point that leads to a lane: of two axes the second point, for both
abbrev pub last_place : ℕ → ℕ → ℕ
last_place axes i = if axes == 2 then 2 + i % 2 else i

-- the range of the distances between two lanes, from a base; none if the least is above the greatest
abbrev pub lane_span : ℤ → ℕ → ℕ → Option Span
lane_span base least greatest =
    cond (nat_lt greatest least) None (Some (record { lo = base +ℤ distance least; hi = base +ℤ distance greatest }))

-- the extent of an axis up to a base
abbrev pub axis_in : Base → ℕ → AxisExtent
axis_in b zero = b.x
axis_in b (suc zero) = b.y
axis_in b (suc (suc zero)) = b.third
axis_in b (suc (suc (suc k))) = b.fourth

-- an axis without points: differences start from zero
abbrev pub no_axis : AxisExtent
no_axis = record { last = pos 0; range = None }

-- the base before any point
abbrev pub no_base : Base
no_base = record { x = no_axis; y = no_axis; third = no_axis; fourth = no_axis; is_near = true; has_left = false }

-- the base that is kept, or zero
abbrev pub base_or_zero : Option Base → Base
base_or_zero None = no_base
base_or_zero (Some b) = b

-- the base of points in lanes
abbrev pub base_of : Extents → Base
base_of e = base_or_zero e.base

-- a sum has left 64 bits
abbrev pub has_left : Extents → Bool
has_left e = (base_of e).has_left

-- the last coordinate of an axis, from a base
abbrev pub last_from : Base → Lanes → ℕ → ℤ
last_from b lanes k = (axis_in b k).last +ℤ distance (slice_index lanes.last k)

-- the last coordinate of an axis
abbrev pub last_of : Extents → ℕ → ℤ
last_of e = last_from (base_of e) e.lanes

-- the range of an axis's distances in one lane
abbrev pub lane_range : ℤ → Lanes → ℕ → Option Span
lane_range base lanes i = lane_span base (slice_index lanes.least i) (slice_index lanes.greatest i)

-- the range of an axis's distances in lanes: of two axes there are two lanes for each
abbrev pub lanes_range : ℕ → ℤ → Lanes → ℕ → Option Span
lanes_range axes base lanes k =
    if axes == 2 then joined (lane_range base lanes k) (lane_range base lanes (2 + k)) else lane_range base lanes k

-- the range of all coordinates of an axis, up to a base and in lanes
abbrev pub range_from : ℕ → Base → Lanes → ℕ → Option Span
range_from axes b lanes k = joined (axis_in b k).range (lanes_range axes (axis_in b k).last lanes k)

-- the range of all coordinates of an axis
abbrev pub range_of : ℕ → Extents → ℕ → Option Span
range_of axes e = range_from axes (base_of e) e.lanes

-- a base from which no distance in a lane leads out of 64 bits
abbrev pub IsNearZero : ℤ → Type 0
IsNearZero z = (neg_ℤ (pos (2 ^ 62)) ≤ℤ z) × (z ≤ℤ pos (2 ^ 62))

-- no points in lanes: the last one is the base
abbrev pub no_lanes : Lanes
no_lanes = record { last = replicate 4 2147483648; least = replicate 4 4294967295; greatest = replicate 4 0 }

-- lanes of 32 bits in a place: if the least is above the greatest, there are no points
pub record IsLane (lanes : Lanes) (i : ℕ) : Type 0 where
  pub last : slice_index lanes.last i < 4294967296
  pub least : slice_index lanes.least i < 4294967296
  pub greatest : slice_index lanes.greatest i < 4294967296
  pub empty : slice_index lanes.greatest i < slice_index lanes.least i
      → (slice_index lanes.least i ≡ 4294967295) × (slice_index lanes.greatest i ≡ 0)

-- What holds of a base and lanes, while no sum has left 64 bits: the base fits 64 bits; if there may be points in lanes, it is near
-- zero; and of two axes the last point is in lanes twice.
pub record AreHeld (axes : ℕ) (b : Base) (lanes : Lanes) : Type 0 where
  pub fits : (k : ℕ) → k < axes → sum_fits (axis_in b k).last
  pub near : b.is_near ≡ true → (k : ℕ) → k < axes → IsNearZero (axis_in b k).last
  pub far : b.is_near ≡ false → lanes ≡ no_lanes
  pub each : (i : ℕ) → i < 4 → IsLane lanes i
  pub twice : axes ≡ 2 → (i : ℕ) → i < 2 → slice_index lanes.last (2 + i) ≡ slice_index lanes.last i

-- what holds of the extents of points, while no sum has left 64 bits
abbrev pub IsHeld : ℕ → Extents → Type 0
IsHeld axes e = AreHeld axes (base_of e) e.lanes

-- how far points are from the last one before them, by the differences of each from the one before it
abbrev pub steps : ℕ → ℤ → ℤ → ℤ → ℤ → List ℤ
steps axes a b c d = if axes == 2 then a ∷ b ∷ (c +ℤ a) ∷ (d +ℤ b) ∷ [] else a ∷ b ∷ c ∷ d ∷ []

-- points at these distances from the last one were seen, each lane by itself
pub record Sees (axes : ℕ) (more : List ℕ) (old new : Lanes) : Type 0 where
  pub last : (i : ℕ) → i < 4 → slice_index new.last i
      ≡ lane_sum (slice_index more (last_place axes i)) (slice_index old.last (last_place axes i))
  pub least : (i : ℕ) → i < 4 → slice_index new.least i
      ≡ min (slice_index old.least i) (lane_sum (slice_index more i) (slice_index old.last i))
  pub greatest : (i : ℕ) → i < 4 → slice_index new.greatest i
      ≡ max (slice_index old.greatest i) (lane_sum (slice_index more i) (slice_index old.last i))

-- no lane of the last point has a distance of more than 2^30
abbrev pub HaveRoom : Lanes → Type 0
HaveRoom lanes = (i : ℕ) → i < 4 → (1073741824 ≤ slice_index lanes.last i) × (slice_index lanes.last i < 3221225472)

-- the lanes of the last point have 32 bits
abbrev pub AreLanes : Lanes → Type 0
AreLanes lanes = (i : ℕ) → i < 4 → slice_index lanes.last i < 4294967296

-- points in lanes can be taken: the bases are near zero, and the last point isn't far from them
abbrev pub HasRoom : Extents → Type 0
HasRoom e = ((base_of e).is_near ≡ true) × (AreLanes e.lanes → HaveRoom e.lanes)

-- points of these numbers in an axis lead from a last coordinate and a range to others, and each coordinate fits 64 bits
pub record Grows (last : ℤ) (range : Option Span) (numbers : List ℤ) (last' : ℤ) (range' : Option Span) : Type 0 where
  pub sum : last' ≡ fold ◌+ℤ◌ last numbers
  pub reach : range' ≡ joined range (span_of (running last numbers))
  pub stays : Stays last numbers

-- a number of an axis leads from some extents to others: that axis grows by it, and the others are as before
abbrev pub HasAdded : ℕ → ℕ → ℤ → Extents → Extents → Type 0
HasAdded axes axis number old new = (k : ℕ) → k < axes
    → Grows (last_of old k) (range_of axes old k) (if axis == k then number ∷ [] else []) (last_of new k) (range_of axes new k)

-- a number of an axis was added, or its coordinate doesn't fit 64 bits, as the extents say
abbrev pub AddsNumber : ℕ → ℕ → ℤ → Extents → Extents → Type 0
AddsNumber axes axis number old new =
    (has_left new ≡ false → IsHeld axes new × HasAdded axes axis number old new)
    × (has_left new ≡ true → sum_fits (last_of old axis +ℤ number) → ⊥)

-- `AddsNumber` for a base without points in lanes
abbrev pub AddsToBase : ℕ → ℕ → ℤ → Base → Base → Type 0
AddsToBase axes axis number old new =
    AddsNumber axes axis number (record { lanes = no_lanes; base = Some old }) (record { lanes = no_lanes; base = Some new })

-- the numbers of points lead from some extents to others, axis by axis
abbrev pub GrowTo : ℕ → Extents → List ℤ → Extents → Type 0
GrowTo axes old numbers new = (k : ℕ) → k < axes
    → Grows (last_of old k) (range_of axes old k) (column axes k numbers) (last_of new k) (range_of axes new k)

-- the coordinate of some axis leaves 64 bits
abbrev pub Leaves : ℕ → Extents → List ℤ → Type 0
Leaves axes old numbers = (k : ℕ) × (k < axes) × (Stays (last_of old k) (column axes k numbers) → ⊥)

-- Numbers were taken: if no sum left 64 bits before, they lead to the extents, or one of them leaves, as the extents say.
abbrev pub Took : ℕ → Extents → List ℤ → Extents → Type 0
Took axes old numbers new = IsHeld axes old → has_left old ≡ false
    → (has_left new ≡ false → IsHeld axes new × GrowTo axes old numbers new) × (has_left new ≡ true → Leaves axes old numbers)

-- the range of an axis, if the header has it
abbrev pub range_if : Option ℕ → Option Span → Option Span
range_if None range = None
range_if (Some p) range = range

-- the reach of points in raw coordinates, in the axes of a header
abbrev pub raw_reach : Header → ℕ → Extents → Reach
raw_reach h axes e = record {
  x = range_of axes e 0;
  y = range_of axes e 1;
  z = range_if h.z (range_of axes e 2);
  m = range_if h.m (range_of axes e (m_axis h.z));
}

-- a reader of points is at a stage under a header: these are the extents of the points so far, and this is their number
pub record HoldsPoints (axes : ℕ) (e : Extents) (points : ℕ) (at : Stage (Header × Reach)) : Type 0 where
  pub axes_are : axes ≡ axes_with (at.state.0).z (at.state.0).m
  pub same : at.axes ≡ axes
  pub many : at.trail.points ≡ points
  pub held : IsHeld axes e
  pub stays : has_left e ≡ false
  pub lasts : (k : ℕ) → k < axes → coordinate at.trail.last k ≡ last_of e k
  pub reach : at.state.1 ≡ raw_reach at.state.0 axes e
