-- Devices of proofs: nothing public names them.
-- The vertices that boxes have seen below them.
use Rattle.std.specs.Prelude.{◌≡◌, Bool, IsTrue, ℕ, [], Option, Some, None}
use Rattle.twkb_head.specs.declared.raw.Axes.{Axes}
use Rattle.twkb_head.specs.Head.{m_axis}
use Rattle.twkb_body.specs.declared.range.Ranges.{Ranges}
use Rattle.twkb_body.specs.Extent.{Reach, reach_of, both}
use Rattle.twkb_body.specs.Devices.Ranges.{range_at, reach_in_units}

-- whether a box asks for the vertices below it, and their extent, if one does
pub record Seen : Type 0 where
  pub asked : Bool
  pub extent : Reach

-- the reach of raw ranges: an axis that a header doesn't have may have any range
abbrev pub ranges_reach : Option ℕ → Ranges → Reach
ranges_reach z ranges = record { x = ranges.x; y = ranges.y; z = ranges.third; m = range_at ranges (m_axis z) }

-- raw ranges in units, by the precisions of their axes
abbrev pub in_units : Axes → Ranges → Reach
in_units axes ranges = reach_in_units axes.xy axes.z axes.m (ranges_reach axes.z ranges)

-- the reach of vertices, if there are any
abbrev pub reach_if : Option Reach → Reach
reach_if None = reach_of []
reach_if (Some reach) = reach

-- A geometry of this reach was shown to the boxes above, if there are any.
pub record HasSeen (old new : Seen) (reach : Reach) : Type 0 where
  pub asked : new.asked ≡ old.asked
  pub extent : IsTrue old.asked → new.extent ≡ both old.extent reach
