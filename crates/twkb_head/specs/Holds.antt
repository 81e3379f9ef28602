-- Vertices within a box.
use Rattle.std.specs.Prelude.{◌≤ℤ◌, ℤ, IfSome}
use Rattle.twkb_head.specs.declared.boxes.Span.{Span}
use Rattle.twkb_head.specs.declared.boxes.Vertex.{Vertex}
use Rattle.twkb_head.specs.declared.boxes.Bounds.{Bounds}

-- a value is within a range, ends included
abbrev pub IsWithin : Span → ℤ → Type 0
IsWithin span value = (span.lo ≤ℤ value) × (value ≤ℤ span.hi)

-- a box holds a vertex: in each axis that both have it is within the range; no other axis is compared
pub record Holds (box : Bounds) (v : Vertex) : Type 0 where
  pub x : IsWithin box.x v.x
  pub y : IsWithin box.y v.y
  pub z : IfSome box.z (λ span. IfSome v.z (IsWithin span))
  pub m : IfSome box.m (λ span. IfSome v.m (IsWithin span))
