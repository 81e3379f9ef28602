-- The ranges of coordinates, and when a box holds them.
use Rattle.std.specs.Prelude.{ℤ, ◌≤ℤ◌, List, [], ◌∷◌, map, fold, filter_map, Option, Some, None, ⊤}
use Rattle.std.specs.Int.{int_min, int_max}
use Rattle.twkb_head.specs.declared.boxes.Vertex.{Vertex}
use Rattle.twkb_head.specs.declared.boxes.Bounds.{Bounds}
use Rattle.twkb_head.specs.declared.boxes.Span.{Span}

-- the least and the greatest of the numbers, if there are any
abbrev pub span_of : List ℤ → Option Span
span_of [] = None
span_of (c ∷ cs) = Some (record { lo = fold int_min c cs; hi = fold int_max c cs })

-- the least range that holds both ranges; if one is missing, the other
abbrev pub joined : Option Span → Option Span → Option Span
joined None b = b
joined (Some a) None = Some a
joined (Some a) (Some b) = Some (record { lo = int_min a.lo b.lo; hi = int_max a.hi b.hi })

-- for each axis nothing, or the least and the greatest number
pub record Reach : Type 0 where
  pub x : Option Span
  pub y : Option Span
  pub z : Option Span
  pub m : Option Span

-- the reach of vertices
abbrev pub reach_of : List Vertex → Reach
reach_of vs = record {
  x = span_of (map (λ v. v.x) vs);
  y = span_of (map (λ v. v.y) vs);
  z = span_of (filter_map (λ v. v.z) vs);
  m = span_of (filter_map (λ v. v.m) vs);
}

-- the reach of both, axis by axis
abbrev pub both : Reach → Reach → Reach
both a b = record { x = joined a.x b.x; y = joined a.y b.y; z = joined a.z b.z; m = joined a.m b.m }

-- the span holds the range, if there are both
abbrev pub IsCovered : Option Span → Option Span → Type 0
IsCovered None reached = ⊤
IsCovered (Some span) None = ⊤
IsCovered (Some span) (Some reached) = (span.lo ≤ℤ reached.lo) × (reached.hi ≤ℤ span.hi)

-- the box holds the reach, in each axis that both have
pub record IsReachWithin (reach : Reach) (box : Bounds) : Type 0 where
  pub x : IsCovered (Some box.x) reach.x
  pub y : IsCovered (Some box.y) reach.y
  pub z : IsCovered box.z reach.z
  pub m : IsCovered box.m reach.m
