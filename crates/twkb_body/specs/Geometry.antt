-- A geometry as a value: a tree of headers, with absolute coordinates and the lengths of its parts in bytes.
use Rattle.std.specs.Prelude.{ℕ, suc, List, [], ◌++◌, map, flat_map, slice_get, ℤ, pos, Option, unwrap_or, option_map}
use Rattle.twkb_num.specs.Units.{units_of}
use Rattle.twkb_head.specs.Header.{Header}
use Rattle.twkb_head.specs.declared.raw.Axes.{Axes}
use Rattle.twkb_head.specs.Head.{m_axis}
use Rattle.twkb_head.specs.declared.boxes.Vertex.{Vertex}

-- a point has a coordinate for each axis; a ring, or a line, has points; a polygon has rings
abbrev pub PointValue : Type 0
PointValue = List ℤ

abbrev pub Ring : Type 0
Ring = List PointValue

abbrev pub PolygonValue : Type 0
PolygonValue = List Ring

-- How many bytes these take: the fields before size and box, the size field, the whole header, the count of members, the
-- count with the ids, and the whole geometry.
pub record Lengths : Type 0 where
  pub before : ℕ
  pub size : ℕ
  pub header : ℕ
  pub count : ℕ
  pub list : ℕ
  pub whole : ℕ

-- A collection has members, which are geometries. A geometry of another kind has a list of polygons: a line is one ring
-- of one polygon, and a point is one point of one ring.
mutual
  pub data Geometry : Type 0 where
    geometry : Header → Lengths → Option (List ℤ) → List PolygonValue → Members → Geometry

  pub data Members : Type 0 where
    none : Members
    more : Geometry → Members → Members

-- the lengths of a geometry's parts
abbrev pub lengths_of : Geometry → Lengths
lengths_of (geometry h l ids polygons members) = l

-- the header of a geometry
abbrev pub header_of : Geometry → Header
header_of (geometry h l ids polygons members) = h

-- how many members there are
abbrev pub member_count : Members → ℕ
member_count none = 0
member_count (more g gs) = suc (member_count gs)

-- all points, in reading order
abbrev pub points_of : List PolygonValue → List PointValue
points_of polygons = flat_map (λ polygon. flat_map (λ ring. ring) polygon) polygons

-- the coordinate of a point on an axis, or 0 if the point has none
abbrev pub coordinate : PointValue → ℕ → ℤ
coordinate point axis = unwrap_or (slice_get point axis) (pos 0)

-- a point in units, by the precisions of its header
abbrev pub vertex_of : Header → PointValue → Vertex
vertex_of h point = record {
  x = units_of (coordinate point 0) h.xy;
  y = units_of (coordinate point 1) h.xy;
  z = option_map (λ p. units_of (coordinate point 2) (pos p)) h.z;
  m = option_map (λ p. units_of (coordinate point (m_axis h.z)) (pos p)) h.m;
}

-- like `vertex_of`, by the precisions alone instead of a header
abbrev pub vertex_at : Axes → PointValue → Vertex
vertex_at axes point = record {
  x = units_of (coordinate point 0) axes.xy;
  y = units_of (coordinate point 1) axes.xy;
  z = option_map (λ p. units_of (coordinate point 2) (pos p)) axes.z;
  m = option_map (λ p. units_of (coordinate point (m_axis axes.z)) (pos p)) axes.m;
}

unfoldable mutual
  -- all vertices of the geometry and of all below it, in reading order
  pub vertices : Geometry → List Vertex
  vertices (geometry h l ids polygons members) = map (vertex_of h) (points_of polygons) ++ member_vertices members

  pub member_vertices : Members → List Vertex
  member_vertices none = []
  member_vertices (more g gs) = vertices g ++ member_vertices gs
