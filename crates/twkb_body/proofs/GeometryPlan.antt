-- The plan by which a geometry is read.
use Rattle.std.specs.Prelude.{ℕ, zero, suc, ◌-◌, Bool, true, false, List, [], ◌∷◌, pos, Result}
use Rattle.twkb_body.proofs.Prelude.{Kind, Point, LineString, Polygon, MultiPoint, MultiLineString, MultiPolygon, GeometryCollection, Header, axes_of, is_multi, is_collection, deepest, Fault, run, Plan, done, bind, many, measure, optional, number_plan, signeds_plan, coordinate_plan, HeadValue, head_plan, Geometry, Members, none, PointValue, Ring, PolygonValue, Body, ListHead, add, behind, first_of, geometry_from, members_body, members_of, no_body, part_body, parts_body, ring_sums, sums, zeros}

-- a point: a difference for each axis
abbrev pub point_plan : ℕ → PointValue → Plan PointValue
point_plan axes s = many axes (λ s z. behind s) (λ s. coordinate_plan (first_of s)) s

-- a count, and that many points
abbrev pub ring_plan : ℕ → PointValue → Plan Ring
ring_plan axes s = bind number_plan (λ n. many n add (point_plan axes) s)

-- a count, and that many rings
abbrev pub polygon_plan : ℕ → PointValue → Plan PolygonValue
polygon_plan axes s = bind number_plan (λ n. many n sums (ring_plan axes) s)

-- a part of the kind
abbrev pub part_plan : Kind → ℕ → PointValue → Plan PolygonValue
part_plan Point axes s = bind (point_plan axes s) (λ p. done ((p ∷ []) ∷ []))
part_plan MultiPoint axes s = bind (point_plan axes s) (λ p. done ((p ∷ []) ∷ []))
part_plan LineString axes s = bind (ring_plan axes s) (λ line. done (line ∷ []))
part_plan MultiLineString axes s = bind (ring_plan axes s) (λ line. done (line ∷ []))
part_plan Polygon axes s = polygon_plan axes s
part_plan MultiPolygon axes s = polygon_plan axes s
part_plan GeometryCollection axes s = done []

-- the ids after a count, if they are announced
abbrev pub ids_plan : Bool → ℕ × ℕ → Plan ListHead
ids_plan ids n = bind (measure 0 (optional ids (signeds_plan n.0))) (λ list. done (n, list))

-- a count, and the ids
abbrev pub list_plan : Bool → Plan ListHead
list_plan ids = bind (measure 0 number_plan) (ids_plan ids)

-- the parts after a count and ids
abbrev pub after_list : Header → ListHead → Plan Body
after_list h list = bind (many (list.0).0 ring_sums (part_plan h.kind (axes_of h)) zeros) (λ parts. done (parts_body list parts))

-- the body of a kind that is no collection
abbrev pub shape_plan : Bool → Header → Plan Body
shape_plan false h = bind (part_plan h.kind (axes_of h) zeros) (λ part. done (part_body part))
shape_plan true h = bind (list_plan h.ids) (after_list h)

-- the members after a count and ids
abbrev pub after_count : (ℕ → Plan Members) → ListHead → Plan Body
after_count members list = bind (members (list.0).0) (λ gs. done (members_body list gs))

-- the body that the header announces
abbrev pub body_plan : Bool → Bool → Header → (ℕ → Plan Members) → Plan Body
body_plan true collection h members = done no_body
body_plan false true h members = bind (list_plan h.ids) (after_count members)
body_plan false false h members = shape_plan (is_multi h.kind) h

-- the body after a header
abbrev pub after_head : (ℕ → Plan Members) → HeadValue × ℕ → Plan ((HeadValue × ℕ) × Body)
after_head members head = bind (body_plan (head.0).header.empty (is_collection (head.0).header.kind) (head.0).header members) (λ body. done (head, body))

-- a header and its body
abbrev pub parts_plan : ℕ → (ℕ → Plan Members) → Plan ((HeadValue × ℕ) × Body)
parts_plan levels members = bind (measure 0 (head_plan levels)) (after_head members)

-- a geometry, over the plan of its members
abbrev pub geometry_with : ℕ → (ℕ → Plan Members) → Plan Geometry
geometry_with levels members = bind (measure 0 (parts_plan levels members)) (λ x. done (geometry_from x.0 x.1))

-- the members of a collection, each read by a plan
abbrev pub members_plan : Plan Geometry → ℕ → Plan Members
members_plan plan n = bind (many n (λ s g. s) (λ s. plan) (pos 0)) (λ gs. done (members_of gs))

-- a geometry with this many levels below it
unfoldable pub geometry_plan : ℕ → Plan Geometry
geometry_plan zero = geometry_with zero (λ n. done none)
geometry_plan (suc levels) = geometry_with (suc levels) (members_plan (geometry_plan levels))

-- the geometry at the front of the bytes, with this many levels below it, and the rest of the bytes, or the first fault
abbrev pub read_at : ℕ → List ℕ → Result (Geometry × List ℕ) Fault
read_at levels bytes = run (geometry_plan levels) bytes

-- the blob at the front of the bytes, and the rest of the bytes, or the first fault
abbrev pub read_blob : List ℕ → Result (Geometry × List ℕ) Fault
read_blob = read_at (deepest - 1)
