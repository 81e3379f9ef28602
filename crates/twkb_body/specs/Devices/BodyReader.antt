-- Devices of proofs: nothing public names them.
-- Reading a geometry from a cursor as code does it: what its plan reads, one step after another.
use Rattle.std.specs.Prelude.{ℕ, zero, suc, ◌-◌, Bool, true, false, [], ◌∷◌, None, ℤ, pos, Ok, Err, List}
use Rattle.twkb_num.specs.Cursor.{Reading}
use Rattle.twkb_head.specs.declared.kinds.Kind.{Kind}
use Rattle.twkb_head.specs.declared.kinds.Kind.TheVariants.{Point, LineString, Polygon, MultiPoint, MultiLineString, MultiPolygon, GeometryCollection}
use Rattle.twkb_head.specs.Header.{Header, axes_of, is_multi}
use Rattle.twkb_head.specs.BegunHeader.{is_collection}
use Rattle.twkb_head.specs.Shared.HeadPlan.{HeadValue, head_plan}
use Rattle.twkb_head.specs.Shared.Reader.{Answer, Reader, ◌>>=◌, viewed, read, number_at, coordinate_at, optional_at, many_at, signeds_at}
use Rattle.twkb_body.specs.Geometry.{Geometry, Members, none, PointValue, Ring, PolygonValue}
use Rattle.twkb_body.specs.Devices.Body.{first_of, behind, add, sums, ring_sums, zeros, ListHead, Body, parts_body, members_body, part_body, no_body, geometry_from, members_of}

-- a point, from the sums before it
abbrev pub point_at : ℕ → PointValue → Reader PointValue
point_at axes s = many_at axes (λ s z. behind s) (λ s. coordinate_at (first_of s)) s

-- a number, and then as many values
abbrev pub prefixed_at : {A : Type 0} → (PointValue → A → PointValue) → (PointValue → Reader A) → PointValue → Reader (List A)
prefixed_at after each s r = number_at r >>= λ n. many_at n after each s

-- a ring, or a line
abbrev pub ring_at : ℕ → PointValue → Reader Ring
ring_at axes = prefixed_at add (point_at axes)

-- a polygon
abbrev pub polygon_at : ℕ → PointValue → Reader PolygonValue
polygon_at axes = prefixed_at sums (ring_at axes)

-- this many lines
abbrev pub lines_at : ℕ → ℕ → PointValue → Reader (List Ring)
lines_at count axes = many_at count sums (ring_at axes)

-- a part of the kind
abbrev pub part_at : Kind → ℕ → PointValue → Reader PolygonValue
part_at Point axes s r = viewed (λ p. (p ∷ []) ∷ []) (point_at axes s r)
part_at MultiPoint axes s r = viewed (λ p. (p ∷ []) ∷ []) (point_at axes s r)
part_at LineString axes s r = viewed (λ line. line ∷ []) (ring_at axes s r)
part_at MultiLineString axes s r = viewed (λ line. line ∷ []) (ring_at axes s r)
part_at Polygon axes s r = polygon_at axes s r
part_at MultiPolygon axes s r = polygon_at axes s r
part_at GeometryCollection axes s r = (Ok [], r)

-- this many parts of the kind
abbrev pub many_parts_at : Kind → ℕ → ℕ → PointValue → Reader (List PolygonValue)
many_parts_at kind count axes = many_at count ring_sums (part_at kind axes)

-- the value of an answer, and how many bytes were read for it
abbrev pub spanned : {A : Type 0} → Reading → Answer A → Answer (A × ℕ)
spanned r (Ok x, a) = (Ok (x, a.place - r.place), a)
spanned r (Err m, a) = (Err m, a)

-- a count, and the ids where they are announced
unfoldable pub list_at : Bool → Reader ListHead
list_at ids r = spanned r (number_at r) >>= λ n a.
    viewed (λ list. (n, list)) (spanned a (optional_at ids (signeds_at n.0) a))

-- a count and ids, for a kind that has a list of parts; otherwise one part, with no ids
abbrev pub count_at : Bool → Bool → Reader ListHead
count_at false ids r = (Ok ((1, 0), (None, 0)), r)
count_at true ids r = list_at ids r

-- the body of a kind that is no collection
unfoldable pub shape_at : Bool → Header → Reader Body
shape_at false h r = viewed part_body (part_at h.kind (axes_of h) zeros r)
shape_at true h r = list_at h.ids r >>= λ list a.
    viewed (parts_body list) (many_parts_at h.kind (list.0).0 (axes_of h) zeros a)

-- the body that a header announces
unfoldable pub body_at : Bool → Bool → Header → (ℕ → Reader Members) → Reader Body
body_at true collection h members r = (Ok no_body, r)
body_at false true h members r = list_at h.ids r >>= λ list a. viewed (members_body list) (members (list.0).0 a)
body_at false false h members r = shape_at (is_multi h.kind) h r

-- a header and a body
unfoldable pub parts_at : ℕ → (ℕ → Reader Members) → Reader ((HeadValue × ℕ) × Body)
parts_at levels members r =
    spanned r (read (head_plan levels) r) >>= λ head a.
    let h = (head.0).header in
    viewed (λ body. (head, body)) (body_at h.empty (is_collection h.kind) h members a)

-- this many geometries, each read by a reader
abbrev pub geometries_at : Reader Geometry → ℕ → Reader (List Geometry)
geometries_at each n = many_at n (λ (s : ℤ) (g : Geometry). s) (λ s. each) (pos 0)

-- the members of a collection, each read by a reader
abbrev pub members_at : Reader Geometry → ℕ → Reader Members
members_at each n r = viewed members_of (geometries_at each n r)

-- a geometry, over the reader of its members
abbrev pub geometry_by : ℕ → (ℕ → Reader Members) → Reader Geometry
geometry_by levels members r = viewed (λ x. geometry_from x.0 x.1) (spanned r (parts_at levels members r))

-- a geometry with this many levels below it
unfoldable pub geometry_at : ℕ → Reader Geometry
geometry_at zero = geometry_by zero (λ n r. (Ok none, r))
geometry_at (suc levels) = geometry_by (suc levels) (members_at (geometry_at levels))

-- the members of a collection with this many levels below it
abbrev pub members_under : ℕ → ℕ → Reader Members
members_under zero = λ n r. (Ok none, r)
members_under (suc levels) = members_at (geometry_at levels)
