-- Devices of proofs: nothing public names them.
-- The body of a geometry as it is read: the sums of its numbers, and the geometry that they make.
use Rattle.std.specs.Prelude.{ℕ, ◌+◌, List, [], ◌∷◌, ℤ, pos, ◌+ℤ◌, Option, None}
use Rattle.twkb_head.specs.Shared.HeadPlan.{HeadValue}
use Rattle.twkb_body.specs.Geometry.{Geometry, Lengths, Members, geometry, none, more, PointValue, PolygonValue}

-- the first coordinate
abbrev pub first_of : PointValue → ℤ
first_of [] = pos 0
first_of (c ∷ cs) = c

-- the coordinates after the first
abbrev pub behind : PointValue → PointValue
behind [] = []
behind (c ∷ cs) = cs

-- the sums after one more point, axis by axis
abbrev pub add : PointValue → PointValue → PointValue
add s [] = s
add [] (n ∷ ns) = n ∷ ns
add (c ∷ s) (n ∷ ns) = (c +ℤ n) ∷ add s ns

-- the sums after more points
abbrev pub sums : PointValue → List PointValue → PointValue
sums s [] = s
sums s (p ∷ ps) = sums (add s p) ps

-- the sums after more rings
abbrev pub ring_sums : PointValue → PolygonValue → PointValue
ring_sums s [] = s
ring_sums s (ring ∷ rings) = ring_sums (sums s ring) rings

-- differences start from zero in each of the four axes
abbrev pub zeros : PointValue
zeros = pos 0 ∷ pos 0 ∷ pos 0 ∷ pos 0 ∷ []

-- the coordinates of a point, by the sums before it and its differences
abbrev pub place : PointValue → PointValue → PointValue
place s [] = []
place s (n ∷ ns) = (first_of s +ℤ n) ∷ place (behind s) ns

-- f of each value, in the state that the values before it leave
abbrev pub map_from : {A B S : Type 0} → (S → A → S) → (S → A → B) → S → List A → List B
map_from after f s [] = []
map_from after f s (x ∷ xs) = f s x ∷ map_from after f (after s x) xs

-- polygons of differences, with the coordinates that they sum up to
abbrev pub absolute : List PolygonValue → List PolygonValue
absolute polygons = map_from ring_sums (map_from sums (map_from add place)) zeros polygons

-- a body, with the lengths of its count and of the count with the ids
pub record Body : Type 0 where
  pub ids : Option (List ℤ)
  pub polygons : List PolygonValue
  pub members : Members
  pub count : ℕ
  pub list : ℕ

-- a count with its length in bytes, and the ids with their length
abbrev pub ListHead : Type 0
ListHead = (ℕ × ℕ) × (Option (List ℤ) × ℕ)

-- the body of a list, of parts or of members
abbrev pub listed_body : ListHead → List PolygonValue → Members → Body
listed_body list polygons members = record {
  ids = (list.1).0;
  polygons = polygons;
  members = members;
  count = (list.0).1;
  list = (list.0).1 + (list.1).1;
}

-- the body of a list of parts
abbrev pub parts_body : ListHead → List PolygonValue → Body
parts_body list parts = listed_body list (absolute parts) none

-- the body of a collection
abbrev pub members_body : ListHead → Members → Body
members_body list gs = listed_body list [] gs

-- the body of a part alone
abbrev pub part_body : PolygonValue → Body
part_body part = record { ids = None; polygons = absolute (part ∷ []); members = none; count = 0; list = 0 }

-- the body of an empty geometry
abbrev pub no_body : Body
no_body = record { ids = None; polygons = []; members = none; count = 0; list = 0 }

-- a geometry, from its header, its body and its length
abbrev pub geometry_from : (HeadValue × ℕ) × Body → ℕ → Geometry
geometry_from parts whole =
    let head = (parts.0).0 in
    let body = parts.1 in
    let lengths : Lengths = record {
      before = head.before;
      size = head.size;
      header = (parts.0).1;
      count = body.count;
      list = body.list;
      whole = whole;
    } in
    geometry head.header lengths body.ids body.polygons body.members

-- members from a list
abbrev pub members_of : List Geometry → Members
members_of [] = none
members_of (g ∷ gs) = more g (members_of gs)
