-- The bytes of a geometry: the grammar of blobs.
use Rattle.std.specs.Prelude.{◌≡◌, ℕ, suc, ◌+◌, Bool, true, false, List, [], ◌∷◌, ◌++◌, length, map, flat_map, slice_get, take, ℤ, pos, ◌+ℤ◌, Option, Some, None, FitsSigned}
use Rattle.std.specs.Int.{w64}
use Rattle.twkb_num.specs.Varint.{Spells, IsSigned}
use Rattle.twkb_head.specs.Parts.{Then, Sequence, Times, Counted, Announced}
use Rattle.twkb_head.specs.Header.{Header, IsHeader, axes_of, is_multi}
use Rattle.twkb_head.specs.BegunHeader.{is_collection, IsAllowedUnder, deepest}
use Rattle.twkb_body.specs.Geometry.{Geometry, Members, geometry, none, more, Lengths, PointValue, Ring, PolygonValue, points_of, member_count, coordinate}
use Rattle.twkb_head.specs.declared.kinds.Kind.{Kind}
use Rattle.twkb_head.specs.declared.kinds.Kind.TheVariants.{Point, LineString, Polygon, MultiPoint, MultiLineString, MultiPolygon, GeometryCollection}

-- a number for each axis
abbrev pub IsPoint : ℕ → PointValue → List ℕ → Type 0
IsPoint axes = Times axes IsSigned

-- a count, and that many points
abbrev pub IsRing : ℕ → Ring → List ℕ → Type 0
IsRing axes = Counted (IsPoint axes)

-- a count, and that many rings
abbrev pub IsPolygon : ℕ → PolygonValue → List ℕ → Type 0
IsPolygon axes = Counted (IsRing axes)

-- one part of the kind: a point, a line or a polygon
abbrev pub IsPart : Kind → ℕ → PolygonValue → List ℕ → Type 0
IsPart Point axes part bytes = (p : PointValue) × (part ≡ (p ∷ []) ∷ []) × IsPoint axes p bytes
IsPart MultiPoint axes part bytes = (p : PointValue) × (part ≡ (p ∷ []) ∷ []) × IsPoint axes p bytes
IsPart LineString axes part bytes = (line : Ring) × (part ≡ line ∷ []) × IsRing axes line bytes
IsPart MultiLineString axes part bytes = (line : Ring) × (part ≡ line ∷ []) × IsRing axes line bytes
IsPart Polygon axes part bytes = IsPolygon axes part bytes
IsPart MultiPolygon axes part bytes = IsPolygon axes part bytes
IsPart GeometryCollection axes part bytes = ⊥

-- a count of members, their ids and the members
pub record IsList (h : Header) (l : Lengths) (ids : Option (List ℤ)) (n : ℕ) (Each : List ℕ → Type 0) (bytes : List ℕ)
    : Type 0 where
  pub count : List ℕ
  pub id_list : List ℕ
  pub members : List ℕ
  pub fields : bytes ≡ count ++ (id_list ++ members)
  pub count_field : Spells count n
  pub ids_field : Announced h.ids (Times n IsSigned) ids id_list
  pub each : Each members
  pub count_length : l.count ≡ length count
  pub list_length : l.list ≡ length count + length id_list

-- neither a count of members nor ids
abbrev pub IsNoList : Lengths → Option (List ℤ) → Type 0
IsNoList l ids = (ids ≡ None) × (l.count ≡ 0) × (l.list ≡ 0)

-- the numbers in the bytes of a body that is no collection's: one part alone, or a list of parts
abbrev pub IsNumbers : Bool → Header → Lengths → Option (List ℤ) → List PolygonValue → List ℕ → Type 0
IsNumbers false h l ids parts bytes =
    (part : PolygonValue) × (parts ≡ part ∷ []) × IsPart h.kind (axes_of h) part bytes × IsNoList l ids
IsNumbers true h l ids parts bytes = IsList h l ids (length parts) (Sequence (IsPart h.kind (axes_of h)) parts) bytes

-- the sum of the numbers of one axis
abbrev pub total : ℕ → List PointValue → ℤ
total axis [] = pos 0
total axis (point ∷ points) = coordinate point axis +ℤ total axis points

-- In each axis the coordinate of a point is the sum of the numbers up to its own, and fits 64 bits.
abbrev pub Accumulates : List PointValue → List PointValue → Type 0
Accumulates points numbers = (i axis : ℕ) (point : PointValue) (c : ℤ) → slice_get points i ≡ Some point
    → slice_get point axis ≡ Some c → (c ≡ total axis (take (suc i) numbers)) × FitsSigned w64 c

-- two lists have equally many polygons, rings in each polygon, points in each ring and numbers in each point
pub record SameForm (a b : List PolygonValue) : Type 0 where
  pub polygons : map length a ≡ map length b
  pub rings : map length (flat_map (λ polygon. polygon) a) ≡ map length (flat_map (λ polygon. polygon) b)
  pub points : map length (points_of a) ≡ map length (points_of b)

-- the body of a kind that is no collection: numbers, whose sums continue over all its parts
pub record IsShape (h : Header) (l : Lengths) (ids : Option (List ℤ)) (polygons : List PolygonValue) (bytes : List ℕ)
    : Type 0 where
  pub numbers : List PolygonValue
  pub same_form : SameForm polygons numbers
  pub spelled : IsNumbers (is_multi h.kind) h l ids numbers bytes
  pub accumulated : Accumulates (points_of polygons) (points_of numbers)

-- the body: nothing if the geometry is empty, the members of a collection, encoded as Each says, or a shape
abbrev pub IsBody : Bool → Bool → Header → Lengths → Option (List ℤ) → List PolygonValue → ℕ → (List ℕ → Type 0)
    → List ℕ → Type 0
IsBody true collection h l ids polygons n Each bytes = (bytes ≡ []) × (polygons ≡ []) × (n ≡ 0) × IsNoList l ids
IsBody false true h l ids polygons n Each bytes = (polygons ≡ []) × IsList h l ids n Each bytes
IsBody false false h l ids polygons n Each bytes = (n ≡ 0) × IsShape h l ids polygons bytes

-- the bytes are the header, whose fields have these lengths, and then the body
pub record IsHeaderThenBody (h : Header) (l : Lengths) (bytes body : List ℕ) : Type 0 where
  pub head : List ℕ
  pub fields : bytes ≡ head ++ body
  pub header : IsHeader h head
  pub before_length : l.before ≡ 2 + length header.extended_bytes
  pub size_length : l.size ≡ length header.size_bytes
  pub header_length : l.header ≡ length head
  pub whole_length : l.whole ≡ length bytes

unfoldable mutual
  -- The bytes encode the geometry at this depth, under a limit of depth; its size field may hold any number
  pub BlobUnder : ℕ → Geometry → List ℕ → ℕ → Type 0
  BlobUnder limit (geometry h l ids polygons members) bytes depth =
      (body : List ℕ) × IsHeaderThenBody h l bytes body × IsAllowedUnder limit h.kind depth
      × IsBody h.empty (is_collection h.kind) h l ids polygons (member_count members)
      (λ rest. BlobsUnder limit members rest (suc depth)) body

  -- one geometry after another
  pub BlobsUnder : ℕ → Members → List ℕ → ℕ → Type 0
  BlobsUnder limit none bytes depth = bytes ≡ []
  BlobsUnder limit (more g gs) bytes depth =
      Then (λ front. BlobUnder limit g front depth) (λ rest. BlobsUnder limit gs rest depth) bytes

-- `BlobUnder` with this project's limit
abbrev pub Blob : Geometry → List ℕ → ℕ → Type 0
Blob = BlobUnder deepest

-- `BlobsUnder` with this project's limit
abbrev pub Blobs : Members → List ℕ → ℕ → Type 0
Blobs = BlobsUnder deepest
