-- A blob has no more vertices than bytes.
use Rattle.twkb_body.proofs.Prelude.{◌≡◌, ℕ, suc, ◌+◌, ◌≤◌, Bool, true, false, ℤ, List, [], ◌∷◌, ◌++◌, length, map, flat_map, Option, sym, ap, ◌∙◌, arith, length-append, length-map, Sequence, Counted, Header, axes_of, is_multi, is_collection, deepest, Kind, Point, LineString, Polygon, MultiPoint, MultiLineString, MultiPolygon, GeometryCollection, Geometry, Members, geometry, none, more, Lengths, PointValue, Ring, PolygonValue, vertex_of, points_of, vertices, member_vertices, member_count, BlobUnder, BlobsUnder, IsBody, IsNumbers, IsRing, IsPolygon, IsPart}
use Rattle.twkb_body.specs.Encoding.{IsPoint}
use Rattle.twkb_body.proofs.PartPlans.{flat_single}

-- ---- numbers: a point has at least a byte

sequence_few : {A : Type 0} (P : A → List ℕ → Type 0) (points_in : A → List PointValue) → ((x : A) (bytes : List ℕ) → P x bytes → length (points_in x) ≤ length bytes)
    → (xs : List A) (bytes : List ℕ) → Sequence P xs bytes → length (flat_map points_in xs) ≤ length bytes
sequence_few P points_in each [] bytes s = omega arith
sequence_few P points_in each (x ∷ xs) bytes (front, rest, parts, here, later) =
    omega (arith, ap length parts, length-append front rest, length-append (points_in x) (flat_map points_in xs), each x front here, sequence_few P points_in each xs rest later)

counted_few : {A : Type 0} (P : A → List ℕ → Type 0) (points_in : A → List PointValue) → ((x : A) (bytes : List ℕ) → P x bytes → length (points_in x) ≤ length bytes)
    → (xs : List A) (bytes : List ℕ) → Counted P xs bytes → length (flat_map points_in xs) ≤ length bytes
counted_few P points_in each xs bytes (front, rest, parts, count, later) =
    omega (arith, ap length parts, length-append front rest, sequence_few P points_in each xs rest later)

module _ (axes : ℕ) (some : 1 ≤ axes) where
  point_few : (p : PointValue) (bytes : List ℕ) → IsPoint axes p bytes → 1 ≤ length bytes
  point_few [] bytes (number, each) = omega (arith, number)
  point_few (z ∷ zs) bytes (number, (front, rest, parts, (n, spells, means), later)) = omega (arith, ap length parts, length-append front rest, spells.some)

  ring_few : (ring : Ring) (bytes : List ℕ) → IsRing axes ring bytes → length ring ≤ length bytes
  ring_few ring bytes r = omega (arith, ap length (flat_single ring), counted_few (IsPoint axes) (λ p. p ∷ []) point_few ring bytes r)

  polygon_few : (polygon : PolygonValue) (bytes : List ℕ) → IsPolygon axes polygon bytes → length (flat_map (λ ring. ring) polygon) ≤ length bytes
  polygon_few polygon bytes p = counted_few (IsRing axes) (λ ring. ring) ring_few polygon bytes p

  one_point : (part : PolygonValue) (bytes : List ℕ) → (p : PointValue) × (part ≡ (p ∷ []) ∷ []) × IsPoint axes p bytes → length (flat_map (λ ring. ring) part) ≤ length bytes
  one_point part bytes (p, is, spelled) = rw is (point_few p bytes spelled)

  one_line : (part : PolygonValue) (bytes : List ℕ) → (line : Ring) × (part ≡ line ∷ []) × IsRing axes line bytes → length (flat_map (λ ring. ring) part) ≤ length bytes
  one_line part bytes (line, is, spelled) = rw is (omega (arith, length-append line [], ring_few line bytes spelled))

  part_few : (kind : Kind) (part : PolygonValue) (bytes : List ℕ) → IsPart kind axes part bytes → length (flat_map (λ ring. ring) part) ≤ length bytes
  part_few Point part bytes p = one_point part bytes p
  part_few MultiPoint part bytes p = one_point part bytes p
  part_few LineString part bytes p = one_line part bytes p
  part_few MultiLineString part bytes p = one_line part bytes p
  part_few Polygon part bytes p = polygon_few part bytes p
  part_few MultiPolygon part bytes p = polygon_few part bytes p
  part_few GeometryCollection part bytes p = absurd p

axes_some : (h : Header) → 1 ≤ axes_of h
axes_some h = omega arith

numbers_few : (multi : Bool) (h : Header) (l : Lengths) (ids : Option (List ℤ)) (parts : List PolygonValue) (bytes : List ℕ) → IsNumbers multi h l ids parts bytes
    → length (points_of parts) ≤ length bytes
numbers_few false h l ids parts bytes (part, alone, is, absent) =
    let few = part_few (axes_of h) (axes_some h) h.kind part bytes is in
    rw alone (omega (arith, length-append (flat_map (λ (ring : Ring). ring) part) [], few))
numbers_few true h l ids parts bytes s =
    omega (
      arith,
      ap length s.fields,
      length-append s.count (s.id_list ++ s.members),
      length-append s.id_list s.members,
      sequence_few (IsPart h.kind (axes_of h)) (λ part. flat_map (λ ring. ring) part) (part_few (axes_of h) (axes_some h) h.kind) parts s.members s.each,
    )

-- ---- geometries

same_length : (a b : List PointValue) → map length a ≡ map length b → length a ≡ length b
same_length a b e = sym (length-map a length) ∙ ap length e ∙ length-map b length

body_few : (empty collection : Bool) (h : Header) (l : Lengths) (ids : Option (List ℤ)) (polygons : List PolygonValue) (gs : Members) (depth : ℕ) (bytes : List ℕ)
    → ((rest : List ℕ) → BlobsUnder deepest gs rest depth → length (member_vertices gs) ≤ length rest)
    → IsBody empty collection h l ids polygons (member_count gs) (λ rest. BlobsUnder deepest gs rest depth) bytes
    → length (points_of polygons) + length (member_vertices gs) ≤ length bytes
unfolding vertices
body_few true collection h l ids polygons none depth bytes each s = rw s.1 (omega arith)
body_few true collection h l ids polygons (more g gs) depth bytes each s = absurd (omega (arith, s.2))
body_few false true h l ids polygons gs depth bytes each s =
    let i = s.1 in
    rw s.0 (omega (arith, each i.members i.each, ap length i.fields, length-append i.count (i.id_list ++ i.members), length-append i.id_list i.members))
body_few false false h l ids polygons none depth bytes each s =
    omega (arith, same_length (points_of polygons) (points_of s.1.numbers) s.1.same_form.points, numbers_few (is_multi h.kind) h l ids s.1.numbers bytes s.1.spelled)
body_few false false h l ids polygons (more g gs) depth bytes each s = absurd (omega (arith, s.0))

mutual
  unfolding BlobUnder vertices

  pub blob_few : (g : Geometry) (bytes : List ℕ) (depth : ℕ) → BlobUnder deepest g bytes depth → length (vertices g) ≤ length bytes
  blob_few (geometry h l ids polygons members) bytes depth (body, starts, allowed, is_body) =
      let b = body_few h.empty (is_collection h.kind) h l ids polygons members (suc depth) body (λ rest m. blobs_few members rest (suc depth) m) is_body in
      omega (arith, b, ap length starts.fields, length-append starts.head body, length-append (map (vertex_of h) (points_of polygons)) (member_vertices members), length-map (points_of polygons) (vertex_of h))

  blobs_few : (gs : Members) (bytes : List ℕ) (depth : ℕ) → BlobsUnder deepest gs bytes depth → length (member_vertices gs) ≤ length bytes
  blobs_few none bytes depth s = omega arith
  blobs_few (more g gs) bytes depth (front, rest, parts, s, later) =
      omega (arith, blob_few g front depth s, blobs_few gs rest depth later, ap length parts, length-append front rest, length-append (vertices g) (member_vertices gs))
