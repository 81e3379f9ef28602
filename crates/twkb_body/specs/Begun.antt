-- Blobs that are begun and not finished: which kind of field can follow a prefix.
use Rattle.std.specs.Prelude.{◌≡◌, ℕ, suc, ◌<◌, Bool, true, false, List, [], ◌∷◌, ◌++◌, length, flat_map, slice_get, take, ℤ, Option, Some, FitsSigned, ◌⊎◌}
use Rattle.std.specs.Int.{w64}
use Rattle.twkb_num.specs.Varint.{Spells, IsSigned}
use Rattle.twkb_head.specs.Parts.{Sequence, Times, Announced}
use Rattle.twkb_head.specs.Header.{Header, IsHeader, axes_of, is_multi}
use Rattle.twkb_head.specs.BegunHeader.{is_collection, IsAllowedUnder, deepest, Field, number_field, coordinate_field, IsFewer, IsBegunHeader}
use Rattle.twkb_body.specs.Geometry.{Geometry, Members, PointValue, member_count}
use Rattle.twkb_body.specs.Encoding.{Blob, BlobsUnder, IsPoint, IsRing, IsPart, total}
use Rattle.twkb_head.specs.declared.kinds.Kind.{Kind}
use Rattle.twkb_head.specs.declared.kinds.Kind.TheVariants.{Point, LineString, Polygon, MultiPoint, MultiLineString, MultiPolygon, GeometryCollection}

-- For every number, the sum of the numbers of its axis up to it fits 64 bits.
abbrev pub SumsFit : List PointValue → Type 0
SumsFit numbers = (i axis : ℕ) (point : PointValue) (z : ℤ) → slice_get numbers i ≡ Some point
    → slice_get point axis ≡ Some z → FitsSigned w64 (total axis (take (suc i) numbers))

-- fewer numbers than axes
abbrev pub IsBegunPoint : ℕ → List PointValue → List ℕ → Field → Type 0
IsBegunPoint axes points p due =
    (numbers : List ℤ) × (points ≡ numbers ∷ []) × IsFewer axes numbers p × (due ≡ coordinate_field)

-- A count is due; or ids are; or fewer members than the count are whole, and one is begun. The points are the ones whose
-- numbers are in p, the last perhaps in part.
pub data IsBegunList {A : Type 0} (ids : Bool) (Whole : A → List ℕ → Type 0) (points_in : A → List PointValue)
    (Begun : List PointValue → List ℕ → Field → Type 0) (points : List PointValue) (p : List ℕ) (due : Field)
    : Type 0 where
  count_due : points ≡ [] → p ≡ [] → due ≡ number_field → IsBegunList ids Whole points_in Begun points p due
  id_due : (n : ℕ) (count id_list : List ℕ) (list : List ℤ) → ids ≡ true → Spells count n → IsFewer n list id_list
      → points ≡ [] → p ≡ count ++ id_list → due ≡ number_field → IsBegunList ids Whole points_in Begun points p due
  member_due : (n : ℕ) (count id_list wholes rest : List ℕ) (list : Option (List ℤ)) (xs : List A)
      (last : List PointValue) → Spells count n → Announced ids (Times n IsSigned) list id_list → length xs < n
      → Sequence Whole xs wholes → Begun last rest due → points ≡ flat_map points_in xs ++ last
      → p ≡ count ++ (id_list ++ (wholes ++ rest)) → IsBegunList ids Whole points_in Begun points p due

-- a ring begun
abbrev pub IsBegunRing : ℕ → List PointValue → List ℕ → Field → Type 0
IsBegunRing axes = IsBegunList false (IsPoint axes) (λ point. point ∷ []) (IsBegunPoint axes)

-- a polygon begun
abbrev pub IsBegunPolygon : ℕ → List PointValue → List ℕ → Field → Type 0
IsBegunPolygon axes = IsBegunList false (IsRing axes) (λ ring. ring) (IsBegunRing axes)

-- a part of the kind begun
abbrev pub IsBegunPart : Kind → ℕ → List PointValue → List ℕ → Field → Type 0
IsBegunPart Point axes = IsBegunPoint axes
IsBegunPart MultiPoint axes = IsBegunPoint axes
IsBegunPart LineString axes = IsBegunRing axes
IsBegunPart MultiLineString axes = IsBegunRing axes
IsBegunPart Polygon axes = IsBegunPolygon axes
IsBegunPart MultiPolygon axes = IsBegunPolygon axes
IsBegunPart GeometryCollection axes = λ points p due. ⊥

-- the body of a kind that is no collection begun: a part alone, or a list of parts
abbrev pub IsBegunNumbers : Bool → Header → List PointValue → List ℕ → Field → Type 0
IsBegunNumbers false h = IsBegunPart h.kind (axes_of h)
IsBegunNumbers true h =
    IsBegunList h.ids (IsPart h.kind (axes_of h)) (flat_map (λ ring. ring)) (IsBegunPart h.kind (axes_of h))

-- A geometry begun at a depth, under a limit of depth, and the kind of the field due next: its header is begun; or its
-- numbers; or its list of members, up to the ids; or one of its members.
pub data IsBegunUnder (limit : ℕ) : ℕ → List ℕ → Field → Type 0 where
  header_begun : (depth : ℕ) (p : List ℕ) (due : Field) → IsBegunHeader limit depth p due
      → IsBegunUnder limit depth p due
  shape_begun : (depth : ℕ) (p : List ℕ) (due : Field) (h : Header) (head rest : List ℕ) (points : List PointValue)
      → IsHeader h head → IsAllowedUnder limit h.kind depth → h.empty ≡ false → is_collection h.kind ≡ false
      → IsBegunNumbers (is_multi h.kind) h points rest due → SumsFit points → p ≡ head ++ rest
      → IsBegunUnder limit depth p due
  members_begun : (depth : ℕ) (p : List ℕ) (due : Field) (h : Header) (head rest : List ℕ)
      → IsHeader h head → IsAllowedUnder limit h.kind depth → h.empty ≡ false → is_collection h.kind ≡ true
      → IsBegunList {A = ℕ} h.ids (λ n bytes. ⊥) (λ n. []) (λ points bytes field. ⊥) [] rest due
      → p ≡ head ++ rest → IsBegunUnder limit depth p due
  member_begun : (depth : ℕ) (p : List ℕ) (due : Field) (h : Header) (n : ℕ) (head count id_list wholes rest : List ℕ)
      (ids : Option (List ℤ)) (gs : Members)
      → IsHeader h head → IsAllowedUnder limit h.kind depth → h.empty ≡ false → is_collection h.kind ≡ true
      → Spells count n → Announced h.ids (Times n IsSigned) ids id_list → member_count gs < n
      → BlobsUnder limit gs wholes (suc depth) → IsBegunUnder limit (suc depth) rest due
      → p ≡ head ++ (count ++ (id_list ++ (wholes ++ rest))) → IsBegunUnder limit depth p due

-- `IsBegunUnder` with this project's limit
abbrev pub IsBegun : ℕ → List ℕ → Field → Type 0
IsBegun = IsBegunUnder deepest

-- a blob, whole or begun
abbrev pub IsViable : List ℕ → Type 0
IsViable p = ((g : Geometry) × Blob g p 1) ⊎ ((due : Field) × IsBegun 1 p due)
