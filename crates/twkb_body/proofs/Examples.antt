-- Examples of blobs that are read, and of bytes where reading fails.
use Rattle.twkb_body.proofs.Prelude.{◌≡◌, ℕ, List, [], ◌∷◌, None, Ok, Err, pos, false, refl, sym, subst, ◌∙◌, arith, ◌-◌, deepest, type_field, byte_field, coordinate_field, type_due, fault, Geometry, geometry, none, more, Blob, IsBegun, header_begun, append-nil, Point, LineString, GeometryCollection, Cut, Range}
use Rattle.twkb_body.proofs.GeometryPlan.{read_blob, geometry_plan}
use Rattle.twkb_body.proofs.BlobLaws.{read_takes, read_fails}
use Rattle.twkb_head.specs.declared.refusal.Why.TheVariants.{Kind as BadKind}

-- the line (1 1, 5 5)
line : Geometry
line = geometry
    (record { kind = LineString; xy = pos 0; z = None; m = None; size = None; box = None; ids = false; empty = false })
    (record { before = 2; size = 0; header = 2; count = 0; list = 0; whole = 7 })
    None (((((pos 1 ∷ pos 1 ∷ []) ∷ (pos 5 ∷ pos 5 ∷ []) ∷ [])) ∷ []) ∷ []) none

point : ℕ → Geometry
point depth = geometry
    (record { kind = Point; xy = pos 0; z = None; m = None; size = None; box = None; ids = false; empty = false })
    (record { before = 2; size = 0; header = 2; count = 0; list = 0; whole = 4 })
    None ((((pos 1 ∷ pos 2 ∷ []) ∷ []) ∷ []) ∷ []) none

collection : Geometry
unfolding point
collection = geometry
    (record { kind = GeometryCollection; xy = pos 0; z = None; m = None; size = None; box = None; ids = false; empty = false })
    (record { before = 2; size = 0; header = 2; count = 1; list = 1; whole = 7 })
    None [] (more (point 2) none)

line_read : read_blob (2 ∷ 0 ∷ 2 ∷ 2 ∷ 2 ∷ 8 ∷ 8 ∷ 9 ∷ []) ≡ Ok (line, 9 ∷ [])
unfolding geometry_plan line
line_read = refl

collection_read : read_blob (7 ∷ 0 ∷ 1 ∷ 1 ∷ 0 ∷ 2 ∷ 4 ∷ []) ≡ Ok (collection, [])
unfolding geometry_plan collection point
collection_read = refl

-- the type byte of a member with type 15
bad_type : read_blob (7 ∷ 0 ∷ 1 ∷ 15 ∷ 0 ∷ []) ≡ Err (fault BadKind type_field (15 ∷ 0 ∷ []))
unfolding geometry_plan
bad_type = refl

-- -2^63, and then minus 1
out_of_range : read_blob (2 ∷ 0 ∷ 2 ∷ 255 ∷ 255 ∷ 255 ∷ 255 ∷ 255 ∷ 255 ∷ 255 ∷ 255 ∷ 255 ∷ 1 ∷ 0 ∷ 1 ∷ 0 ∷ []) ≡ Err (fault Range coordinate_field (1 ∷ 0 ∷ []))
unfolding geometry_plan
out_of_range = refl

no_metadata : read_blob (1 ∷ []) ≡ Err (fault Cut byte_field [])
unfolding geometry_plan
no_metadata = refl

-- ---- the definitions hold of the examples
alone : (g : Geometry) (bytes : List ℕ) → read_blob bytes ≡ Ok (g, []) → Blob g bytes 1
alone g bytes e =
    let t = read_takes (deepest - 1) 1 refl (omega arith) bytes [] g e in
    subst (λ (z : List ℕ). Blob g z 1) (sym (t.1 ∙ append-nil t.0)) t.2

line_blob : Blob line (2 ∷ 0 ∷ 2 ∷ 2 ∷ 2 ∷ 8 ∷ 8 ∷ []) 1
unfolding geometry_plan line
line_blob = alone line _ refl

collection_blob : Blob collection (7 ∷ 0 ∷ 1 ∷ 1 ∷ 0 ∷ 2 ∷ 4 ∷ []) 1
unfolding geometry_plan collection point
collection_blob = alone collection _ refl

-- after the first coordinate of the second point a coordinate is due
line_begun : IsBegun 1 (2 ∷ 0 ∷ 2 ∷ 2 ∷ 2 ∷ 8 ∷ []) coordinate_field
unfolding geometry_plan
line_begun =
    let t = read_fails (2 ∷ 0 ∷ 2 ∷ 2 ∷ 2 ∷ 8 ∷ []) Cut coordinate_field [] refl in
    subst (λ (z : List ℕ). IsBegun 1 z coordinate_field) (sym (t.1 ∙ append-nil t.0)) t.2

-- begun blobs by the definition's own constructors: the empty prefix, and a number due in the ids of a collection
nothing_begun : IsBegun 1 [] type_field
nothing_begun = header_begun 1 [] type_field (type_due refl refl)
