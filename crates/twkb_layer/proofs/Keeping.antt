-- What a list keeps of each blob of a layer, and what is read of a blob.
use Rattle.twkb_layer.proofs.Prelude.{◌≡◌, ℕ, zero, suc, take, ℤ, ◌+◌, ◌-◌, ◌^◌, ◌<◌, ◌≤◌, List, [], ◌∷◌, ◌++◌, length, drop, fold, map, slice_set, Option, Some, None, option_map, is_some, refl, ap, sym, ◌∙◌, arith, length-append, length-drop, append_assoc, append-nil, take-nil, Reading, deepest, Fields, bounds_of, fields_box, head_said, counts_on, never, Geometry, geometry, header_of, vertices, StandsAt, head_standing, walk, blob_few, walk_all, counts_all, box_said, box_of, after_from, IsCounted, AddsAtMost, size_of, told_from, filled, row_of, rows}
use Rattle.twkb_head.specs.declared.header.BoxField.{BoxField}
use Rattle.twkb_head.specs.declared.header.Head.{Head}
use Rattle.twkb_layer.specs.declared.row.Row.{Row}
use Rattle.twkb_layer.proofs.Filling.{filled-nil, filled-push, filled-full}
use Rattle.twkb_layer.proofs.Layers.{layer_short}

-- ---- the header of a blob

-- a header that was read has the fields of the geometry's header
pub record SaysOf (raw : Fields) (g : Geometry) : Type 0 where
  pub kind : raw.kind ≡ (header_of g).kind
  pub precision : raw.axes.xy ≡ (header_of g).xy
  pub sized : is_some raw.size ≡ is_some (header_of g).size
  pub boxed : is_some raw.bounds ≡ is_some (header_of g).box
  pub box : box_said raw ≡ box_of g

some_still : {A B : Type 0} (f : A → B) (o : Option A) → is_some (option_map f o) ≡ is_some o
some_still f None = refl
some_still f (Some x) = refl

-- the boxes of optional fields, taken before or after the fields are made
boxes_of : {A : Type 0} (field : A → BoxField) (o : Option A) → option_map (λ (f : BoxField). f.bounds) (option_map field o) ≡ option_map (λ (a : A). (field a).bounds) o
boxes_of field None = refl
boxes_of field (Some a) = refl

pub says_of : (g : Geometry) (place : ℕ) (raw : Fields) → head_said raw ≡ head_standing g place → SaysOf raw g
says_of (geometry h l ids polygons members) place raw is = record {
  kind = ap (λ (x : Head). x.kind) is;
  precision = ap (λ (x : Head). x.xy) is;
  sized = ap (λ (x : Head). is_some x.size) is ∙ some_still _ h.size;
  boxed = sym (some_still (fields_box raw) raw.bounds) ∙ (ap (λ (x : Head). is_some x.bounds) is ∙ some_still _ h.box);
  box = sym (boxes_of (fields_box raw) raw.bounds) ∙ (ap (λ (x : Head). option_map (λ (f : BoxField). f.bounds) x.bounds) is
      ∙ boxes_of (λ (ranges : List (ℤ × ℤ)). record { bounds = bounds_of h.xy h.z h.m ranges; offset = place + l.before + l.size }) h.box);
}

-- ---- reading one blob

-- a visitor that counts reads all bytes of a blob
pub counted_whole : (g : Geometry) (bytes : List ℕ) (place s : ℕ) → StandsAt g 1 bytes place → walk g ℕ counts_on never s ≡ size_of g
counted_whole g bytes place s at = walk_all ℕ counts_on never deepest (λ n box. refl) g at.front 1 s at.blob

-- a visitor that counts counts all vertices of a blob
pub vertices_counted : (g : Geometry) (bytes : List ℕ) (place : ℕ) → StandsAt g 1 bytes place → length bytes < 2 ^ 64 → fold counts_on 0 (vertices g) ≡ length (vertices g)
vertices_counted g bytes place at small =
    let few = blob_few g at.front 1 at.blob in
    let room : length (drop place bytes) ≡ length at.front + length at.behind = ap length at.there ∙ length-append at.front at.behind in
    counts_all 0 (vertices g) (omega (arith, few, room, small, length-drop place bytes)) ∙ omega arith

-- A row has what the fields of a header say, between two places, and this many vertices.
pub record IsRowRead (row : Row) (raw : Fields) (start stop many : ℕ) : Type 0 where
  pub offset : row.offset ≡ start
  pub bytes : row.bytes ≡ stop - start
  pub vertices : row.vertices ≡ many
  pub kind : row.kind ≡ raw.kind
  pub precision : row.precision ≡ raw.axes.xy
  pub sized : row.has_size ≡ is_some raw.size
  pub boxed : row.has_box ≡ is_some raw.bounds

-- the row that was read is the row of the definition
pub row_says : (row : Row) (raw : Fields) (g : Geometry) (r : Reading) → length r.bytes < 2 ^ 64 → StandsAt g 1 r.bytes r.place → SaysOf raw g
    → IsRowRead row raw r.place (r.place + size_of g) (fold counts_on 0 (vertices g)) → row ≡ row_of row.blob r.place g
row_says row raw g r small at says is =
    let size : row.bytes ≡ size_of g = omega (arith, is.bytes) in
    let all = is.vertices ∙ vertices_counted g r.bytes r.place at small in
    λ j. record {
      blob = row.blob;
      offset = is.offset j;
      bytes = size j;
      vertices = all j;
      kind = (is.kind ∙ says.kind) j;
      precision = (is.precision ∙ says.precision) j;
      has_size = (is.sized ∙ says.sized) j;
      has_box = (is.boxed ∙ says.boxed) j;
    }

-- ---- a layer
pub adds_nothing : (most count : ℕ) → count < 2 ^ 64 → AddsAtMost most count count
adds_nothing most count small = record { read = 0; few = omega arith; is = omega (arith, small) }

-- a layer of no bytes has no blobs
pub no_blobs : (bytes : List ℕ) (blobs vertices : ℕ) → IsCounted bytes blobs vertices → bytes ≡ [] → blobs ≡ 0
no_blobs bytes blobs vertices c none = omega (arith, c.blobs_are, layer_short c.trees bytes c.layer.layer, ap length none)

-- ---- room that a caller lends

module _ {S : Type 0} (of : Row → S) where
  -- a row goes to the place of its number, in the form of the room
  abbrev pub puts : List S → ℕ → ℕ → Geometry → List S
  puts room blob offset tree = slice_set room blob (of (row_of blob offset tree))

  rows_put : (room0 seen : List S) (blob offset many : ℕ) (trees : List Geometry) → blob ≡ length seen → length room0 ≤ blob + many
      → after_from puts blob offset (take many trees) (filled seen room0) ≡ filled (seen ++ map of (told_from row_of blob offset trees)) room0
  rows_put room0 seen blob offset many [] at fits = rw (take-nil {A = Geometry} many) (ap (λ xs. filled xs room0) (sym (append-nil seen)))
  rows_put room0 seen blob offset zero (t ∷ ts) at fits = sym (filled-full seen (map of (told_from row_of blob offset (t ∷ ts))) room0 (omega (arith, at, fits)))
  rows_put room0 seen blob offset (suc many) (t ∷ ts) at fits =
      let x = of (row_of blob offset t) in
      let behind = offset + size_of t in
      ap (after_from puts (blob + 1) behind (take many ts)) (ap (λ (n : ℕ). slice_set (filled seen room0) n x) at ∙ filled-push seen room0 x)
      ∙ (rows_put room0 (seen ++ x ∷ []) (blob + 1) behind many ts (omega (arith, at, length-append seen (x ∷ []))) (omega (arith, fits))
      ∙ ap (λ xs. filled xs room0) (append_assoc seen (x ∷ []) (map of (told_from row_of (blob + 1) behind ts))))

  -- if as many blobs are taken as there are places, the room is filled with the rows of the layer
  pub rows_filled : (room0 : List S) (many : ℕ) (trees : List Geometry) → length room0 ≤ many → after_from puts 0 0 (take many trees) room0 ≡ filled (map of (rows trees)) room0
  rows_filled room0 many trees fits =
      ap (after_from puts 0 0 (take many trees)) (filled-nil room0) ∙ rows_put room0 [] 0 0 many trees refl (omega (arith, fits))
