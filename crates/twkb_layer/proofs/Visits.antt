-- What a visitor sees and reads of a layer, from blob to blob, and the visitor that seeks a vertex inside.
use Rattle.twkb_layer.proofs.Prelude.{◌≡◌, ℕ, ◌+◌, ◌≤◌, Bool, List, [], ◌∷◌, fold, refl, ap, sym, ◌∙◌, fold-append, deepest, Bounds, Vertex, Geometry, vertices, StandsAt, walk, blob_order, walk_most, size_of, after_from, read_from, true, false, cond, not, ◌&&◌, ℤ, Option, Some, None, is_some, option_map, ap₂, bounds_of, is_collection, Members, geometry, none, more, member_walk, skips_both, cost, member_cost, box_misses, is_missed, Seeking, seeks, seeks_past, arith, box_of, directory_cost}
use Rattle.twkb_layer.specs.Vertices.{all_vertices, layer_walk}

module _ (S : Type 0) (step : S → Vertex → S) (skips : S → Bounds → Bool) where
  -- a visitor reads no more bytes of a blob than it has
  pub walk_few : (g : Geometry) (bytes : List ℕ) (place : ℕ) (s : S) → StandsAt g 1 bytes place → walk g S step skips s ≤ size_of g
  walk_few g bytes place s at = walk_most S step skips g s (blob_order deepest g at.front 1 at.blob).1

  -- the state after a blob
  abbrev pub sees : S → ℕ → ℕ → Geometry → S
  sees s blob offset tree = fold step s (vertices tree)

  pub all_seen : (blob offset : ℕ) (trees : List Geometry) (s : S) → after_from sees blob offset trees s ≡ fold step s (all_vertices trees)
  all_seen blob offset [] s = refl
  all_seen blob offset (t ∷ ts) s = all_seen (blob + 1) (offset + size_of t) ts (fold step s (vertices t)) ∙ sym (fold-append step s (vertices t) (all_vertices ts))

  pub all_walked : (blob offset : ℕ) (trees : List Geometry) (s : S) → read_from sees (λ s g. walk g S step skips s) blob offset trees s ≡ layer_walk trees S step skips s
  all_walked blob offset [] s = refl
  all_walked blob offset (t ∷ ts) s = ap (λ (n : ℕ). walk t S step skips s + n) (all_walked (blob + 1) (offset + size_of t) ts (fold step s (vertices t)))

-- ---- the visitor that seeks a vertex inside

window_kept : (s : Seeking) (vs : List Vertex) → (fold seeks s vs).window ≡ s.window
window_kept s [] = refl
window_kept s (v ∷ vs) = window_kept (seeks s v) vs

-- a geometry is skipped exactly if it has a size and a box that misses the window
skipped : (w : Bounds) (xy : ℤ) (z m size : Option ℕ) (box : Option (List (ℤ × ℤ)))
    → (is_some size && is_missed w (option_map (λ ranges. bounds_of xy z m ranges) box))
    ≡ skips_both (λ ranges. box_misses w (bounds_of xy z m ranges)) size box
skipped w xy z m None box = refl
skipped w xy z m (Some size) None = refl
skipped w xy z m (Some size) (Some ranges) = refl

-- the bytes that are read of a geometry that isn't skipped
read_of : (collection empty : Bool) (all some : ℕ) → cond (collection && not empty) some all ≡ cond empty all (cond collection some all)
read_of true true all some = refl
read_of true false all some = refl
read_of false true all some = refl
read_of false false all some = refl

mutual
  unfolding cost walk

  pub cost_walk : (s : Seeking) (g : Geometry) → cost s.window g ≡ walk g Seeking seeks seeks_past s
  cost_walk s (geometry h l ids polygons members) =
      let below : member_cost s.window members ≡ member_walk members Seeking seeks seeks_past s = member_cost_walk s members in
      ap₂ (λ (skips : Bool) (rest : ℕ). cond skips l.header rest) (skipped s.window h.xy h.z h.m h.size h.box)
      (ap (λ (n : ℕ). cond (is_collection h.kind && not h.empty) (l.header + l.list + n) l.whole) below
      ∙ read_of (is_collection h.kind) h.empty l.whole (l.header + l.list + member_walk members Seeking seeks seeks_past s))

  member_cost_walk : (s : Seeking) (gs : Members) → member_cost s.window gs ≡ member_walk gs Seeking seeks seeks_past s
  member_cost_walk s none = refl
  member_cost_walk s (more g gs) =
      let next = fold seeks s (vertices g) in
      let others : member_cost s.window gs ≡ member_walk gs Seeking seeks seeks_past next =
      ap (λ (w : Bounds). member_cost w gs) (sym (window_kept s (vertices g))) ∙ member_cost_walk next gs in
      ap₂ (λ (a b : ℕ). a + b) (cost_walk s g) others

-- a scan reads no byte of a blob twice
pub cost_few : (w : Bounds) (g : Geometry) (bytes : List ℕ) (place : ℕ) → StandsAt g 1 bytes place → cost w g ≤ size_of g
cost_few w g bytes place at =
    let seeking : Seeking = record { window = w; met = false } in
    rw (cost_walk seeking g) (walk_few Seeking seeks seeks_past g bytes place seeking at)

-- a scan with a directory reads no more of a blob than one without
fewer : (missed : Bool) (n : ℕ) → cond missed 0 n ≤ n
fewer true n = omega arith
fewer false n = omega arith

pub directory_cost_few : (w : Bounds) (g : Geometry) (bytes : List ℕ) (place : ℕ) → StandsAt g 1 bytes place → directory_cost w g ≤ size_of g
directory_cost_few w g bytes place at = omega (arith, fewer (is_missed w (box_of g)) (cost w g), cost_few w g bytes place at)
