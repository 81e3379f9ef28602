-- The vertices of a layer, and what a visitor reads of it.
use Rattle.std.specs.Prelude.{ℕ, ◌+◌, Bool, List, [], ◌∷◌, flat_map, fold}
use Rattle.twkb_head.specs.declared.boxes.Bounds.{Bounds}
use Rattle.twkb_head.specs.declared.boxes.Vertex.{Vertex}
use Rattle.twkb_body.specs.Geometry.{Geometry, vertices}
use Rattle.twkb_body.specs.Visit.{walk}

-- the vertices of the layer's blobs, in reading order
abbrev pub all_vertices : List Geometry → List Vertex
all_vertices trees = flat_map vertices trees

-- how many bytes a visitor in a state reads of blobs, one after another
abbrev pub layer_walk : List Geometry → (S : Type 0) → (S → Vertex → S) → (S → Bounds → Bool) → S → ℕ
layer_walk [] S step skips s = 0
layer_walk (tree ∷ trees) S step skips s =
    walk tree S step skips s + layer_walk trees S step skips (fold step s (vertices tree))
