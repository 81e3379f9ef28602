-- Layers: blobs one after another, and nothing else.
use Rattle.std.specs.Prelude.{◌≡◌, ℕ, ◌+◌, ◌≤◌, List, [], ◌∷◌, take, drop, length, sum_by, All}
use Rattle.twkb_num.specs.Cursor.{added}
use Rattle.twkb_head.specs.BegunHeader.{deepest}
use Rattle.twkb_body.specs.Geometry.{Geometry, lengths_of, vertices}
use Rattle.twkb_body.specs.Encoding.{BlobUnder}
use Rattle.twkb_body.specs.Claims.{IsCertified}

-- how many bytes a geometry takes
abbrev pub size_of : Geometry → ℕ
size_of tree = (lengths_of tree).whole

-- The bytes are these blobs, one after another, under a limit of depth. Each ends by the length in its tree, so no ends
-- have to be named: `Laws` says that the bytes can be cut into blobs in no other way.
abbrev pub IsLayerUnder : ℕ → List Geometry → List ℕ → Type 0
IsLayerUnder limit [] bytes = bytes ≡ []
IsLayerUnder limit (tree ∷ trees) bytes =
    BlobUnder limit tree (take (size_of tree) bytes) 1 × IsLayerUnder limit trees (drop (size_of tree) bytes)

-- `IsLayerUnder` with this project's limit
abbrev pub IsLayer : List Geometry → List ℕ → Type 0
IsLayer = IsLayerUnder deepest

-- a layer under a limit, and no claim in it is false
pub record IsCertifiedLayerUnder (limit : ℕ) (trees : List Geometry) (bytes : List ℕ) : Type 0 where
  pub layer : IsLayerUnder limit trees bytes
  pub certified : All IsCertified trees

-- `IsCertifiedLayerUnder` with this project's limit
abbrev pub IsCertifiedLayer : List Geometry → List ℕ → Type 0
IsCertifiedLayer = IsCertifiedLayerUnder deepest

-- P holds of the trees, if the bytes are a certified layer
abbrev pub OfLayer : List ℕ → (List Geometry → Type 0) → Type 0
OfLayer bytes P = (trees : List Geometry) → IsCertifiedLayer trees bytes → P trees

-- how many vertices the blobs of a layer have
abbrev pub vertex_count : List Geometry → ℕ
vertex_count trees = sum_by (λ tree. length (vertices tree)) trees

-- the bytes are a certified layer with these numbers of blobs and vertices
pub record IsCounted (bytes : List ℕ) (blobs vertices : ℕ) : Type 0 where
  pub trees : List Geometry
  pub layer : IsCertifiedLayer trees bytes
  pub blobs_are : blobs ≡ length trees
  pub vertices_are : vertices ≡ vertex_count trees

-- in file order, what `says` gives of each blob's number, offset and tree; the first has this number and offset
abbrev pub told_from : {A : Type 0} → (ℕ → ℕ → Geometry → A) → ℕ → ℕ → List Geometry → List A
told_from says blob offset [] = []
told_from says blob offset (tree ∷ trees) =
    says blob offset tree ∷ told_from says (blob + 1) (offset + size_of tree) trees

-- `told_from` for a whole layer, from blob 0 at offset 0
abbrev pub blob_by_blob : {A : Type 0} → (ℕ → ℕ → Geometry → A) → List Geometry → List A
blob_by_blob says trees = told_from says 0 0 trees

-- a count grew by no more than this, or reached the greatest number and stays there
pub record AddsAtMost (most old new : ℕ) : Type 0 where
  pub read : ℕ
  pub few : read ≤ most
  pub is : new ≡ added old read

-- A certified layer as callers see it: its bytes, and how many of them were read. Its trees are the trees of these bytes.
pub record Layer : Type 0 where
  pub bytes : List ℕ
  pub count : ℕ
