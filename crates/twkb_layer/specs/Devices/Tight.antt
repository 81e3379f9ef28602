-- Devices of proofs: nothing public names them.
-- What the code that certifies layers says, by a flag for tight checking.
use Rattle.std.specs.Prelude.{◌≡◌, ◌+◌, ℕ, Bool, true, false, List, length, take}
use Rattle.twkb_num.specs.Cursor.{Reading}
use Rattle.twkb_body.specs.Geometry.{Geometry}
use Rattle.twkb_layer.specs.Layer.{IsCertifiedLayer, IsCounted, vertex_count}
use Rattle.twkb_layer.specs.Refusal.{NamesKind}
use Rattle.twkb_layer.specs.declared.refusal.Refusal.{Refusal}
use Rattle.twkb_layer.specs.Tight.{IsTightLayer}

-- the bytes are a certified layer without a loose box, with these numbers of blobs and vertices
pub record IsTightlyCounted (bytes : List ℕ) (blobs vertices : ℕ) : Type 0 where
  pub trees : List Geometry
  pub layer : IsTightLayer trees bytes
  pub blobs_are : blobs ≡ length trees
  pub vertices_are : vertices ≡ vertex_count trees

-- ---- by the flag
abbrev pub IsLayerBy : Bool → List Geometry → List ℕ → Type 0
IsLayerBy false trees bytes = IsCertifiedLayer trees bytes
IsLayerBy true trees bytes = IsTightLayer trees bytes

abbrev pub IsCountedBy : Bool → List ℕ → ℕ → ℕ → Type 0
IsCountedBy false bytes blobs vertices = IsCounted bytes blobs vertices
IsCountedBy true bytes blobs vertices = IsTightlyCounted bytes blobs vertices

-- if the bytes before the old place are a certified layer, those before the new place are one with this many blobs and vertices more
abbrev pub AddsBlobs : Bool → ℕ → ℕ → Reading → Reading → Type 0
AddsBlobs tight more added old new = (bytes : List ℕ) (blobs vertices : ℕ) → old.bytes ≡ bytes
    → IsCountedBy tight (take old.place bytes) blobs vertices
    → IsCountedBy tight (take new.place bytes) (blobs + more) (vertices + added)

abbrev pub NamesKindBy : Bool → Refusal → Type 0
NamesKindBy false refusal = NamesKind 8 refusal
NamesKindBy true refusal = NamesKind 9 refusal
