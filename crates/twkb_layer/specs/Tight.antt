-- The layers that tight checking certifies.
use Rattle.std.specs.Prelude.{ℕ, List, All}
use Rattle.twkb_body.specs.Geometry.{Geometry}
use Rattle.twkb_body.specs.Tight.{HasTightBoxes}
use Rattle.twkb_layer.specs.Layer.{IsCertifiedLayer}

-- a certified layer, and no box in it is loose
pub record IsTightLayer (trees : List Geometry) (bytes : List ℕ) : Type 0 where
  pub layer : IsCertifiedLayer trees bytes
  pub tight : All HasTightBoxes trees
