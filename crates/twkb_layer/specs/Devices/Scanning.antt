-- Devices of proofs: nothing public names them.
-- What a scan does at a blob.
use Rattle.std.specs.Prelude.{ℕ, ◌+◌, cond, List, slice_set}
use Rattle.std.specs.List.{list_any}
use Rattle.twkb_head.specs.declared.boxes.Bounds.{Bounds}
use Rattle.twkb_body.specs.Geometry.{Geometry, vertices}
use Rattle.twkb_layer.specs.Layer.{size_of}
use Rattle.twkb_layer.specs.Window.{is_inside}
use Rattle.twkb_layer.specs.declared.hits.Found.{Found}

-- a window, how many blobs were found that have a vertex inside, and the room for them
pub record Scan (S : Type 0) : Type 0 where
  pub window : Bounds
  pub found : ℕ
  pub room : List S

-- the scan after a blob: if it has a vertex inside, it is counted and put into its place, if there is one
abbrev pub finds : {S : Type 0} → (Found → S) → Scan S → ℕ → ℕ → Geometry → Scan S
finds of s blob offset tree = cond (list_any (is_inside s.window) (vertices tree)) (record {
  window = s.window;
  found = s.found + 1;
  room = slice_set s.room s.found (of (record { blob = blob; offset = offset; bytes = size_of tree }));
}) s
