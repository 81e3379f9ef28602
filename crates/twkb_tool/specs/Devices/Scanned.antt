-- Devices of proofs: nothing public names them.
-- How many bytes are read for a text of scans.
use Rattle.std.specs.Prelude.{ℕ, List, [], ◌∷◌, length, sum_by}
use Rattle.twkb_head.specs.declared.boxes.Bounds.{Bounds}
use Rattle.twkb_body.specs.Geometry.{Geometry}
use Rattle.twkb_tool.specs.Output.{reading}

-- how many bytes were read in all, as the lines of the windows say
abbrev pub all_read : List Bounds → List Geometry → ℕ
all_read windows trees = sum_by (λ w. sum_by (reading windows w) trees) windows

-- the most that building a directory reads of the bytes, which a scan for one window does without
abbrev pub most_built : List Bounds → List ℕ → ℕ
most_built (window ∷ []) bytes = 0
most_built windows bytes = length bytes
