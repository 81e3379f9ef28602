-- Devices of proofs: nothing public names them.
-- Certified blobs at a place, and the cursor after one.
use Rattle.std.specs.Prelude.{◌≡◌, ℕ, ◌+◌, List}
use Rattle.twkb_num.specs.Cursor.{Reading, added}
use Rattle.twkb_body.specs.Geometry.{Geometry}
use Rattle.twkb_body.specs.Standing.{StandsAt}
use Rattle.twkb_layer.specs.Directory.{Entry, box_of}
use Rattle.twkb_layer.specs.Layer.{size_of}

-- P holds of each certified blob that begins at the place
abbrev pub OfBlob : List ℕ → ℕ → (Geometry → Type 0) → Type 0
OfBlob bytes place P = (g : Geometry) → StandsAt g 1 bytes place → P g

-- P holds of each certified blob that begins at the entry's offset and has the entry's box
abbrev pub OfEntry : List ℕ → Entry → (Geometry → Type 0) → Type 0
OfEntry bytes entry P = (g : Geometry) → StandsAt g 1 bytes entry.offset → entry.bounds ≡ box_of g → P g

-- the cursor after a geometry of which this many bytes were read
abbrev pub past_blob : ℕ → Geometry → Reading → Reading
past_blob read g r = record { bytes = r.bytes; place = r.place + size_of g; count = added r.count read }
