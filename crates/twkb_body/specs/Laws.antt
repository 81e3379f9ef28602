-- The laws of blobs, begun and whole, of extents, and of walks.
use Rattle.std.specs.Prelude.{◌≡◌, ◌≢◌, ◌≤◌, ℕ, List, [], ◌++◌, All, AllPairs, ◌↔◌, ◌<◌, ◌+◌, ◌-◌, ◌^◌, min, Bool, false, length, fold}
use Rattle.twkb_head.specs.declared.boxes.Bounds.{Bounds}
use Rattle.twkb_head.specs.declared.boxes.Vertex.{Vertex}
use Rattle.twkb_head.specs.BegunHeader.{Field, IsField}
use Rattle.twkb_head.specs.Holds.{Holds}
use Rattle.twkb_body.specs.Extent.{reach_of, both, IsReachWithin}
use Rattle.twkb_body.specs.Geometry.{Geometry}
use Rattle.twkb_body.specs.Encoding.{BlobUnder, Blob}
use Rattle.twkb_body.specs.Claims.{IsCertified, offset_of, claims}
use Rattle.twkb_body.specs.Tight.{HasTightBoxes, IsTightlyTrue}
use Rattle.twkb_body.specs.Begun.{IsBegun, IsViable}
use Rattle.twkb_body.specs.Audited.{EndsInIds, HasLongList}
use Rattle.twkb_body.specs.Visit.{walk}
use Rattle.twkb_body.specs.Counting.{counts_on}

-- at most one kind of field is due after given bytes
abbrev pub OneDue : Type 0
OneDue = (p : List ℕ) (a b : Field) → IsBegun 1 p a → IsBegun 1 p b → a ≡ b

-- no field is due after a whole blob
abbrev pub NoneDue : Type 0
NoneDue = (p : List ℕ) (g : Geometry) (due : Field) → Blob g p 1 → IsBegun 1 p due → ⊥

-- If viable bytes go on after a begun prefix, one field of the kind due comes next, and they are viable up to its end.
abbrev pub GoesOn : Type 0
GoesOn = (p rest : List ℕ) (due : Field) → IsBegun 1 p due → IsViable (p ++ rest) → rest ≢ []
    → (front : List ℕ) × (behind : List ℕ) × (rest ≡ front ++ behind) × IsField due front × IsViable (p ++ front)

-- bytes that end right after the seventeenth id of a list are a begun blob
abbrev pub LongListsAreBegun : Type 0
LongListsAreBegun = (p : List ℕ) → EndsInIds 17 1 p → (due : Field) × IsBegun 1 p due

-- bytes that begin a geometry up to the seventeenth id of a list have at least this length
abbrev pub LongListsAreLong : ℕ → Type 0
LongListsAreLong least = (bytes : List ℕ) → HasLongList 1 bytes → least ≤ length bytes

-- at most one prefix of given bytes is a blob, of one tree
abbrev pub OneBlob : Type 0
OneBlob = (g h : Geometry) (a b x y : List ℕ) → Blob g a 1 → Blob h b 1 → a ++ x ≡ b ++ y → (g ≡ h) × (a ≡ b) × (x ≡ y)

-- a blob under one limit of depth is a blob under any greater limit
abbrev pub StaysBlob : Type 0
StaysBlob = (low high : ℕ) (g : Geometry) (bytes : List ℕ) (depth : ℕ) → low ≤ high
    → BlobUnder low g bytes depth → BlobUnder high g bytes depth

-- the claims of a blob are in the order of their offsets
abbrev pub RisingClaims : Type 0
RisingClaims = (g : Geometry) (bytes : List ℕ) (start : ℕ) → Blob g bytes 1
    → AllPairs (λ c d. offset_of c ≤ offset_of d) (claims g start)

-- tight checking takes all claims of a geometry for true exactly if it is certified and has no loose box
abbrev pub TightClaimsAreBoth : Type 0
TightClaimsAreBoth = (g : Geometry) (start : ℕ) → All IsTightlyTrue (claims g start)
    ↔ (IsCertified g × HasTightBoxes g)

-- the reach of two lists of vertices together is `both` of their reaches
abbrev pub ExtentsJoin : Type 0
ExtentsJoin = (vs ws : List Vertex) → reach_of (vs ++ ws) ≡ both (reach_of vs) (reach_of ws)

-- a box holds the reach of vertices exactly if it holds each of them
abbrev pub ExtentsStandForAll : Type 0
ExtentsStandForAll = (vs : List Vertex) (box : Bounds) → IsReachWithin (reach_of vs) box ↔ All (Holds box) vs

-- a walk reads no more than the blob has
abbrev pub WalksWithin : {S : Type 0} → (S → Vertex → S) → (S → Bounds → Bool) → Type 0
WalksWithin {S} step skips =
    (g : Geometry) (bytes : List ℕ) (s : S) → Blob g bytes 1 → walk g S step skips s ≤ length bytes

-- if it skips no box, a walk reads all of the blob
abbrev pub WalksThrough : {S : Type 0} → (S → Vertex → S) → (S → Bounds → Bool) → Type 0
WalksThrough {S} step skips = ((s : S) (box : Bounds) → skips s box ≡ false)
    → (g : Geometry) (bytes : List ℕ) (s : S) → Blob g bytes 1 → walk g S step skips s ≡ length bytes

-- a summary counts the vertices, up to the greatest number of 64 bits
abbrev pub CountsAll : Type 0
CountsAll = (n : ℕ) (vs : List Vertex) → n < 2 ^ 64 → fold counts_on n vs ≡ min (n + length vs) (2 ^ 64 - 1)
