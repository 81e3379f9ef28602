-- What a refusal of a layer says.
use Rattle.std.specs.Prelude.{◌≡◌, ℕ, ◌<◌, ◌≤◌, List, take, drop, length, ◌⊎◌, All}
use Rattle.twkb_head.specs.declared.refusal.Why.{Why}
use Rattle.twkb_head.specs.declared.refusal.Why.TheVariants.{Cut, Varint, Kind, Depth, Range}
use Rattle.twkb_layer.specs.declared.refusal.Refusal.{Refusal}
use Rattle.twkb_layer.specs.declared.refusal.Refusal.TheVariants.{No, Memory}
use Rattle.twkb_body.specs.Geometry.{Geometry}
use Rattle.twkb_body.specs.Claims.{Claim, claims}
use Rattle.twkb_body.specs.Malformation.{IsMalformed}
use Rattle.twkb_body.specs.Audited.{IsFalseClaim, HasLongList}
use Rattle.twkb_layer.specs.Layer.{IsLayer}

-- the number of a malformation among the refusals
abbrev pub number_of_why : Why → ℕ
number_of_why Cut = 1
number_of_why Varint = 2
number_of_why Kind = 3
number_of_why Depth = 4
number_of_why Range = 5

-- the bytes begin with blobs of which the check takes all claims for true; these end at start, before the bytes end
pub record Begins (IsTrue : Claim → Type 0) (before : List Geometry) (start : ℕ) (bytes : List ℕ) : Type 0 where
  pub more : start < length bytes
  pub layer : IsLayer before (take start bytes)
  pub all_true : All (λ tree. All IsTrue (claims tree 0)) before

-- no blob begins at start, and the first field that can't follow is at the offset
abbrev pub IsBadField : ℕ → ℕ → ℕ → List ℕ → Type 0
IsBadField start offset kind bytes =
    (why : Why) × (kind ≡ number_of_why why) × IsMalformed (record { offset = offset; why = why }) start bytes

-- The check refuses the layer at this blob, at an offset in the file and for this kind: it accepts the blobs before, which end
-- before the file does; next comes a blob whose first false claim is at the offset, or no blob, and the first wrong field is there.
pub record IsRefusal (IsTrue : Claim → Type 0) (bytes : List ℕ) (blob offset kind : ℕ) : Type 0 where
  pub before : List Geometry
  pub start : ℕ
  pub begins : Begins IsTrue before start bytes
  pub number : blob ≡ length before
  pub reason : IsFalseClaim IsTrue start offset kind (drop start bytes)
      ⊎ IsBadField start offset kind (drop start bytes)

-- after blobs that the check accepts, a blob is begun up to the seventeenth id of a list
pub record WantsMemory (IsTrue : Claim → Type 0) (bytes : List ℕ) : Type 0 where
  pub before : List Geometry
  pub start : ℕ
  pub begins : Begins IsTrue before start bytes
  pub list : HasLongList 1 (drop start bytes)

-- why the check refuses the bytes
abbrev pub IsRefusedFor : (Claim → Type 0) → Refusal → List ℕ → Type 0
IsRefusedFor IsTrue (No blob offset kind) bytes = IsRefusal IsTrue bytes blob offset kind
IsRefusedFor IsTrue Memory bytes = WantsMemory IsTrue bytes

-- a kind that is named is a number from 1 to this one
abbrev pub NamesKind : ℕ → Refusal → Type 0
NamesKind most (No blob offset kind) = (1 ≤ kind) × (kind ≤ most)
NamesKind most Memory = Unit {0}
