-- Devices of proofs: nothing public names them.
-- The answers of code that reads and may want memory, by the answers of the readers.
use Rattle.std.specs.Prelude.{◌≡◌, ◌≢◌, ◌↔◌, ℕ, ◌+◌, ◌-◌, ◌<◌, Bool, true, false, IsTrue, is_some, List, [], ◌∷◌, AllPairs, Result, Ok, Err}
use Rattle.twkb_num.specs.Cursor.{Reading, rest, passed, IsMoved, IsSound}
use Rattle.twkb_head.specs.declared.header.Head.{Head}
use Rattle.twkb_head.specs.BegunHeader.{deepest, is_collection}
use Rattle.twkb_head.specs.Header.{is_multi}
use Rattle.twkb_head.specs.Shared.Reader.{Answer, Fails, signeds_at}
use Rattle.twkb_body.specs.Geometry.{Geometry, vertices}
use Rattle.twkb_body.specs.Audited.{HasLongList}
use Rattle.twkb_body.specs.Extent.{Reach, reach_of}
use Rattle.twkb_body.specs.Devices.Body.{ListHead, Body}
use Rattle.twkb_body.specs.Devices.BodyReader.{list_at, count_at, geometries_at, geometry_at}
use Rattle.twkb_body.specs.Devices.Pass.{Refused, first}
use Rattle.twkb_body.specs.Devices.Found.{Found, IsFound, named}
use Rattle.twkb_body.specs.Devices.Inside.{Inside, of_head, shape_behind, first_inside, IsInside}
use Rattle.twkb_body.specs.Devices.IdLists.{HasManyIds, HasManyIdsAfterCount, ListFound, IsListFound}
use Rattle.twkb_body.specs.declared.found.Halted.{Halted}
use Rattle.twkb_body.specs.declared.found.Pass.{Pass}
use Rattle.twkb_body.specs.declared.stopped.Stopped.{Stopped}
use Rattle.twkb_body.specs.declared.stopped.Stopped.TheVariants.{Malformed as BadField, Memory}

-- why the code stopped: the reader fails with this fault, or memory was wanted for the cause Wants
abbrev pub HasStopped : {A : Type 0} → Answer A → Type 0 → Reading → Stopped → Reading → Type 0
HasStopped answer Wants old (BadField m) new = Fails answer m new
HasStopped answer Wants old Memory new = (new.bytes ≡ old.bytes) × Wants

-- on Ok the reader gives a value, and Gives relates it to the value of the code; on Err the code stopped
abbrev pub ReadsOrStops : {A B : Type 0} → Answer A → (A → B → Type 0) → Type 0
    → Reading → Result B Stopped → Reading → Type 0
ReadsOrStops {A} answer Gives Wants old (Ok y) new = (x : A) × (answer ≡ (Ok x, new)) × Gives x y
ReadsOrStops answer Gives Wants old (Err e) new = HasStopped answer Wants old e new

-- `ReadsOrStops` for this many ids, of which the code says whether no two are equal
abbrev pub ReadsIds : ℕ → Reading → Result Bool Stopped → Reading → Type 0
ReadsIds count old result new =
    ReadsOrStops (signeds_at count old) (λ ids distinct. IsTrue distinct ↔ AllPairs (λ a b. a ≢ b) ids)
    (HasManyIds count (rest old)) old result new

-- `ReadsOrStops` for code that says in a pass why it stopped
abbrev pub ReadsOrHalts : {A B : Type 0} → Answer A → (A → B → Type 0) → Type 0
    → Pass → Reading → Result B Halted → Reading → Type 0
ReadsOrHalts {A} answer Gives Wants pass old (Ok y) new = (x : A) × (answer ≡ (Ok x, new)) × Gives x y
ReadsOrHalts answer Gives Wants pass old (Err e) new = HasStopped answer Wants old pass.stopped new

-- `ReadsOrHalts` for a list: its count, and its ids if they are announced
abbrev pub ReadsList : Answer ListHead → Bool → Pass → Pass → Reading → Result ℕ Halted → Reading → Type 0
ReadsList answer has_ids before after old result new =
    ReadsOrHalts answer
    (λ head count. (list : ListFound) × IsListFound old new head list × (count ≡ list.count)
    × (named after.refused ≡ first (named before.refused) list.ids))
    (HasManyIdsAfterCount has_ids (rest old)) after old result new

-- `ReadsOrHalts` for a body, of which the code says how many vertices it has, and notes the first false claim after this one
abbrev pub ReadsInside : Bool → Head → Answer Body → Type 0 → (Reach → Type 0) → Refused → Pass
    → Reading → Result ℕ Halted → Reading → Type 0
ReadsInside tight head answer Wants Saw before after old result new =
    ReadsOrHalts answer
    (λ body vertices. (inside : Inside) × IsInside tight (of_head head) head.bounds body old.place new.place Saw inside
    × (vertices ≡ inside.found.vertices) × (named after.refused ≡ first before (first_inside inside)))
    Wants after old result new

-- `ReadsInside` for a body that is no collection, after its count and its ids
abbrev pub ReadsParts : Bool → Head → ℕ → Bool → (Reach → Type 0) → Pass → Pass → Reading → Result ℕ Halted → Reading → Type 0
ReadsParts tight head count was_refused Saw now after old result new =
    (x : ListHead) (start : Reading) (list : ListFound) (before : Refused) → count_at (is_multi head.kind) head.ids start ≡ (Ok x, old)
    → IsListFound start old x list → count ≡ list.count → was_refused ≡ is_some before → named now.refused ≡ first before list.ids
    → ReadsInside tight head (shape_behind head start) (HasManyIdsAfterCount head.ids (rest start)) Saw before after start result new

-- these two bytes were read, and nothing else
pub record AreRead (first metadata : ℕ) (before now : Reading) : Type 0 where
  pub sound : IsSound before
  pub moved : IsMoved before now
  pub two : passed before now ≡ first ∷ metadata ∷ []

-- `ReadsOrHalts` for a whole geometry at a depth
abbrev pub ReadsGeometry : Bool → ℕ → (Reach → Type 0) → Pass → Pass → Reading → Result ℕ Halted → Reading → Type 0
ReadsGeometry tight depth Saw before after old result new =
    ReadsOrHalts (geometry_at (deepest - depth) old)
    (λ g counted. (found : Found) × IsFound tight g old.place new.place found × Saw (reach_of (vertices g))
    × (counted ≡ found.vertices) × (named after.refused ≡ first (named before.refused) found.refused))
    (HasLongList depth (rest old)) after old result new

-- Memory was wanted in the body of a collection, whose members have this many levels below them: for the ids of its own list,
-- or for the ids of a list in a member, after the members that were read.
pub data WantsInside (depth levels : ℕ) (ids : Bool) (r : Reading) : Type 0 where
  own_ids : HasManyIdsAfterCount ids (rest r) → WantsInside depth levels ids r
  member_ids : (list : ListHead) (mid new : Reading) (i : ℕ) (gs : List Geometry)
      → list_at ids r ≡ (Ok list, mid) → i < (list.0).0
      → geometries_at (geometry_at levels) i mid ≡ (Ok gs, new) → HasLongList (depth + 1) (rest new)
      → WantsInside depth levels ids r

-- why memory was wanted in a body: of another kind, for its ids; of a collection, for its ids or in a member
abbrev pub WantsIn : Bool → Bool → ℕ → Bool → Reading → Type 0
WantsIn false empty depth ids old = HasManyIdsAfterCount ids (rest old)
WantsIn true empty depth ids old = (empty ≡ false) × WantsInside depth (deepest - (depth + 1)) ids old

-- why memory was wanted in the body after a header at a depth
abbrev pub WantsBehind : ℕ → Head → Reading → Type 0
WantsBehind depth head old = WantsIn (is_collection head.kind) head.empty depth head.ids old
