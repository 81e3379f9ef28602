-- Devices of proofs: nothing public names them.
-- The state after geometries were skimmed, and after one step of a skim.
use Rattle.std.specs.Prelude.{◌≡◌, ℕ, ℤ, suc, ◌+◌, ◌<◌, ◌≤◌, cond, Bool, false, length, fold, Option, Some, None}
use Rattle.twkb_num.specs.Cursor.{Reading, added, passed, IsMoved, IsSound}
use Rattle.twkb_head.specs.BegunHeader.{deepest}
use Rattle.twkb_head.specs.declared.boxes.Vertex.{Vertex}
use Rattle.twkb_head.specs.declared.boxes.Bounds.{Bounds}
use Rattle.twkb_head.specs.declared.header.SizeField.{SizeField}
use Rattle.twkb_head.specs.declared.header.BoxField.{BoxField}
use Rattle.twkb_head.specs.declared.header.Head.{Head}
use Rattle.twkb_head.specs.declared.kinds.Kind.{Kind}
use Rattle.twkb_head.specs.declared.raw.Axes.{Axes}
use Rattle.twkb_head.specs.declared.read.Begun.{Begun}
use Rattle.twkb_head.specs.declared.raw.Fields.{Fields}
use Rattle.twkb_head.specs.Raw.{head_said, BeginsHead}
use Rattle.twkb_head.specs.Head.{IsHeadAt}
use Rattle.twkb_body.specs.Standing.{StandsAt, head_standing}
use Rattle.twkb_body.specs.Geometry.{Geometry, Members, none, more, lengths_of, member_count, vertices}
use Rattle.twkb_body.specs.Devices.Standing.{StandAt}
use Rattle.twkb_body.specs.Visit.{bytes_to_pass, walk}

-- a cursor and the state of a visitor
pub record Config (S : Type 0) : Type 0 where
  pub reading : Reading
  pub state : S

-- the state after a geometry: the place is its end, the bytes of the walk were counted, and each vertex was visited
abbrev pub skimmed : {S : Type 0} → (S → Vertex → S) → (S → Bounds → Bool) → Geometry → Config S → Config S
skimmed {S} step skips g c = record {
  reading = record {
    bytes = c.reading.bytes;
    place = c.reading.place + (lengths_of g).whole;
    count = added c.reading.count (walk g S step skips c.state);
  };
  state = fold step c.state (vertices g);
}

-- the state after members, one after another
abbrev pub members_skimmed : {S : Type 0} → (S → Vertex → S) → (S → Bounds → Bool) → Members → Config S → Config S
members_skimmed step skips none c = c
members_skimmed step skips (more g gs) c = members_skimmed step skips gs (skimmed step skips g c)

-- the end that the size names, if there is one, and a box that the test skips
abbrev pub hop_of : (Bounds → Bool) → Option SizeField → Option BoxField → Option ℕ
hop_of skips None box = None
hop_of skips (Some size) None = None
hop_of skips (Some size) (Some box) = cond (skips box.bounds) (Some (size.after + size.value)) None

-- One step was made into a geometry: only the members `below` are left of it.
pub record Entered {S : Type 0} (step : S → Vertex → S) (skips : S → Bounds → Bool) (g : Geometry) (depth : ℕ)
    (old new : Config S) (members : ℕ) : Type 0 where
  pub below : Members
  pub count : members ≡ member_count below
  pub deep : 0 < members → suc depth ≤ deepest
  pub stand : StandAt below (suc depth) new.reading.bytes new.reading.place
  pub left : members_skimmed step skips below new ≡ skimmed step skips g old
  pub bytes : new.reading.bytes ≡ old.reading.bytes
  pub ahead : old.reading.place < new.reading.place
  pub within : new.reading.place ≤ length new.reading.bytes

-- The first two bytes of a certified geometry, which begins at the place of `before`, were read.
pub record HasCome (begun : Begun) (now : Reading) (g : Geometry) (depth : ℕ) (before : Reading) : Type 0 where
  pub stands : StandsAt g depth before.bytes before.place
  pub sound : IsSound before
  pub begins : BeginsHead begun 1 before now

-- The header of a certified geometry, which begins at the place of `before`, was read.
pub record HasRead (raw : Fields) (now : Reading) (g : Geometry) (depth : ℕ) (before : Reading) : Type 0 where
  pub stands : StandsAt g depth before.bytes before.place
  pub sound : IsSound before
  pub at : IsHeadAt (head_said raw) 1 before.place (passed before now)
  pub moved : IsMoved before now

-- A certified blob, which began at the place of `before`, was passed, and its header read.
pub record HasPassed (header : Fields) (now : Reading) (g : Geometry) (before : Reading) : Type 0 where
  pub header_is : head_said header ≡ head_standing g before.place
  pub bytes : now.bytes ≡ before.bytes
  pub place : now.place ≡ before.place + (lengths_of g).whole
  pub count : now.count ≡ added before.count (bytes_to_pass g)
  pub few : bytes_to_pass g ≤ (lengths_of g).whole

-- the axes X and Y alone, at a precision
abbrev pub flat_axes : ℤ → Axes
flat_axes xy = record { xy = xy; z = None; m = None }

-- a header of a geometry that isn't empty
abbrev pub full_head : Kind → Axes → Bool → Option SizeField → Option BoxField → ℕ → ℕ → Head
full_head kind axes ids size bounds start stop = record {
  kind = kind;
  xy = axes.xy;
  z = axes.z;
  m = axes.m;
  size = size;
  bounds = bounds;
  ids = ids;
  empty = false;
  start = start;
  stop = stop;
}

-- The header of a certified geometry at the place of `before` was read, and the geometry is neither skipped nor empty.
pub record IsBehind (skips : Bounds → Bool) (kind : Kind) (axes : Axes) (ids : Bool) (now : Reading)
    (g : Geometry) (depth : ℕ) (before : Reading) : Type 0 where
  pub size : Option SizeField
  pub bounds : Option BoxField
  pub start : ℕ
  pub stop : ℕ
  pub stands : StandsAt g depth before.bytes before.place
  pub sound : IsSound before
  pub at : IsHeadAt (full_head kind axes ids size bounds start stop) 1 before.place (passed before now)
  pub moved : IsMoved before now
  pub stays : hop_of skips size bounds ≡ None

-- there is a certified geometry of which Stands holds
abbrev pub IsThere : (Geometry → ℕ → Reading → Type 0) → Type 0
IsThere Stands = (g : Geometry) × (depth : ℕ) × (before : Reading) × Stands g depth before

-- one step was made into each certified geometry of which Stands holds
abbrev pub Enters : {S : Type 0} → (S → Vertex → S) → (S → Bounds → Bool) → (Geometry → ℕ → Reading → Type 0)
    → S → S → Reading → ℕ → Type 0
Enters step skips Stands state state' new members =
    (g : Geometry) (depth : ℕ) (before : Reading) → Stands g depth before → Entered step skips g depth
    (record { reading = before; state = state }) (record { reading = new; state = state' }) members
