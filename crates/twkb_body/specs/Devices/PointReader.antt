-- Devices of proofs: nothing public names them.
-- What readers of points have read: a value of the grammar, whose points changed a state. Or they ended early.
use Rattle.std.specs.Prelude.{◌≡◌, ℕ, ◌≤◌, Bool, true, false, List, fold, Result, Ok, Option, Some, None, IfOk, IfErr}
use Rattle.std.specs.Borrow.{GName}
use Rattle.twkb_num.specs.Cursor.{Reading}
use Rattle.twkb_head.specs.declared.header.Head.{Head}
use Rattle.twkb_head.specs.declared.refusal.Malformed.{Malformed}
use Rattle.twkb_head.specs.Header.{Header, axes_with}
use Rattle.twkb_head.specs.Shared.Reader.{Answer, Reader, many_at, Fails}
use Rattle.twkb_head.specs.Raw.{HavePrecisions}
use Rattle.twkb_body.specs.declared.trail.Trail.{Trail}
use Rattle.twkb_body.specs.Geometry.{PointValue}
use Rattle.twkb_body.specs.Devices.Body.{add}
use Rattle.twkb_body.specs.Devices.BodyReader.{point_at}
use Rattle.twkb_body.specs.Devices.Inside.{of_head}
use Rattle.twkb_body.specs.Devices.Walk.{precisions_of, lasts_from, IsWalked, IsStill}

-- how far a reader has come: how many axes the points have, the last point and the number of points so far, and a state
pub record Stage (S : Type 0) : Type 0 where
  pub axes : ℕ
  pub trail : Trail
  pub state : S

-- the stage further on, with this trail and this state
abbrev pub on : {S : Type 0} → Stage S → Trail → S → Stage S
on at trail state = record { axes = at.axes; trail = trail; state = state }

-- this many points, each of as many numbers as there are axes
abbrev pub points_at : ℕ → ℕ → PointValue → Reader (List PointValue)
points_at count axes = many_at count add (point_at axes)

-- a value can be read, from the last point of a stage on
abbrev pub CanRead : {A S : Type 0} → (PointValue → Reader A) → Stage S → Reading → Type 0
CanRead {A} each at r = (x : A) × (stop : Reading) × (each at.trail.last r ≡ (Ok x, stop))

-- no value can be read
abbrev pub IsUnreadable : {A : Type 0} → Answer A → Type 0
IsUnreadable {A} answer = (x : A) (stop : Reading) → answer ≡ (Ok x, stop) → ⊥

-- A reader is at a stage before a value, and has read no more points than bytes. If it trusts the bytes, the value can be read.
pub record IsBefore {A S : Type 0} (stands : Stage S → Type 0) (trusts : Bool) (each : ℕ → PointValue → Reader A) (r : Reading) (at : Stage S) : Type 0 where
  pub there : stands at
  pub counted : at.trail.points ≤ r.place
  pub readable : trusts ≡ true → CanRead (each at.axes) at r

-- a reader is at some stage before a value
abbrev pub IsReady : {A S : Type 0} → (Stage S → Type 0) → Bool → (ℕ → PointValue → Reader A) → Reading → Type 0
IsReady {A} {S} stands trusts each r = (at : Stage S) × IsBefore stands trusts each r at

-- A value was read from one stage on, and its points lead to a stage at which the reader is.
pub record HasRead {A S : Type 0} (each : PointValue → Reader A) (points_in : A → List PointValue) (step : S → PointValue → S) (stands : Stage S → Type 0)
    (at : Stage S) (from to : Reading) : Type 0 where
  pub value : A
  pub read : each at.trail.last from ≡ (Ok value, to)
  pub trail : Trail
  pub state : S
  pub there : stands (on at trail state)
  pub walked : IsWalked step at.axes at.trail trail at.state state from.place to.place (points_in value)

-- if a value can be read, its points lead to a state at which a reader ends
abbrev pub Leads : {A S : Type 0} → (PointValue → Reader A) → (A → List PointValue) → (S → PointValue → S) → (S → Type 0) → PointValue → S → Reading → Type 0
Leads {A} each points_in step ends last state from =
    (x : A) (stop : Reading) → each last from ≡ (Ok x, stop) → ends (fold step state (lasts_from last (points_in x)))

-- Reading ended early: at a malformed field, if the fault tells of one. If it tells of none, the value's points lead to an end, if it
-- can be read.
abbrev pub EndsEarly : {A S : Type 0} → (PointValue → Reader A) → (A → List PointValue) → (S → PointValue → S) → (S → Type 0) → Option Malformed
    → Stage S → Reading → Reading → Type 0
EndsEarly each points_in step ends (Some m) at from to = Fails (each at.trail.last from) m to
EndsEarly each points_in step ends None at from to = Leads each points_in step ends at.trail.last at.state from

-- from any stage before a value, a reader has read it
abbrev pub ReadsAll : {A S : Type 0} → (ℕ → PointValue → Reader A) → (A → List PointValue) → (S → PointValue → S) → Bool → (Stage S → Type 0) → (Stage S → Type 0) → Reading → Reading → Type 0
ReadsAll {A} {S} each points_in step trusts old new from to =
    (at : Stage S) → IsBefore old trusts each from at → HasRead (each at.axes) points_in step new at from to

-- from any stage before a value, reading it ended early
abbrev pub StopsEarly : {A S : Type 0} → (ℕ → PointValue → Reader A) → (A → List PointValue) → (S → PointValue → S) → Bool → (Stage S → Type 0) → (S → Type 0) → Option Malformed → Reading → Reading → Type 0
StopsEarly {A} {S} each points_in step trusts old ends told from to =
    (at : Stage S) → IsBefore old trusts each from at → EndsEarly (each at.axes) points_in step ends told at from to

-- A reader has read a value, or reading it ended early, and `tells` says which malformed field a fault names. The bytes stay as they are.
pub record ReadsOrEnds {A S T F : Type 0} (each : ℕ → PointValue → Reader A) (points_in : A → List PointValue) (step : S → PointValue → S) (trusts : Bool)
    (ends : S → Type 0) (tells : F → Option Malformed) (old new : Stage S → Type 0) (result : Result T F) (from to : Reading) : Type 0 where
  pub read : IfOk result (λ done. ReadsAll each points_in step trusts old new from to)
  pub ended : IfErr result (λ fault. StopsEarly each points_in step trusts old ends (tells fault) from to)
  pub bytes : to.bytes ≡ from.bytes

-- the stage of a walk that keeps its trail alone
pub record IsWalking (axes : ℕ) (trail : Trail) (at : Stage (Unit {0})) : Type 0 where
  pub some : 1 ≤ axes
  pub few : axes ≤ 4
  pub at_is : at ≡ record { axes = axes; trail = trail; state = tt }

-- The stage of a walk over certified bytes: its header and the name of its visitor's reference, beside the visitor's state. The trail may
-- be lost, if no point changes the state any more.
pub record IsWalkingOn {S : Type 0} (step : Header → S → PointValue → S) (head : Head) (axes : ℕ) (lost : Bool) (trail : Trail) (name : GName) (state : S)
    (at : Stage ((Header × GName) × S)) : Type 0 where
  pub precisions : HavePrecisions (precisions_of head)
  pub axes_are : axes ≡ axes_with head.z head.m
  pub at_is : at ≡ record { axes = axes; trail = at.trail; state = ((of_head head, name), state) }
  pub kept : lost ≡ false → trail ≡ at.trail
  pub still : lost ≡ true → IsStill (step (of_head head)) state
