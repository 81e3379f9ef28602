-- Devices of proofs: nothing public names them.
-- What was found in the body of a geometry.
use Rattle.std.specs.Prelude.{◌≡◌, ℕ, ◌+◌, ◌≤◌, Bool, length, map, fold, Option, None}
use Rattle.twkb_head.specs.declared.header.Head.{Head}
use Rattle.twkb_head.specs.BegunHeader.{is_collection}
use Rattle.twkb_head.specs.declared.header.BoxField.{BoxField}
use Rattle.twkb_head.specs.declared.boxes.Vertex.{Vertex}
use Rattle.twkb_head.specs.Header.{Header, is_multi}
use Rattle.twkb_head.specs.Shared.Reader.{Reader}
use Rattle.twkb_body.specs.Geometry.{vertex_of, points_of}
use Rattle.twkb_body.specs.Extent.{reach_of, both, Reach}
use Rattle.twkb_body.specs.Devices.Body.{Body}
use Rattle.twkb_body.specs.Devices.BodyReader.{shape_at, body_at, members_under}
use Rattle.twkb_body.specs.Devices.Pass.{Refused, Summary, MemberSums, first, ids_refused}
use Rattle.twkb_body.specs.Devices.Found.{Found, box_judged}

-- the header of a head, without its size and its box, on which the body doesn't depend
abbrev pub of_head : Head → Header
of_head head = record {
  kind = head.kind;
  xy = head.xy;
  z = head.z;
  m = head.m;
  size = None;
  box = None;
  ids = head.ids;
  empty = head.empty;
}

-- the body after a header whose kind is no collection
abbrev pub shape_behind : Head → Reader Body
shape_behind head = shape_at (is_multi head.kind) (of_head head)

-- the body after a header with this many levels below it
abbrev pub body_behind : ℕ → Head → Reader Body
body_behind levels head = body_at head.empty (is_collection head.kind) (of_head head) (members_under levels)

-- the ranges of the points of a body and of other vertices, together
abbrev pub reach_with : Header → Body → Reach → Reach
reach_with h body below = both (reach_of (map (vertex_of h) (points_of body.polygons))) below

-- the state after the points of a body are shown as vertices, one after another
abbrev pub shown_all : {S : Type 0} → (S → Vertex → S) → Head → Body → S → S
shown_all step head body state = fold step state (map (vertex_of (of_head head)) (points_of body.polygons))

-- what was found in a body, and the claims of its geometry's box and ids, if they are false
pub record Inside : Type 0 where
  pub found : Found
  pub boxed : Refused
  pub ids : Refused

-- the first false claim of these
abbrev pub first_inside : Inside → Refused
first_inside inside = first inside.boxed (first inside.ids inside.found.refused)

-- This was found of the body between two places: the vertices of its own points and of its members, and the claims of the
-- members. The box is judged by all these vertices, the boxes above saw them, and there are no more of them than bytes.
pub record IsInside (tight : Bool) (h : Header) (bounds : Option BoxField) (body : Body) (start stop : ℕ)
    (Saw : Reach → Type 0) (inside : Inside) : Type 0 where
  pub below : Summary
  pub members : MemberSums tight body.members (start + body.list) below
  pub vertices : inside.found.vertices ≡ length (points_of body.polygons) + below.count
  pub boxed : inside.boxed ≡ box_judged tight h bounds (reach_with h body below.reach)
  pub seen : Saw (reach_with h body below.reach)
  pub refused : inside.found.refused ≡ below.refused
  pub ids : inside.ids ≡ ids_refused (start + body.count) body.ids
  pub few : inside.found.vertices + start ≤ stop
