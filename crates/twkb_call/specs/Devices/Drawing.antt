-- Devices of proofs: nothing public names them.
-- The visitor that draws into room that is lent.
use Rattle.std.specs.Prelude.{ℕ, ◌+◌, ltb, cond, Bool, false, List, length, slice_set}
use Rattle.std.specs.Borrow.{GName}
use Rattle.twkb_head.specs.declared.boxes.Vertex.{Vertex}
use Rattle.twkb_head.specs.declared.boxes.Bounds.{Bounds}
use Rattle.twkb_call.specs.declared.drawing.Point.{Point}
use Rattle.twkb_call.specs.declared.drawing.Pen.{Pen}
use Rattle.twkb_call.specs.Vertices.{point_of}

-- the room, by its reference and its contents, and how many points were drawn
pub record Drawing : Type 0 where
  pub lent : GName
  pub room : List Point
  pub drawn : ℕ

-- what a pen has drawn so far
abbrev pub drawing_of : Pen → Drawing
drawing_of pen = record { lent = pen.room.ghost_name; room = pen.room.now; drawn = pen.drawn }

-- a vertex goes to the next place, if there is one
abbrev pub draws : Drawing → Vertex → Drawing
draws s v = cond (ltb s.drawn (length s.room)) (record {
  lent = s.lent;
  room = slice_set s.room s.drawn (point_of v);
  drawn = s.drawn + 1;
}) s

-- it skips no box
abbrev pub never : Drawing → Bounds → Bool
never s box = false
