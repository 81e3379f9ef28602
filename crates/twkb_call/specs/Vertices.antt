-- Vertices in a form that can be passed to other languages.
use Rattle.std.specs.Prelude.{ℤ, ◌^◌, pos, unsigned_abs}
use Rattle.std.specs.Int.{int_div_euclid, int_rem_euclid}
use Rattle.twkb_head.specs.declared.boxes.Vertex.{Vertex}
use Rattle.twkb_call.specs.declared.window.Units.{Units}
use Rattle.twkb_call.specs.declared.drawing.Point.{Point}

-- a number as two words: the quotient and the remainder by 2^64
abbrev pub words_of : ℤ → Units
words_of n = record { low = unsigned_abs (int_rem_euclid n (pos (2 ^ 64))); high = int_div_euclid n (pos (2 ^ 64)) }

-- X and Y of a vertex
abbrev pub point_of : Vertex → Point
point_of v = record { x = words_of v.x; y = words_of v.y }
