-- Windows in a form that can be passed to other languages.
use Rattle.std.specs.Prelude.{ℤ, ◌+ℤ◌, ◌*ℤ◌, ◌^◌, pos, if◌then◌else◌, Some, None}
use Rattle.twkb_head.specs.declared.boxes.Span.{Span}
use Rattle.twkb_head.specs.declared.boxes.Bounds.{Bounds}
use Rattle.twkb_call.specs.declared.window.Units.{Units}
use Rattle.twkb_call.specs.declared.window.Range.{Range}
use Rattle.twkb_call.specs.declared.window.Window.{Window}

-- the number of two words
abbrev pub value_of : Units → ℤ
value_of u = u.high *ℤ pos (2 ^ 64) +ℤ pos u.low

-- the range of its two numbers
abbrev pub span_from : Range → Span
span_from r = record { lo = value_of r.lo; hi = value_of r.hi }

-- the ranges of a window: of Z and M only if its flags say so
abbrev pub ranges_of : Window → Bounds
ranges_of w = record {
  x = span_from w.x;
  y = span_from w.y;
  z = if w.has_z then Some (span_from w.z) else None;
  m = if w.has_m then Some (span_from w.m) else None;
}
