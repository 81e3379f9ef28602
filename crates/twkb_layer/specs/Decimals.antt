-- Decimals of any length as bounds of windows: what their texts mean, and what they are in units.
use Rattle.std.specs.Prelude.{◌≡◌, ℕ, ◌^◌, ◌<◌, cond, Bool, true, false, not, ◌&&◌, List, [], ◌∷◌, ◌++◌, length, ℤ, pos, neg_ℤ, ◌*ℤ◌, int_lt, unsigned_abs, Option, Some, None, IfSome, option_map}
use Rattle.std.specs.Int.{int_div_euclid, int_max, int_min}
use Rattle.std.specs.Str.Parse.{digits_value, AllDigits}
use Rattle.twkb_head.specs.declared.boxes.Span.{Span}
use Rattle.twkb_head.specs.declared.boxes.Vertex.{Vertex}
use Rattle.twkb_head.specs.declared.boxes.Bounds.{Bounds}
use Rattle.twkb_layer.specs.WindowText.{point_and}

-- ---- texts

-- A decimal as it is written: whether it has a minus, its digits as one number without the point, and how many are after the point.
pub record Decimal : Type 0 where
  pub minus : Bool
  pub number : ℕ
  pub places : ℕ

-- The text is an optional minus, one or more digits, and optionally a point and one or more digits.
pub record IsDecimalText (text : List ℕ) (d : Decimal) : Type 0 where
  pub whole : List ℕ
  pub fraction : List ℕ
  pub parts : text ≡ cond d.minus (45 ∷ []) [] ++ (whole ++ point_and fraction)
  pub whole_digits : AllDigits 10 whole
  pub fraction_digits : AllDigits 10 fraction
  pub whole_some : 0 < length whole
  pub number_is : d.number ≡ digits_value 10 (whole ++ fraction)
  pub places_are : d.places ≡ length fraction

-- ---- rational numbers

-- a fraction
pub record Rational : Type 0 where
  pub numerator : ℤ
  pub denominator : ℕ

-- a natural number with a sign
abbrev pub signed : Bool → ℕ → ℤ
signed minus n = cond minus (neg_ℤ (pos n)) (pos n)

-- what a decimal means
abbrev pub rational_of : Decimal → Rational
rational_of d = record { numerator = signed d.minus d.number; denominator = 10 ^ d.places }

-- one fraction is less than another, both over a positive denominator
abbrev pub is_less : Rational → Rational → Bool
is_less a b = int_lt (a.numerator *ℤ pos b.denominator) (b.numerator *ℤ pos a.denominator)

-- a number of units of 10^-7
abbrev pub units_as_rational : ℤ → Rational
units_as_rational units = record { numerator = units; denominator = 10 ^ 7 }

-- ---- in units

-- a fraction in units, rounded down
abbrev pub floor_units : Rational → ℤ
floor_units r = int_div_euclid (r.numerator *ℤ pos (10 ^ 7)) (pos r.denominator)

-- a fraction in units, rounded up
abbrev pub ceil_units : Rational → ℤ
ceil_units r = neg_ℤ (int_div_euclid (neg_ℤ (r.numerator *ℤ pos (10 ^ 7))) (pos r.denominator))

-- The greatest distance of a bound from 0, in units. Coordinates are nearer: at most 2^63 steps of at most 10^15 units each.
abbrev pub farthest : ℕ
farthest = 10 ^ 34

-- the number of units, or the nearest one within `farthest`
abbrev pub within_farthest : ℤ → ℤ
within_farthest units = int_max (neg_ℤ (pos farthest)) (int_min units (pos farthest))

-- a lower end in units
abbrev pub rounded_up : Rational → ℤ
rounded_up r = within_farthest (ceil_units r)

-- an upper end in units
abbrev pub rounded_down : Rational → ℤ
rounded_down r = within_farthest (floor_units r)

-- ---- windows

-- a range with rational ends, both included
pub record RationalRange : Type 0 where
  pub lo : Rational
  pub hi : Rational

-- a window with rational ends
pub record RationalWindow : Type 0 where
  pub x : RationalRange
  pub y : RationalRange
  pub z : Option RationalRange
  pub m : Option RationalRange

-- the range in units, rounded inward
abbrev pub rounded_inward : RationalRange → Span
rounded_inward r = record { lo = rounded_up r.lo; hi = rounded_down r.hi }

-- the range of two decimals, rounded inward
abbrev pub span_of_decimals : Decimal → Decimal → Span
span_of_decimals lo hi = rounded_inward (record { lo = rational_of lo; hi = rational_of hi })

-- the window in units, rounded inward
abbrev pub window_rounded_inward : RationalWindow → Bounds
window_rounded_inward w = record {
  x = rounded_inward w.x;
  y = rounded_inward w.y;
  z = option_map rounded_inward w.z;
  m = option_map rounded_inward w.m;
}

-- a number of units in a range with rational ends
abbrev pub in_rationals : RationalRange → ℤ → Bool
in_rationals r units = not (is_less (units_as_rational units) r.lo) && not (is_less r.hi (units_as_rational units))

-- `in_rationals` if the axis is bounded, and then the value has to exist
abbrev pub in_rationals_if_any : Option RationalRange → Option ℤ → Bool
in_rationals_if_any None value = true
in_rationals_if_any (Some range) None = false
in_rationals_if_any (Some range) (Some value) = in_rationals range value

-- A vertex is inside if and only if it has each axis that the window bounds, and is in its range.
abbrev pub is_inside_rationals : RationalWindow → Vertex → Bool
is_inside_rationals w v = in_rationals w.x v.x
    && (in_rationals w.y v.y && (in_rationals_if_any w.z v.z && in_rationals_if_any w.m v.m))

-- ---- which ends and vertices the laws are about

-- both ends are over a positive denominator
pub record HasDenominators (r : RationalRange) : Type 0 where
  pub lo : 0 < r.lo.denominator
  pub hi : 0 < r.hi.denominator

-- `HasDenominators` of each range
pub record AreRational (w : RationalWindow) : Type 0 where
  pub x : HasDenominators w.x
  pub y : HasDenominators w.y
  pub z : IfSome w.z HasDenominators
  pub m : IfSome w.m HasDenominators

-- a number of units is nearer to 0 than `farthest`
abbrev pub IsWithinFarthest : ℤ → Type 0
IsWithinFarthest units = unsigned_abs units < farthest

-- `IsWithinFarthest` in each axis that the vertex has
pub record AreWithinFarthest (v : Vertex) : Type 0 where
  pub x : IsWithinFarthest v.x
  pub y : IsWithinFarthest v.y
  pub z : IfSome v.z IsWithinFarthest
  pub m : IfSome v.m IsWithinFarthest
