-- Devices of proofs: nothing public names them.
-- What a decimal keeps of its text, how it is rounded, and how two decimals are compared.
use Rattle.std.specs.Prelude.{ℕ, ◌+◌, ◌*◌, ◌/◌, ◌%◌, ◌^◌, ◌<◌, ◌==◌, Bool, not, ℤ, pos, neg_ℤ, List, length}
use Rattle.std.specs.Int.{int_max, int_min}
use Rattle.std.specs.Str.Parse.{AllDigits}
use Rattle.twkb_layer.specs.Decimals.{Decimal}

-- the digits before and after the point, which are parts of one text
pub record AreDigits (whole fraction : List ℕ) : Type 0 where
  pub whole_digits : AllDigits 10 whole
  pub fraction_digits : AllDigits 10 fraction
  pub short : length whole + length fraction < 2 ^ 63

-- the absolute value in units, rounded down
abbrev pub whole_units : Decimal → ℕ
whole_units d = d.number * 10 ^ 7 / 10 ^ d.places

-- the value isn't a whole number of units
abbrev pub is_between_units : Decimal → Bool
is_between_units d = not (d.number * 10 ^ 7 % 10 ^ d.places == 0)

-- a difference, limited to the range from -2 to 2
abbrev pub leaning : ℤ → ℤ
leaning difference = int_max (neg_ℤ (pos 2)) (int_min difference (pos 2))
