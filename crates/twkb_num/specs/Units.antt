-- Coordinates in units of 10^-7.
use Rattle.std.specs.Prelude.{◌^◌, ℤ, pos, neg_ℤ, ◌*ℤ◌, ◌-ℤ◌, ◌≤ℤ◌, unsigned_abs}

-- a precision that a header can state: from -8 to 7
abbrev pub IsPrecision : ℤ → Type 0
IsPrecision p = (neg_ℤ (pos 8) ≤ℤ p) × (p ≤ℤ pos 7)

-- c * 10^(7-p), which is c / 10^p in units, for p of at most 7
abbrev pub units_of : ℤ → ℤ → ℤ
units_of c p = c *ℤ pos (10 ^ unsigned_abs (pos 7 -ℤ p))
