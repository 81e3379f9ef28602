-- The ends are next to 0.
use Rattle.twkb_layer.proofs.Prelude.{◌≡◌, ◌≤◌, Bool, true, false, ℤ, pos, ◌≤ℤ◌, ◌-ℤ◌, neg_ℤ, to_z, of_z, arith, w64, from_bool, ints}
use Rattle.twkb_layer.proofs.RawWindows.{next_to_zero}
use Rattle.twkb_layer.proofs.raw_windows.RawEnds.coarsest.Goals as goal

one_at_most : (b : Bool) → from_bool b ≤ 1
one_at_most true = omega arith
one_at_most false = omega arith

-- a bit as a number of 64 bits, and that number negated
module _ (n : ℤ) (b : Bool) (is : n ≡ pos (from_bool b)) where
  few : from_bool b ≤ 1
  few = one_at_most b

  some : pos 0 ≤ℤ to_z w64 (of_z w64 n)
  some = omega (arith, ints, is, few)

  one : to_z w64 (of_z w64 n) ≤ℤ pos 1
  one = omega (arith, ints, is, few)

  minus_one : neg_ℤ (pos 1) ≤ℤ to_z w64 (of_z w64 (pos 0 -ℤ to_z w64 (of_z w64 n)))
  minus_one = omega (arith, ints, is, few)

  none : to_z w64 (of_z w64 (pos 0 -ℤ to_z w64 (of_z w64 n))) ≤ℤ pos 0
  none = omega (arith, ints, is, few)

pub returns : goal.returns
returns c = λ p range le exact.
    let least = c.from.ensures in
    let greatest = c.from-2.ensures in
    next_to_zero p range _ le (some _ _ least) (one _ _ least) (minus_one _ _ greatest) (none _ _ greatest) exact
