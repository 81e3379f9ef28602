-- The table has the powers of ten.
use Rattle.twkb_num.proofs.Prelude.{◌≡◌, ℕ, ◌<◌, ◌≤◌, ◌^◌, pos, ℤ, List, [], ◌∷◌, slice_index_or, unsigned_abs, ◌-ℤ◌, FitsSigned, ap, ◌∙◌, arith, rules, ints, to_z-of_z, pow-le-pow_right, w64}
use Rattle.std.proofs.Common.{to_z, of_z}
use Rattle.std.specs.Int.{w8}
use Rattle.twkb_num.proofs.scale.units_in_one.Goals as goal

-- the table, as a proof reads it
abbrev powers : List ℤ
powers = pos 1 ∷ pos 10 ∷ pos 100 ∷ pos 1000 ∷ pos 10000 ∷ pos 100000 ∷ pos 1000000 ∷ pos 10000000 ∷ pos 100000000 ∷ pos 1000000000 ∷ pos 10000000000 ∷ pos 100000000000 ∷ pos 1000000000000 ∷ pos 10000000000000 ∷ pos 100000000000000 ∷ pos 1000000000000000 ∷ []

-- the table at k is 10^k
power_at : (k : ℕ) → k < 16 → slice_index_or powers k (pos 0) ≡ pos (10 ^ k)
power_at k h = grind arith

-- 10 to a power of 0 to 15
few_digits : (k : ℕ) → k < 16 → 10 ^ k ≤ 10 ^ 15
few_digits k h = pow-le-pow_right {n = 10} (omega arith) {i = k} {j = 15} (omega (arith, h))

pub returns-clause-value : goal.returns-clause-value
returns-clause-value c =
    let k = c.from.result in
    let range : k ≡ unsigned_abs (pos 7 -ℤ c.args.precision) = c.from.ensures ∙ c.abs_diff.ensures ∙ ap (λ z. unsigned_abs (pos 7 -ℤ z)) (to_z-of_z w8 c.args.precision c.ranges.precision) in
    let few : k < 16 = omega (arith, ints) in
    let small : 10 ^ k ≤ 10 ^ 15 = few_digits k few in
    let short : FitsSigned w64 (pos (10 ^ k)) = search (rules, small) in
    ap (λ z. to_z w64 (of_z w64 z)) (power_at k few) ∙ to_z-of_z w64 (pos (10 ^ k)) short ∙ ap (λ n. pos (10 ^ n)) range

pub returns-clause-few : goal.returns-clause-few
returns-clause-few c = let few : unsigned_abs (pos 7 -ℤ c.args.precision) < 16 = omega (arith, ints) in few_digits (unsigned_abs (pos 7 -ℤ c.args.precision)) few
