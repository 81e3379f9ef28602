-- A coordinate of 65 bits and a power of ten to the fifteenth stay in 128 bits.
use Rattle.twkb_num.proofs.Prelude.{◌≡◌, ℕ, ◌≤◌, ◌^◌, pos, ℤ, unsigned_abs, ◌-ℤ◌, ◌*ℤ◌, FitsSigned, refl, ap, subst, ◌∙◌, arith, rules, ints, to_z-of_z, fits_signed_mul, w64, w128}
use Rattle.std.proofs.Common.{to_z, of_z}
use Rattle.std.specs.Int.{w8}
use Rattle.twkb_num.proofs.scale.units.Goals as goal

pub returns : goal.returns
returns c =
    let power : ℕ = 10 ^ unsigned_abs (pos 7 -ℤ c.args.precision) in
    let passed = to_z-of_z w8 c.args.precision c.ranges.precision in
    let small : power ≤ 10 ^ 15 = subst (λ (z : ℤ). 10 ^ unsigned_abs (pos 7 -ℤ z) ≤ 10 ^ 15) passed c.units_in_one.ensures.few in
    let short : FitsSigned w64 (pos power) = search (rules, small) in
    let value : c.units_in_one.result ≡ pos power = c.units_in_one.ensures.value ∙ ap (λ z. pos (10 ^ unsigned_abs (pos 7 -ℤ z))) passed in
    let is : c.from.result ≡ pos power = c.from.ensures ∙ ap (λ z. to_z w64 (of_z w64 z)) value ∙ to_z-of_z w64 (pos power) short in
    let large : unsigned_abs c.args.coordinate ≤ 2 ^ 64 = omega (arith, ints) in
    let fits : FitsSigned w128 c.args.coordinate = c.ranges.coordinate in
    let power_fits : FitsSigned w128 (pos power) = search (rules, small) in
    let product_fits : FitsSigned w128 (c.args.coordinate *ℤ pos power) = fits_signed_mul w128 c.args.coordinate (pos power) (2 ^ 64) (10 ^ 15) large small (omega arith) in
    rw is (simp to_z-of_z refl)
