-- Ends that are divided and rounded have the same numbers between them.
use Rattle.twkb_layer.proofs.Prelude.{◌≡◌, ◌*◌, ◌^◌, ℤ, pos, ◌<ℤ◌, ◌-ℤ◌, FitsSigned, unsigned_abs, to_z, of_z, subst, sym, arith, rules, w8, w64, w128, ints, to_z-of_z, one-le-pow}
use Rattle.twkb_layer.proofs.RawWindows.{raw_ends}
use Rattle.twkb_layer.proofs.raw_windows.RawEnds.of.Goals as goal

-- the unit of a precision is positive
unit_positive : (p unit : ℤ) → FitsSigned w128 unit → unit ≡ pos (1 * 10 ^ unsigned_abs (pos 7 -ℤ p)) → pos 0 <ℤ to_z w128 (of_z w128 unit)
unit_positive p unit fits is =
    let some = one-le-pow (unsigned_abs (pos 7 -ℤ p)) 10 (omega arith) in
    subst (λ (n : ℤ). pos 0 <ℤ n) (sym (to_z-of_z w128 unit fits)) (omega (arith, ints, is, some))

pub least_from-requires : goal.least_from-requires
least_from-requires c =
    let precise : FitsSigned w8 c.args.precision = c.ranges.precision in
    unit_positive c.args.precision c.units-unit.result (search rules) (simp to_z-of_z at c.units-unit.ensures)

pub greatest_to-requires : goal.greatest_to-requires
greatest_to-requires c =
    let precise : FitsSigned w8 c.args.precision = c.ranges.precision in
    unit_positive c.args.precision c.units-unit.result (search rules) (simp to_z-of_z at c.units-unit.ensures)

pub returns : goal.returns
returns c =
    let lo_fits : FitsSigned w128 c.args.range.now.lo = search rules in
    let hi_fits : FitsSigned w128 c.args.range.now.hi = search rules in
    let unit_fits : FitsSigned w128 c.units-unit.result = search rules in
    let least_fits : FitsSigned w64 c.least_from.result = search rules in
    let greatest_fits : FitsSigned w64 c.greatest_to.result = search rules in
    let precise : FitsSigned w8 c.args.precision = c.ranges.precision in
    let below = simp to_z-of_z at c.least_from.ensures in
    let above = simp to_z-of_z at c.greatest_to.ensures in
    let unit = simp to_z-of_z at c.units-unit.ensures in
    simp to_z-of_z (raw_ends c.args.precision c.args.range.now c.units-unit.result (record { least = c.least_from.result; greatest = c.greatest_to.result }) unit below above)
