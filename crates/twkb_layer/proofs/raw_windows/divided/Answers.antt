-- A division of 64 bits gives the answer of one of 128, if both numbers fit.
use Rattle.twkb_layer.proofs.Prelude.{◌≡◌, ℤ, pos, ◌<ℤ◌, FitsSigned, to_z, of_z, subst, ◌∙◌, arith, ints, to_z-of_z, quot_fits, rem_below, w64, w128, int_div, int_rem}
use Rattle.twkb_layer.proofs.RawWindows.{short_is}
use Rattle.twkb_layer.proofs.raw_windows.divided.Goals as goal

fits_short : (a : ℤ) → FitsSigned w128 a → FitsSigned w64 (to_z w128 (of_z w128 a)) → FitsSigned w64 a
fits_short a f fits = subst (FitsSigned w64) (to_z-of_z w128 a f) fits

-- a number of 64 bits that was cast to 128
wide_is : (q r : ℤ) → FitsSigned w64 q → r ≡ to_z w64 (of_z w64 q) → to_z w128 (of_z w128 r) ≡ q
wide_is q r f e = omega (arith, ints, f, e)

rest_short : (a d : ℤ) → FitsSigned w64 d → pos 0 <ℤ d → FitsSigned w64 (int_rem a d)
rest_short a d f some = let few = rem_below a d (omega (arith, ints, some)) in omega (arith, ints, f, some, few)

rest_wide : (a d : ℤ) → FitsSigned w128 d → pos 0 <ℤ d → FitsSigned w128 (int_rem a d)
rest_wide a d f some = let few = rem_below a d (omega (arith, ints, some)) in omega (arith, ints, f, some, few)

pub returns-in-Ok-Ok-clause-quotient : goal.returns-in-Ok-Ok-clause-quotient
returns-in-Ok-Ok-clause-quotient c =
    let number = short_is c.args.number c.in-Ok-Ok.short c.ranges.number c.in-Ok-Ok.ensures.0 c.in-Ok-Ok.ensures.1 in
    let unit = short_is c.args.unit c.in-Ok-Ok.short_unit c.ranges.unit c.in-Ok-Ok.ensures'.0 c.in-Ok-Ok.ensures'.1 in
    let fits = fits_short c.args.number c.ranges.number c.in-Ok-Ok.ensures.0 in
    wide_is (int_div c.args.number c.args.unit) c.from.result (quot_fits w64 c.args.number c.args.unit fits c.requires)
    (c.from.ensures ∙ (λ j. to_z w64 (of_z w64 (int_div (number j) (unit j)))))

pub returns-in-Ok-Ok-clause-rest : goal.returns-in-Ok-Ok-clause-rest
returns-in-Ok-Ok-clause-rest c =
    let number = short_is c.args.number c.in-Ok-Ok.short c.ranges.number c.in-Ok-Ok.ensures.0 c.in-Ok-Ok.ensures.1 in
    let unit = short_is c.args.unit c.in-Ok-Ok.short_unit c.ranges.unit c.in-Ok-Ok.ensures'.0 c.in-Ok-Ok.ensures'.1 in
    let fits = fits_short c.args.unit c.ranges.unit c.in-Ok-Ok.ensures'.0 in
    wide_is (int_rem c.args.number c.args.unit) c.from-in-Ok-Ok.result (rest_short c.args.number c.args.unit fits c.requires)
    (c.from-in-Ok-Ok.ensures ∙ (λ j. to_z w64 (of_z w64 (int_rem (number j) (unit j)))))

pub returns-in_default-clause-quotient : goal.returns-in_default-clause-quotient
returns-in_default-clause-quotient c =
    (λ j. to_z w128 (of_z w128 (int_div (to_z-of_z w128 c.args.number c.ranges.number j) (to_z-of_z w128 c.args.unit c.ranges.unit j))))
    ∙ to_z-of_z w128 _ (quot_fits w128 c.args.number c.args.unit c.ranges.number c.requires)

pub returns-in_default-clause-rest : goal.returns-in_default-clause-rest
returns-in_default-clause-rest c =
    (λ j. to_z w128 (of_z w128 (int_rem (to_z-of_z w128 c.args.number c.ranges.number j) (to_z-of_z w128 c.args.unit c.ranges.unit j))))
    ∙ to_z-of_z w128 _ (rest_wide c.args.number c.args.unit c.ranges.unit c.requires)
