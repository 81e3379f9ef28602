-- A sum that leaves 64 bits is refused at the number's first byte; else it is the coordinate.
use Rattle.twkb_body.proofs.Prelude.{◌≡◌, refl, ap, ◌∙◌, arith, length, err_from_is_err_and, ints, to_z, of_z, w64, signed_moved, coordinate_no_signed, coordinate_ok, coordinate_refused, fits_true, fits_false}
use Rattle.twkb_body.proofs.trail.take_coordinate.Goals as goal

pub returns-in_err-number : goal.returns-in_err-number
returns-in_err-number c =
    let p = err_from_is_err_and c.from_residual.result c.from_residual.ensures.1 in
    let e = coordinate_no_signed c.args.before _ _ _ c.in_err-number.ensures in
    rw (p.1, p.2) (record { left = _; is = e; bytes = refl })

pub go_to-requires : goal.go_to-requires
go_to-requires c =
    let moved = signed_moved _ _ _ c.place-offset.ensures.sound c.in_ok-number.ensures in
    omega (arith, ap length moved.bytes, c.place-offset.ensures.value, c.place-offset.ensures.sound.within)

pub returns-in-Some : goal.returns-in-Some
returns-in-Some c =
    let before : to_z w64 (of_z w64 c.args.before) ≡ c.args.before = omega (arith, ints) in
    let number : to_z w64 (of_z w64 c.in_ok-number.number) ≡ c.in_ok-number.number = omega (arith, ints) in
    let fit = rw (before, number) at c.in-Some.ensures.0 in
    let sum = rw (before, number) at c.in-Some.ensures.1 in
    let same : to_z w64 (of_z w64 c.in-Some.sum) ≡ c.in-Some.sum = omega (arith, ints) in
    (c.in_ok-number.number, coordinate_ok c.args.before _ _ c.in_ok-number.number (fits_true _ fit) c.in_ok-number.ensures, same ∙ sum)

pub returns-in-None : goal.returns-in-None
returns-in-None c =
    let before : to_z w64 (of_z w64 c.args.before) ≡ c.args.before = omega (arith, ints) in
    let number : to_z w64 (of_z w64 c.in_ok-number.number) ≡ c.in_ok-number.number = omega (arith, ints) in
    let bad = rw (before, number) at c.in-None.ensures in
    let e = coordinate_refused c.args.before _ _ c.in_ok-number.number _ _ (fits_false _ bad) c.place-offset.ensures.value refl (rw c.place-offset.ensures.value at c.go_to.ensures) c.in_ok-number.ensures in
    record { left = _; is = e; bytes = refl }
