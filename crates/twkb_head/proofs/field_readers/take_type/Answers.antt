-- A byte that is refused for its kind or its depth is left unread.
use Rattle.twkb_head.proofs.Prelude.{◌-◌, refl, ap, rules, arith, length, err_from_is_err_and, to_z-of_z, SFits, w8, deepest}
use Rattle.twkb_head.proofs.Steps.{byte_moved, type_no_byte, type_ok, type_refused}
use Rattle.twkb_head.proofs.field_readers.take_type.Goals as goal

pub returns-in_err-byte-clause-read : goal.returns-in_err-byte-clause-read
returns-in_err-byte-clause-read c =
    let p = err_from_is_err_and c.from_residual.result c.from_residual.ensures.1 in
    let e = type_no_byte (deepest - c.args.depth) _ _ _ c.in_err-byte.ensures in
    rw (e, p.1, p.2) refl

pub go_to-requires : goal.go_to-requires
go_to-requires c =
    let moved = byte_moved _ _ _ c.place-offset.ensures.sound c.in_ok-byte.ensures in
    omega (arith, ap length moved.bytes, c.place-offset.ensures.value, c.place-offset.ensures.sound.within)

pub returns-in-Ok-clause-read : goal.returns-in-Ok-clause-read
returns-in-Ok-clause-read c =
    let e = type_ok (deepest - c.args.depth) _ _ _ c.place-offset.ensures.sound c.in_ok-byte.ensures c.in-Ok.kind c.in-Ok.ensures.kind c.in-Ok.ensures.allowed in
    let fits : SFits w8 c.precision_of.result = search rules in
    rw e (simp to_z-of_z (grind (arith, c.in-Ok.ensures.kind, c.precision_of.ensures.value)))

pub returns-in-Err-clause-read : goal.returns-in-Err-clause-read
returns-in-Err-clause-read c =
    let e = type_refused (deepest - c.args.depth) _ _ _ c.place-offset.ensures.sound c.in_ok-byte.ensures c.in-Err.why
    (record { offset = c.place-offset.result; why = c.in-Err.why }) c.go_to.new.self c.in-Err.ensures.refused c.place-offset.ensures.value refl (rw c.place-offset.ensures.value at (c.go_to.ensures)) in
    rw e refl
