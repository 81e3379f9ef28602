-- The number that was read, or its fault, is what the reader answers.
use Rattle.twkb_body.proofs.Prelude.{refl, rules, to_z-of_z, SFits, w64, read_signed, read_no_signed}
use Rattle.twkb_body.proofs.varints.take_signed.Goals as goal

pub returns-in-Ok : goal.returns-in-Ok
returns-in-Ok c =
    let fits : SFits w64 c.in-Ok.number = search rules in
    simp to_z-of_z (read_signed _ _ _ c.in-Ok.ensures.ok c.in-Ok.ensures.moved)

pub returns-in-Err : goal.returns-in-Err
returns-in-Err c = read_no_signed _ _ c.in-Err.fault c.malformed.result ((c.in-Err.ensures.fault c.in-Err.fault).0 refl) c.in-Err.ensures.still c.malformed.ensures.offset c.malformed.ensures.why
