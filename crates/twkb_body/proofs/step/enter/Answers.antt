-- A certified geometry begins with a header, whose rest is read after its first two bytes.
use Rattle.twkb_body.proofs.Prelude.{refl, arith}
use Rattle.twkb_body.proofs.Entering.{two_left}
use Rattle.twkb_body.proofs.HeadStands.{header_starts}
use Rattle.twkb_body.proofs.step.enter.Goals as goal

pub unreachable-requires : goal.unreachable-requires
unreachable-requires g c =
    let few = c.in_default.ensures.end.0 refl in
    omega (arith, few, two_left c.requires.0 c.requires.1 c.args.cursor.now c.requires.2)

pub unreachable-requires-in_default-begun_by : goal.unreachable-requires-in_default-begun_by
unreachable-requires-in_default-begun_by g c =
    let no = c.in_default-begun_by.ensures.none c.args.cursor.now c.place_is_within.ensures c.in-Some.ensures.moved c.in-Some.ensures.some (header_starts c.requires.0 c.requires.1 c.args.cursor.now c.requires.2) in
    cc (no)
