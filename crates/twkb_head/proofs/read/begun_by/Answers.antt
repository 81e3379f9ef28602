-- Two bytes that were read begin a header, or no header is there.
use Rattle.twkb_head.proofs.Prelude.{◌≡◌, ◌+◌, ◌-◌, ◌/◌, ◌%◌, Err, refl, arith, ints, to_z, of_z, w8, zigzag_value, deepest}
use Rattle.twkb_head.proofs.Heads.{code_kind, allowed_at}
use Rattle.twkb_head.proofs.HeadLaws.{head_exact}
use Rattle.twkb_head.proofs.HeadSteps.{kind_stops, two_back}
use Rattle.twkb_head.proofs.read.begun_by.Goals as goal

pub returns-clause-some : goal.returns-clause-some
returns-clause-some c = λ before sound moved two.
    let fits : to_z w8 (of_z w8 c.precision_of.result) ≡ zigzag_value (c.args.first / 16) = omega (arith, ints, c.precision_of.ensures.value) in
    let full : c.args.depth + (deepest - c.args.depth) ≡ deepest = omega (arith, c.requires.deepest) in
    record {
      type_byte = c.args.first;
      metadata = c.args.metadata;
      bytes = two;
      moved = moved;
      kind = code_kind (c.args.first % 16) c.in-Ok.kind c.in-Ok.ensures.kind;
      allowed = allowed_at deepest (deepest - c.args.depth) c.args.depth c.in-Ok.kind full c.requires.shallowest c.in-Ok.ensures.allowed;
      precision = fits;
      announced = refl;
      start = omega (arith, c.place-start.ensures.value, two_back before c.args.cursor.now _ _ moved two);
    }

pub returns-in_default-clause-none : goal.returns-in_default-clause-none
returns-in_default-clause-none c = λ before sound moved two starts.
    let stops = kind_stops (deepest - c.args.depth) c.args.first c.args.metadata before c.args.cursor.now sound two moved c.in_default.field-0 c.in_default.ensures.refused in
    let no = (head_exact c.args.depth c.requires.shallowest c.requires.deepest before _ sound (Err stops.0) stops.2).1 starts in
    cc (no)
