-- Four numbers are two ranges, one after the other.
use Rattle.twkb_body.proofs.Prelude.{◌≡◌, length, rules, slice_index_or, pos, arith, ints, SFits, w64}
use Rattle.twkb_head.proofs.NumberRuns.{ranges_held, ranges_stand}
use Rattle.twkb_body.proofs.known.two_ranges.Goals as goal

pub unreachable-requires : goal.unreachable-requires
unreachable-requires c = ranges_stand c.args.cursor.now c.svarints.new.self c.in_default.field-0 c.requires.x_stands c.requires.y_stands c.in_default.ensures.err

pub returns : goal.returns
returns c =
    let long : length c.in-Ok.numbers ≡ 4 = search rules in
    let low : SFits w64 (slice_index_or c.in-Ok.numbers 0 (pos 0)) = search rules in
    let width : SFits w64 (slice_index_or c.in-Ok.numbers 1 (pos 0)) = search rules in
    let next : SFits w64 (slice_index_or c.in-Ok.numbers 2 (pos 0)) = search rules in
    let more : SFits w64 (slice_index_or c.in-Ok.numbers 3 (pos 0)) = search rules in
    let (between, x, y) = ranges_held c.in-Ok.numbers _ _ _ _ long (omega (arith, ints)) (omega (arith, ints)) (omega (arith, ints)) (omega (arith, ints)) c.in-Ok.ensures.ok in
    record { between = between; x_read = x; y_read = y }
