-- Four numbers, one after another, are two ranges, and the fault of one of them is the fault of both.
use Rattle.twkb_head.proofs.Prelude.{◌≡◌, rules, length, slice_index_or, pos, arith, ints, SFits, w64}
use Rattle.twkb_head.proofs.NumberRuns.{two_ranges_held, two_ranges_stop}
use Rattle.twkb_head.proofs.ranges.take_two_ranges.Goals as goal

pub returns-in-Ok : goal.returns-in-Ok
returns-in-Ok c =
    let long : length c.in-Ok.numbers ≡ 4 = search rules in
    let low : SFits w64 (slice_index_or c.in-Ok.numbers 0 (pos 0)) = search rules in
    let width : SFits w64 (slice_index_or c.in-Ok.numbers 1 (pos 0)) = search rules in
    let next : SFits w64 (slice_index_or c.in-Ok.numbers 2 (pos 0)) = search rules in
    let more : SFits w64 (slice_index_or c.in-Ok.numbers 3 (pos 0)) = search rules in
    two_ranges_held c.in-Ok.numbers _ _ _ _ long (omega (arith, ints)) (omega (arith, ints)) (omega (arith, ints)) (omega (arith, ints)) c.in-Ok.ensures.ok

pub returns-in-Err : goal.returns-in-Err
returns-in-Err c = two_ranges_stop _ c.in-Err.fault c.malformed.result c.malformed.ensures.offset c.malformed.ensures.why _ c.in-Err.ensures.err
