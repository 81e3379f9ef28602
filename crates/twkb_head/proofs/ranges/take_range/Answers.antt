-- Two numbers, one after the other, are a range, and the fault of one of them is the fault of the range.
use Rattle.twkb_head.proofs.Prelude.{◌≡◌, rules, length, slice_index_or, pos, arith, ints, SFits, w64}
use Rattle.twkb_head.proofs.NumberRuns.{range_held, range_stops}
use Rattle.twkb_head.proofs.ranges.take_range.Goals as goal

pub returns-in-Ok : goal.returns-in-Ok
returns-in-Ok c =
    let long : length c.in-Ok.numbers ≡ 2 = search rules in
    let low : SFits w64 (slice_index_or c.in-Ok.numbers 0 (pos 0)) = search rules in
    let width : SFits w64 (slice_index_or c.in-Ok.numbers 1 (pos 0)) = search rules in
    range_held c.in-Ok.numbers _ _ _ _ long (omega (arith, ints)) (omega (arith, ints)) c.in-Ok.ensures.ok

pub returns-in-Err : goal.returns-in-Err
returns-in-Err c = range_stops _ c.in-Err.fault c.malformed.result c.malformed.ensures.offset c.malformed.ensures.why _ c.in-Err.ensures.err
