-- The two numbers are the point that can be read, so their sums fit.
use Rattle.twkb_body.proofs.Prelude.{◌≡◌, rules, ◌+ℤ◌, length, pos, slice_index_or, refl, ap, sym, subst, ◌∙◌, arith, Ok, ints, Reading, point_at, add}
use Rattle.std.proofs.Common.{to_z, of_z, w64}
use Rattle.twkb_body.proofs.NumberRuns.{two_added, two_fit, two_stand, rows_ahead}
use Rattle.twkb_body.proofs.trail.take_flat_point.Goals as goal

pub unreachable-requires : goal.unreachable-requires
unreachable-requires c =
    let (p, stop, e) = c.requires.known in
    two_stand c.args.trail.now.last c.args.cursor.now c.svarints.new.self stop p c.in_default.field-0 c.place_is_within.ensures c.in_default.ensures.err e

pub overflow_add-trail : goal.overflow_add-trail
overflow_add-trail c =
    let (p, stop, e) = c.requires.known in
    let two : length c.in-Ok.more ≡ 2 = search rules in
    let last : to_z w64 (of_z w64 (slice_index_or c.args.trail.now.last 0 (pos 0))) ≡ slice_index_or c.args.trail.now.last 0 (pos 0) = omega (arith, ints) in
    let more : to_z w64 (of_z w64 (slice_index_or c.in-Ok.more 0 (pos 0))) ≡ slice_index_or c.in-Ok.more 0 (pos 0) = omega (arith, ints) in
    let (same, there, x, y) = two_fit c.args.trail.now.last c.in-Ok.more c.args.cursor.now c.svarints.new.self stop p two c.place_is_within.ensures c.in-Ok.ensures.ok e in
    rw (last, more) x

pub overflow_add-trail-2 : goal.overflow_add-trail-2
overflow_add-trail-2 c =
    let (p, stop, e) = c.requires.known in
    let two : length c.in-Ok.more ≡ 2 = search rules in
    let last : to_z w64 (of_z w64 (slice_index_or c.args.trail.now.last 1 (pos 0))) ≡ slice_index_or c.args.trail.now.last 1 (pos 0) = omega (arith, ints) in
    let more : to_z w64 (of_z w64 (slice_index_or c.in-Ok.more 1 (pos 0))) ≡ slice_index_or c.in-Ok.more 1 (pos 0) = omega (arith, ints) in
    let (same, there, x, y) = two_fit c.args.trail.now.last c.in-Ok.more c.args.cursor.now c.svarints.new.self stop p two c.place_is_within.ensures c.in-Ok.ensures.ok e in
    rw (last, more) y

pub returns : goal.returns
returns c =
    let (p, stop, e) = c.requires.known in
    let s = c.args.trail.now.last in
    let zs = c.in-Ok.more in
    let four : length s ≡ 4 = omega arith in
    let two : length zs ≡ 2 = search rules in
    let (same, there, x, y) = two_fit s zs c.args.cursor.now c.svarints.new.self stop p two c.place_is_within.ensures c.in-Ok.ensures.ok e in
    let s_0 : to_z w64 (of_z w64 (slice_index_or s 0 (pos 0))) ≡ slice_index_or s 0 (pos 0) = omega (arith, ints) in
    let s_1 : to_z w64 (of_z w64 (slice_index_or s 1 (pos 0))) ≡ slice_index_or s 1 (pos 0) = omega (arith, ints) in
    let s_2 : to_z w64 (of_z w64 (slice_index_or s 2 (pos 0))) ≡ slice_index_or s 2 (pos 0) = omega (arith, ints) in
    let s_3 : to_z w64 (of_z w64 (slice_index_or s 3 (pos 0))) ≡ slice_index_or s 3 (pos 0) = omega (arith, ints) in
    let z_0 : to_z w64 (of_z w64 (slice_index_or zs 0 (pos 0))) ≡ slice_index_or zs 0 (pos 0) = omega (arith, ints) in
    let z_1 : to_z w64 (of_z w64 (slice_index_or zs 1 (pos 0))) ≡ slice_index_or zs 1 (pos 0) = omega (arith, ints) in
    let sum_x : to_z w64 (of_z w64 (slice_index_or s 0 (pos 0) +ℤ slice_index_or zs 0 (pos 0))) ≡ slice_index_or s 0 (pos 0) +ℤ slice_index_or zs 0 (pos 0) = omega (arith, ints, x) in
    let sum_y : to_z w64 (of_z w64 (slice_index_or s 1 (pos 0) +ℤ slice_index_or zs 1 (pos 0))) ≡ slice_index_or s 1 (pos 0) +ℤ slice_index_or zs 1 (pos 0) = omega (arith, ints, y) in
    rw (s_0, s_1, s_2, s_3, z_0, z_1, sum_x, sum_y) (
      p,
      subst (λ (r : Reading). point_at 2 s c.args.cursor.now ≡ (Ok p, r)) there e,
      record {
        last = sym (ap (add s) same ∙ two_added s zs four two);
        points = refl;
        added = refl;
        have = (ap length same ∙ two, tt);
        ahead = rows_ahead 2 1 c.args.cursor.now c.svarints.new.self zs (omega arith) c.in-Ok.ensures.ok two;
      },
    )
