-- The lanes that were read are taken.
use Rattle.twkb_num.proofs.Prelude.{◌≡◌, ◌≤◌, ℤ, List, map, length, take, w32, rules, arith, cast_signed, length-map, length-take-le}
use Rattle.twkb_num.proofs.TakeLemmas.{few_whole}
use Rattle.twkb_num.proofs.cursor.Cursor.take_wide_numbers.Goals as goal

pub returns-then-wide-clause-read : goal.returns-then-wide-clause-read
returns-then-wide-clause-read g c is_read =
    let wide = c.wide_lanes-wide in
    let many = c.args.many in
    let zs : List ℤ = map (cast_signed w32) wide.result.lanes in
    let four : length zs ≡ 4 = search (rules, length-map) in
    let few : many ≤ 4 = few_whole g.row.AXES many c.requires.axes c.requires.whole in
    (take many zs, length-take-le many zs (omega (arith, four, few)), record { spelled = wide.ensures.some is_read; moved = wide.ensures.moved is_read }, c.take_wide.ensures)
