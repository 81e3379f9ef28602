-- The lanes that were read are taken.
use Rattle.twkb_num.proofs.Prelude.{◌≡◌, ℤ, List, map, length, w16, rules, cast_signed, length-map, points_in}
use Rattle.twkb_num.proofs.TakeLemmas.{length-points_in}
use Rattle.twkb_num.proofs.cursor.Cursor.take_narrow_numbers.Goals as goal

pub returns-then-narrow-clause-read : goal.returns-then-narrow-clause-read
returns-then-narrow-clause-read g c is_read =
    let narrow = c.narrow_lanes-narrow in
    let zs : List ℤ = map (cast_signed w16) narrow.result.lanes in
    let eight : length zs ≡ 8 = search (rules, length-map) in
    (points_in g.row.AXES zs, length-points_in g.row.AXES zs eight, record { spelled = narrow.ensures.some is_read; moved = narrow.ensures.moved is_read }, c.take_narrow.ensures)
