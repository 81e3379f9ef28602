-- Three numbers of a row, and three of the row after them, are six numbers.
use Rattle.twkb_num.proofs.Prelude.{◌≡◌, ℕ, ◌%◌, List, ◌++◌, map, ap, ◌∙◌, w16, cast_signed, points_in, zigzag_value, values}
use Rattle.twkb_num.proofs.LaneLemmas.{first_tops, tops_of_front, second_tops, first_piece, second_piece, flag_place, lanes_spell, narrow_values}
use Rattle.twkb_num.proofs.vectors.narrow_six.Goals as goal

pub narrow_three-first-requires-clause-tops : goal.narrow_three-first-requires-clause-tops
narrow_three-first-requires-clause-tops c = first_tops c.continuation_bits-tops.result _ c.continuation_bits-tops.ensures

pub narrow_three-other-requires-clause-tops : goal.narrow_three-other-requires-clause-tops
narrow_three-other-requires-clause-tops c =
    let bytes = c.args.bytes.now in
    let len = c.narrow_three-first.result.len in
    second_tops c.continuation_bits-tops.result c.bits_from.result (len % 16) bytes _ (tops_of_front 16 _ bytes _ (first_piece bytes) c.continuation_bits-tops.ensures) (second_piece (len % 16) bytes) (flag_place len c.narrow_three-first.ensures.flag) c.bits_from.ensures.moved

pub returns-clause-spelled : goal.returns-clause-spelled
returns-clause-spelled c short =
    let bytes = c.args.bytes.now in
    let first = c.narrow_three-first in
    let second = c.narrow_three-other in
    let ns : List ℕ = values 2 3 first.result.lanes 0 in
    let ms : List ℕ = values 2 3 second.result.lanes 0 in
    let both = c.low_halves.ensures in
    let all : map (cast_signed w16) c.meant_narrow.result ≡ map zigzag_value (values 2 4 first.result.lanes 0 ++ values 2 4 second.result.lanes 0) = c.meant_narrow.ensures.meaning ∙ ap (map zigzag_value) (narrow_values _ _ _ both.low both.high) in
    let means : points_in 3 (map (cast_signed w16) c.meant_narrow.result) ≡ map zigzag_value (ns ++ ms) = ap (points_in 3) all in
    lanes_spell bytes _ _ ns ms first.result.len second.result.len _ (first_piece bytes) (second_piece (first.result.len % 16) bytes)
    first.ensures.flag second.ensures.flag first.ensures.spelled second.ensures.spelled means short
