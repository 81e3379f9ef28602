-- Two rows, one after the other, are four numbers.
use Rattle.twkb_num.proofs.Prelude.{◌≡◌, ℕ, ◌%◌, List, ◌++◌, map, ap, ◌∙◌, w32, cast_signed, zigzag_value, values}
use Rattle.twkb_num.proofs.LaneLemmas.{first_tops, tops_of_front, second_tops, first_piece, second_piece, flag_place, lanes_spell, wide_values}
use Rattle.twkb_num.proofs.vectors.wide_four.Goals as goal

pub wide_two-first-requires-clause-tops : goal.wide_two-first-requires-clause-tops
wide_two-first-requires-clause-tops c = first_tops c.continuation_bits-tops.result _ c.continuation_bits-tops.ensures

pub wide_two-second-requires-clause-tops : goal.wide_two-second-requires-clause-tops
wide_two-second-requires-clause-tops c =
    let bytes = c.args.bytes.now in
    let len = c.wide_two-first.result.len in
    second_tops c.continuation_bits-tops.result c.bits_from.result (len % 16) bytes _ (tops_of_front 16 _ bytes _ (first_piece bytes) c.continuation_bits-tops.ensures) (second_piece (len % 16) bytes) (flag_place len c.wide_two-first.ensures.flag) c.bits_from.ensures.moved

pub returns-clause-spelled : goal.returns-clause-spelled
returns-clause-spelled c short =
    let bytes = c.args.bytes.now in
    let first = c.wide_two-first in
    let second = c.wide_two-second in
    let ns : List ℕ = values 4 2 first.result.lanes 0 in
    let ms : List ℕ = values 4 2 second.result.lanes 0 in
    let both = c.low_halves.ensures in
    let means : map (cast_signed w32) c.meant_wide.result ≡ map zigzag_value (ns ++ ms) = c.meant_wide.ensures.meaning ∙ ap (map zigzag_value) (wide_values _ _ _ both.low both.high) in
    lanes_spell bytes _ _ ns ms first.result.len second.result.len _ (first_piece bytes) (second_piece (first.result.len % 16) bytes)
    first.ensures.flag second.ensures.flag first.ensures.spelled second.ensures.spelled means short
