-- A row and the first number of the row after it are three numbers.
use Rattle.twkb_num.proofs.Prelude.{◌≡◌, ℕ, ◌%◌, List, ◌++◌, map, take, ap, ◌∙◌, w32, cast_signed, zigzag_value, values}
use Rattle.twkb_num.proofs.LaneLemmas.{first_tops, tops_of_front, second_tops, first_piece, second_piece, flag_place, lanes_spell, wide_values}
use Rattle.twkb_num.proofs.vectors.wide_three.Goals as goal

pub wide_two-first-requires-clause-tops : goal.wide_two-first-requires-clause-tops
wide_two-first-requires-clause-tops c = first_tops c.continuation_bits-tops.result _ c.continuation_bits-tops.ensures

pub wide_one-third-requires-clause-tops : goal.wide_one-third-requires-clause-tops
wide_one-third-requires-clause-tops c =
    let bytes = c.args.bytes.now in
    let len = c.wide_two-first.result.len in
    second_tops c.continuation_bits-tops.result c.bits_from.result (len % 16) bytes _ (tops_of_front 16 _ bytes _ (first_piece bytes) c.continuation_bits-tops.ensures) (second_piece (len % 16) bytes) (flag_place len c.wide_two-first.ensures.flag) c.bits_from.ensures.moved

pub returns-clause-spelled : goal.returns-clause-spelled
returns-clause-spelled c short =
    let bytes = c.args.bytes.now in
    let first = c.wide_two-first in
    let third = c.wide_one-third in
    let ns : List ℕ = values 4 2 first.result.lanes 0 in
    let ms : List ℕ = values 4 1 third.result.lanes 0 in
    let both = c.low_halves.ensures in
    let all : map (cast_signed w32) c.meant_wide.result ≡ map zigzag_value (ns ++ values 4 2 third.result.lanes 0) = c.meant_wide.ensures.meaning ∙ ap (map zigzag_value) (wide_values _ _ _ both.low both.high) in
    let means : take 3 (map (cast_signed w32) c.meant_wide.result) ≡ map zigzag_value (ns ++ ms) = ap (take 3) all in
    lanes_spell bytes _ _ ns ms first.result.len third.result.len _ (first_piece bytes) (second_piece (first.result.len % 16) bytes)
    first.ensures.flag third.ensures.flag first.ensures.spelled third.ensures.spelled means short
