-- Two rows, one after the other, are eight numbers.
use Rattle.twkb_num.proofs.Prelude.{◌≡◌, ℕ, ◌%◌, List, ◌++◌, map, ap, ◌∙◌, arith, w16, cast_signed, zigzag_value, values}
use Rattle.twkb_num.proofs.LaneLemmas.{front_tops, first_tops, second_tops, first_piece, second_piece, flag_place, lanes_spell, narrow_values}
use Rattle.twkb_num.proofs.vectors.narrow_eight.Goals as goal

pub narrow_four-first-requires-clause-tops : goal.narrow_four-first-requires-clause-tops
narrow_four-first-requires-clause-tops c =
    let bytes = c.args.bytes.now in
    first_tops c.args.tops _ (front_tops 16 16 c.args.tops bytes _ (first_piece bytes) (omega arith) c.requires)

pub narrow_four-second-requires-clause-tops : goal.narrow_four-second-requires-clause-tops
narrow_four-second-requires-clause-tops c =
    let bytes = c.args.bytes.now in
    let len = c.narrow_four-first.result.len in
    second_tops c.args.tops c.bits_from-rest.result (len % 16) bytes _ c.requires (second_piece (len % 16) bytes) (flag_place len c.narrow_four-first.ensures.flag) c.bits_from-rest.ensures.moved

pub returns-clause-spelled : goal.returns-clause-spelled
returns-clause-spelled c short =
    let bytes = c.args.bytes.now in
    let first = c.narrow_four-first in
    let second = c.narrow_four-second in
    let ns : List ℕ = values 2 4 first.result.lanes 0 in
    let ms : List ℕ = values 2 4 second.result.lanes 0 in
    let both = c.low_halves.ensures in
    let means : map (cast_signed w16) c.meant_narrow.result ≡ map zigzag_value (ns ++ ms) = c.meant_narrow.ensures.meaning ∙ ap (map zigzag_value) (narrow_values _ _ _ both.low both.high) in
    lanes_spell bytes _ _ ns ms first.result.len second.result.len _ (first_piece bytes) (second_piece (first.result.len % 16) bytes)
    first.ensures.flag second.ensures.flag first.ensures.spelled second.ensures.spelled means short
