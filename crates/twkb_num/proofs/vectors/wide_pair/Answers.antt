-- One row is two numbers.
use Rattle.twkb_num.proofs.Prelude.{refl}
use Rattle.twkb_num.proofs.LaneLemmas.{first_tops, pair_spelled}
use Rattle.twkb_num.proofs.vectors.wide_pair.Goals as goal

pub wide_two-both-requires-clause-tops : goal.wide_two-both-requires-clause-tops
wide_two-both-requires-clause-tops c = first_tops c.continuation_bits.result _ c.continuation_bits.ensures

pub returns-clause-spelled : goal.returns-clause-spelled
returns-clause-spelled c short =
    pair_spelled c.args.bytes.now _ c.wide_two-both.result.lanes _ _ refl c.wide_two-both.ensures.flag short (c.wide_two-both.ensures.spelled short) c.meant_wide.ensures.meaning
