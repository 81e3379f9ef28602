-- Each end is one set bit.
use Rattle.twkb_num.proofs.Prelude.{ap, ◌∙◌, count_ones}
use Rattle.twkb_num.proofs.EndCounts.{ones_are_ends}
use Rattle.twkb_num.proofs.ends.count_of_ends.Goals as goal

pub returns : goal.returns
returns c = c.from.ensures ∙ ap count_ones c.tops_of_ends.ensures ∙ ones_are_ends c.args.bytes.now
