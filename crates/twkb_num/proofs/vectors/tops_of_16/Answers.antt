-- Sixteen bytes are the front.
use Rattle.twkb_num.proofs.LaneLemmas.{tops_of_front, first_piece}
use Rattle.twkb_num.proofs.vectors.tops_of_16.Goals as goal

pub returns : goal.returns
returns c = tops_of_front 16 c.continuation_bits.result c.args.bytes.now _ (first_piece c.args.bytes.now) c.continuation_bits.ensures
