-- The n-th end of a word is found by its tops.
use Rattle.twkb_num.proofs.NthEnds.{nth_end}
use Rattle.twkb_num.proofs.ends.end_of.Goals as goal

pub returns : goal.returns
returns c = rw c.counts_of_ends.ensures (nth_end c.args.bytes.now c.args.n c.requires.some c.requires.there)
