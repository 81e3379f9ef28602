-- The high half of the byte, by zigzag: from -8 to 7.
use Rattle.twkb_head.proofs.Prelude.{rules}
use Rattle.twkb_head.proofs.bits.precision_of.Goals as goal

pub returns-clause-value : goal.returns-clause-value
returns-clause-value c = search rules

pub returns-clause-range : goal.returns-clause-range
returns-clause-range c = search rules
