-- X and Y, and one for each further axis.
use Rattle.twkb_head.proofs.Prelude.{rules}
use Rattle.twkb_head.proofs.header.Head.axes.Goals as goal

pub returns-clause-value : goal.returns-clause-value
returns-clause-value c = search rules
