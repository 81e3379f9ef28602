-- M comes after Z if there is a Z.
use Rattle.twkb_head.proofs.Prelude.{rules}
use Rattle.twkb_head.proofs.raw.Axes.m_axis.Goals as goal

pub returns-clause-value : goal.returns-clause-value
returns-clause-value c = search rules
