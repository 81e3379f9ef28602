-- The kinds after the polygon have a list of members, collections among them.
use Rattle.twkb_head.proofs.Prelude.{rules}
use Rattle.twkb_head.proofs.kinds.Kind.is_multi.Goals as goal

pub returns : goal.returns
returns c = search rules
