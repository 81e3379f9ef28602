-- The code's limit is the definition's.
use Rattle.twkb_head.proofs.Prelude.{rules}
use Rattle.twkb_head.proofs.laws.deepest_level_is_the_limit.Goals as goal

pub returns : goal.returns
returns c = search rules
