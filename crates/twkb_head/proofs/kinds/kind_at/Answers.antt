-- A kind that is answered is allowed at its depth.
use Rattle.twkb_head.proofs.Prelude.{rules}
use Rattle.twkb_head.proofs.kinds.kind_at.Goals as goal

pub returns-in-Some-clause-allowed : goal.returns-in-Some-clause-allowed
returns-in-Some-clause-allowed c = search rules
