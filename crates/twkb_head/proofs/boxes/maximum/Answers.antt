-- The sum of the two numbers is exact, beyond 64 bits too.
use Rattle.twkb_head.proofs.Prelude.{rules}
use Rattle.twkb_head.proofs.boxes.maximum.Goals as goal

pub returns : goal.returns
returns c = search rules
