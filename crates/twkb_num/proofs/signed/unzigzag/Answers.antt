-- An odd number means a negative one.
use Rattle.twkb_num.proofs.Prelude.{rules}
use Rattle.twkb_num.proofs.signed.unzigzag.Goals as goal

pub returns-else-number-eq0 : goal.returns-else-number-eq0
returns-else-number-eq0 c = search rules
