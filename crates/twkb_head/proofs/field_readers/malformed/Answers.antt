-- The refusal names the fault of the number.
use Rattle.twkb_head.proofs.Prelude.{rules}
use Rattle.twkb_head.proofs.field_readers.malformed.Goals as goal

pub returns-in-Cut-clause-why : goal.returns-in-Cut-clause-why
returns-in-Cut-clause-why c = search rules
