-- The cursor moves over one byte, and counts it.
use Rattle.twkb_num.proofs.Prelude.{rules}
use Rattle.twkb_num.proofs.cursor.Cursor.byte.Goals as goal

pub returns-clause-moved : goal.returns-clause-moved
returns-clause-moved c = search rules
