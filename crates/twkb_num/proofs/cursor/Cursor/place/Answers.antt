-- The place is where the next byte is read.
use Rattle.twkb_num.proofs.Prelude.{rules}
use Rattle.twkb_num.proofs.cursor.Cursor.place.Goals as goal

pub returns-clause-value : goal.returns-clause-value
returns-clause-value c = search rules
