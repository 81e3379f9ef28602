-- The place alone changes.
use Rattle.twkb_num.proofs.Prelude.{rules}
use Rattle.twkb_num.proofs.cursor.Cursor.go_to.Goals as goal

pub returns : goal.returns
returns c = search rules
