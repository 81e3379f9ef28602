-- The length is the number of the bytes.
use Rattle.twkb_num.proofs.Prelude.{rules}
use Rattle.twkb_num.proofs.cursor.Cursor.len.Goals as goal

pub returns : goal.returns
returns c = search rules
