-- The count is the number of bytes that were read, up to its greatest value.
use Rattle.twkb_num.proofs.Prelude.{rules}
use Rattle.twkb_num.proofs.cursor.Cursor.read_count.Goals as goal

pub returns : goal.returns
returns c = search rules
