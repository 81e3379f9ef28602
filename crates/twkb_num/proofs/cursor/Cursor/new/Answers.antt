-- At the start of the bytes, with none counted.
use Rattle.twkb_num.proofs.Prelude.{rules}
use Rattle.twkb_num.proofs.cursor.Cursor.new.Goals as goal

pub returns : goal.returns
returns c = search rules
