-- The number is the varint's, by zigzag.
use Rattle.twkb_num.proofs.Prelude.{rules}
use Rattle.twkb_num.proofs.cursor.Cursor.svarint.Goals as goal

pub returns-clause-ok : goal.returns-clause-ok
returns-clause-ok c = search rules

pub returns-clause-complete : goal.returns-clause-complete
returns-clause-complete c = search rules
