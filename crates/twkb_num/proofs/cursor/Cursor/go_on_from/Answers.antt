-- The cursor's reading is unchanged.
use Rattle.twkb_num.proofs.Prelude.{rules}
use Rattle.twkb_num.proofs.cursor.Cursor.go_on_from.Goals as goal

pub invariant_of-self : goal.invariant_of-self
invariant_of-self c = search rules

pub returns : goal.returns
returns c = search rules
