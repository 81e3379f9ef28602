-- The answer and the room are those of the layer's list.
use Rattle.twkb_call.proofs.Prelude.{rules}
use Rattle.twkb_call.proofs.rows.list.Goals as goal

pub returns-clause-answer : goal.returns-clause-answer
returns-clause-answer c = search rules

pub returns-clause-room : goal.returns-clause-room
returns-clause-room c = search rules
