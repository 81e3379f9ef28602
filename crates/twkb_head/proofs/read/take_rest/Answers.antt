-- The rest of a begun header makes the whole header, or a refusal.
use Rattle.twkb_head.proofs.Rests.{rest_reads}
use Rattle.twkb_head.proofs.read.take_rest.Goals as goal

pub returns-clause-read : goal.returns-clause-read
returns-clause-read g c = λ depth before sound begins. (rest_reads c.args.begun depth before c.args.cursor.now c.take_fields.new.cursor sound begins c.take_fields.result c.take_fields.ensures.read).0

pub returns-clause-exact : goal.returns-clause-exact
returns-clause-exact g c = λ depth before sound begins. (rest_reads c.args.begun depth before c.args.cursor.now c.take_fields.new.cursor sound begins c.take_fields.result c.take_fields.ensures.read).1
