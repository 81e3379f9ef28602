-- The header, read in two steps, is the header that the reader reads.
use Rattle.twkb_head.proofs.Prelude.{◌-◌, deepest}
use Rattle.twkb_head.proofs.HeadSteps.{head_of_rest}
use Rattle.twkb_head.proofs.read.take_head.Goals as goal

pub returns-clause-read : goal.returns-clause-read
returns-clause-read c = head_of_rest (deepest - c.args.depth) c.in_ok-first_two.first_two _ _ _ _ c.in_ok-first_two.ensures.ok c.take_fields.ensures.read
