-- The answer is the number that the summary keeps.
use Rattle.twkb_body.proofs.Prelude.{rules}
use Rattle.twkb_body.proofs.summary.Summary.vertices.Goals as goal

pub returns : goal.returns
returns c = search rules
