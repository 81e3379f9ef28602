-- No vertex has been shown.
use Rattle.twkb_body.proofs.Prelude.{rules}
use Rattle.twkb_body.proofs.summary.Summary.new.Goals as goal

pub returns : goal.returns
returns c = search rules
