-- Nothing is skipped.
use Rattle.twkb_body.proofs.Prelude.{rules}
use Rattle.twkb_body.proofs.summary.SummaryVisit.skips.Goals as goal

pub returns : goal.returns
returns c = search rules
