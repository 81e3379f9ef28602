-- How many bytes were read is the cost of the layer's scan.
use Rattle.twkb_call.proofs.Prelude.{rules}
use Rattle.twkb_call.proofs.scans.scan.Goals as goal

pub returns-clause-read : goal.returns-clause-read
returns-clause-read c = search rules
