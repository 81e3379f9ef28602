-- How many bytes were read is the cost of a scan with the directory.
use Rattle.twkb_layer.proofs.Prelude.{rules}
use Rattle.twkb_layer.proofs.directory.Directory.scan.Goals as goal

pub returns-clause-count : goal.returns-clause-count
returns-clause-count g c = search rules
