-- How many bytes were read is the cost of a scan with the directory.
use Rattle.twkb_call.proofs.Prelude.{rules}
use Rattle.twkb_call.proofs.directory.scan_directory.Goals as goal

pub returns-clause-read : goal.returns-clause-read
returns-clause-read c = search rules
