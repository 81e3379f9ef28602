-- A size is false unless it is the number of bytes after its field up to the stop.
use Rattle.twkb_body.proofs.Prelude.{rules}
use Rattle.twkb_body.proofs.found.judge_size.Goals as goal

pub returns-in-Some : goal.returns-in-Some
returns-in-Some c = search rules
