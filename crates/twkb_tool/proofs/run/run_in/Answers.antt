-- By its answer, a run has read and put everything, or it stopped while reading or writing.
use Rattle.twkb_tool.proofs.Prelude.{rules}
use Rattle.twkb_tool.proofs.run.run_in.Goals as goal

pub returns-in_err-bytes : goal.returns-in_err-bytes
returns-in_err-bytes g c = search rules

pub returns-in-Err : goal.returns-in-Err
returns-in-Err g c = search rules

pub returns-in_err-put_all : goal.returns-in_err-put_all
returns-in_err-put_all g c = search rules

pub returns : goal.returns
returns g c = search rules
