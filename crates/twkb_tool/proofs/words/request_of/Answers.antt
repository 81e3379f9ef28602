-- Words of a known form parse, and have the request that they name.
use Rattle.twkb_tool.proofs.Prelude.{arith, length-map}
use Rattle.twkb_tool.proofs.LineLemmas.{check_line, list_line, scan_line, tight_behind_line, tight_line}
use Rattle.twkb_tool.proofs.words.request_of.Goals as goal

pub returns-clause-check : goal.returns-clause-check
returns-clause-check g c = λ program file is h. check_line _ program file _ c.line_by_clap.ensures.parsed is h

pub returns-clause-tight : goal.returns-clause-tight
returns-clause-tight g c = λ program file is h. tight_line _ program file _ c.line_by_clap.ensures.parsed is h

pub returns-clause-tight_behind : goal.returns-clause-tight_behind
returns-clause-tight_behind g c = λ program file is h. tight_behind_line _ program file _ c.line_by_clap.ensures.parsed is h

pub returns-clause-list : goal.returns-clause-list
returns-clause-list g c = λ program file is h. list_line _ program file _ c.line_by_clap.ensures.parsed is h

pub returns-clause-scan : goal.returns-clause-scan
returns-clause-scan g c = λ program file window windows is h k.
    scan_line _ program file window windows _ c.line_by_clap.ensures.parsed is h k (rw length-map (omega arith))
