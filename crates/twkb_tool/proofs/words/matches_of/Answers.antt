-- The matches and the refusals of `clap` are the ones that its rules define.
use Rattle.twkb_tool.proofs.Prelude.{rules}
use Rattle.twkb_tool.proofs.WordLemmas.{tool_error_kind, tool_has_no_fault, tool_rows}
use Rattle.twkb_tool.proofs.words.matches_of.Goals as goal

pub returns-in-Ok-try_get_matches_from-clause-ok : goal.returns-in-Ok-try_get_matches_from-clause-ok
returns-in-Ok-try_get_matches_from-clause-ok g c =
    tool_rows _ _ _ c.in-Ok.ensures c.in-Ok-try_get_matches_from.ensures.matches

pub returns-in-Ok-try_get_matches_from-clause-parsed : goal.returns-in-Ok-try_get_matches_from-clause-parsed
returns-in-Ok-try_get_matches_from-clause-parsed g c =
    tool_has_no_fault _ _ c.in-Ok-try_get_matches_from.matches c.in-Ok.ensures c.in-Ok-try_get_matches_from.ensures.kinds

pub returns-clause-err : goal.returns-clause-err
returns-clause-err g c =
    (search rules, tool_error_kind _ _ c.in-Err-try_get_matches_from.error c.in-Ok.ensures c.in-Err-try_get_matches_from.ensures.kinds (search rules))
