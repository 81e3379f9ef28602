-- The verdict says what `certify_with` answers.
use Rattle.twkb_call.proofs.Prelude.{IsTrueClaim}
use Rattle.twkb_call.proofs.Verdicts.{says_yes, says_no}
use Rattle.twkb_call.proofs.verdict.certify.Goals as goal

pub returns-in-Ok-clause-says : goal.returns-in-Ok-clause-says
returns-in-Ok-clause-says g c =
    says_yes IsTrueClaim _ c.new.result _ _ c.certified.ensures.yes c.certified.ensures.counted c.in-Ok.ensures.bytes c.new.ensures

pub returns-in-Err-clause-says : goal.returns-in-Err-clause-says
returns-in-Err-clause-says g c =
    says_no IsTrueClaim _ c.new.result _ c.in-Err.refusal c.refused.ensures c.in-Err.ensures.refused c.new.ensures
