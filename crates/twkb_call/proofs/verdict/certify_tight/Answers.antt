-- The verdict says what `certify_tight_with` answers: its yes is tight, and a tight layer wants at most memory.
use Rattle.twkb_call.proofs.Prelude.{List, subst, sym, Geometry}
use Rattle.twkb_body.specs.Tight.{IsTightlyTrue}
use Rattle.twkb_layer.specs.Tight.{IsTightLayer}
use Rattle.twkb_call.proofs.Verdicts.{bytes_of_new, says_yes, says_no, says_memory}
use Rattle.twkb_call.proofs.verdict.certify_tight.Goals as goal

pub returns-in-Ok-clause-says : goal.returns-in-Ok-clause-says
returns-in-Ok-clause-says g c =
    says_yes IsTightlyTrue _ c.new.result _ _ c.certified.ensures.yes c.certified.ensures.counted c.in-Ok.ensures.bytes c.new.ensures

pub returns-in-Ok-clause-tight : goal.returns-in-Ok-clause-tight
returns-in-Ok-clause-tight g c = λ zero.
    subst (λ bytes. (trees : List Geometry) × IsTightLayer trees bytes) (bytes_of_new c.new.result _ c.new.ensures) c.in-Ok.ensures.certified

pub returns-in-Err-clause-says : goal.returns-in-Err-clause-says
returns-in-Err-clause-says g c =
    says_no IsTightlyTrue _ c.new.result _ c.in-Err.refusal c.refused.ensures c.in-Err.ensures.refused c.new.ensures

pub returns-in-Err-clause-complete : goal.returns-in-Err-clause-complete
returns-in-Err-clause-complete g c = λ trees layer.
    let whole = subst (λ bytes. IsTightLayer trees bytes) (sym (bytes_of_new c.new.result _ c.new.ensures)) layer in
    says_memory _ c.in-Err.refusal c.refused.ensures (c.in-Err.ensures.complete trees whole)
