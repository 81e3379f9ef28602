-- The test decides whether the box is tight.
use Rattle.twkb_body.proofs.Prelude.{◌∙◌, ap, Bool, FitsSigned, rules, to_z-of_z, w8, false_at}
use Rattle.twkb_body.proofs.Judging.{same_as_test, tight_decides}
use Rattle.twkb_body.proofs.found.judge_tight.Goals as goal

pub returns : goal.returns
returns c =
    let precise : FitsSigned w8 c.args.head.now.xy = search rules in
    let hugs = simp to_z-of_z at c.tight-hugs.ensures in
    let w = same_as_test c.tight-hugs.result _ hugs (tight_decides c.args.head.now.xy c.args.head.now.z c.args.head.now.m c.args.field.now.bounds c.args.extent.now) in
    c.claimed.ensures ∙ ap (λ (b : Bool). false_at b c.args.field.now.offset 9) w
