-- The code names the claim that the definition names first: a box that doesn't hold a vertex, then a loose box.
use Rattle.twkb_body.proofs.Prelude.{◌≡◌, ◌∙◌, ap, ap₂, Bool, Option, Some, None, refl, Refused, false_at, first, named, FalseClaim}
use Rattle.std.specs.Option.{option_or}
use Rattle.twkb_body.proofs.Judging.{same_as_test, within_decides}
use Rattle.twkb_body.proofs.found.judge_box.Goals as goal

named_or : (a b : Option FalseClaim) → named (option_or a b) ≡ first (named a) (named b)
named_or None b = refl
named_or (Some f) b = refl

alone : (a : Refused) → a ≡ first a None
alone None = refl
alone (Some at) = refl

pub returns-then-tight : goal.returns-then-tight
returns-then-tight c =
    let w = same_as_test c.within.result _ c.within.ensures (within_decides c.args.extent.now c.in-Some.field.bounds) in
    let outside = c.claimed-outside.ensures ∙ ap (λ (b : Bool). false_at b c.in-Some.field.offset 7) w in
    rw (c.in-Some.is, c.if-tight.true) (ap named c.or.ensures ∙ named_or _ _ ∙ ap₂ first outside c.judge_tight.ensures)

pub returns-else-tight : goal.returns-else-tight
returns-else-tight c =
    let w = same_as_test c.within.result _ c.within.ensures (within_decides c.args.extent.now c.in-Some.field.bounds) in
    let outside = c.claimed-outside.ensures ∙ ap (λ (b : Bool). false_at b c.in-Some.field.offset 7) w in
    rw (c.in-Some.is, c.if-tight.false) (outside ∙ alone _)
