-- Joining raw ranges is joining them in units. Without Z and M, those of X and Y are all.
use Rattle.twkb_body.proofs.Prelude.{◌∙◌, in_units}
use Rattle.twkb_body.proofs.SeenRuns.{flat_joined, in_units_joined}
use Rattle.twkb_body.proofs.range.Ranges.join.Goals as goal

pub returns-then-not-is_flat : goal.returns-then-not-is_flat
returns-then-not-is_flat c =
    (λ j. in_units c.args.axes (record { x = c.join.ensures j; y = c.join-2.ensures j; third = c.join-then-not-is_flat.ensures j; fourth = c.join-then-not-is_flat-2.ensures j }))
    ∙ in_units_joined c.args.axes c.args.self.now c.args.more.now

pub returns-else-not-is_flat : goal.returns-else-not-is_flat
returns-else-not-is_flat c =
    let flat = c.if-not-is_flat.false in
    (λ j. in_units c.args.axes (record c.args.self.now { x = c.join.ensures j; y = c.join-2.ensures j }))
    ∙ flat_joined c.args.axes c.args.self.now c.args.more.now (c.is_flat.ensures.z flat) (c.is_flat.ensures.m flat)
