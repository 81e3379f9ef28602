-- The step that is compared with is the step of the precision.
use Rattle.twkb_body.proofs.Prelude.{◌≡◌, sym, arith, ints, w8, w128}
use Rattle.std.proofs.Common.{to_z, of_z}
use Rattle.twkb_body.proofs.extent.hugs.Goals as goal

pub returns-in-Some : goal.returns-in-Some
returns-in-Some c =
    let step : to_z w128 (of_z w128 c.step_of-step.result) ≡ c.step_of-step.result = omega (arith, ints) in
    let precision : to_z w8 (of_z w8 c.args.precision) ≡ c.args.precision = omega (arith, ints) in
    rw (c.in-Some.is, sym (rw precision at c.step_of-step.ensures.is)) (rw step at c.hugs_seen.ensures)
