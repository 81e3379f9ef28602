-- A difference that saturates at an end of 128 bits is less than a step exactly if the exact one is.
use Rattle.twkb_body.proofs.Prelude.{◌≡◌, ◌↔◌, ◌^◌, ◌<ℤ◌, ◌≤ℤ◌, ◌-ℤ◌, ℤ, pos, negsuc, IsTrue, arith, int_lt, ints, w128, saturate_signed}
use Rattle.std.proofs.Common.{to_z, of_z}
use Rattle.twkb_body.proofs.extent.below.Goals as goal

stays_below : (d step : ℤ) → pos 0 <ℤ step → step ≤ℤ pos (2 ^ 64) → IsTrue (int_lt (saturate_signed w128 d) step) ↔ (d <ℤ step)
stays_below (pos n) step some few = (λ h. grind (arith, ints, h, few), λ h. grind (arith, ints, h))
stays_below (negsuc n) step some few = (λ h. grind (arith, ints, some), λ h. grind (arith, ints, some))

pub returns : goal.returns
returns c =
    let a : to_z w128 (of_z w128 c.args.a) ≡ c.args.a = omega (arith, ints) in
    let b : to_z w128 (of_z w128 c.args.b) ≡ c.args.b = omega (arith, ints) in
    let step : to_z w128 (of_z w128 c.args.step) ≡ c.args.step = omega (arith, ints) in
    let result : to_z w128 (of_z w128 c.saturating_sub.result) ≡ c.saturating_sub.result = omega (arith, ints) in
    let near = rw (a, b) at c.saturating_sub.ensures in
    rw (step, result, near) (stays_below (c.args.a -ℤ c.args.b) c.args.step c.requires.some c.requires.few)
