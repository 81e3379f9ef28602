-- The lesser of the least and the greater of the greatest.
use Rattle.twkb_body.proofs.Prelude.{◌≡◌, arith, ap₂, ◌∙◌, ints, clamps, int_min, int_max, to_z, of_z, joined, range_view}
use Rattle.std.proofs.Common.{w64}
use Rattle.twkb_body.proofs.RangeEnds.{joined_ends, joined_views}
use Rattle.twkb_body.proofs.range.Range.join.Goals as goal

pub invariant_of-self : goal.invariant_of-self
invariant_of-self c =
    let low : to_z w64 (of_z w64 c.min-self-inside.result) ≡ int_min c.self.inside.least c.more.inside.least = omega (arith, ints, clamps, c.min-self-inside.ensures.value) in
    let high : to_z w64 (of_z w64 c.max-self-inside.result) ≡ int_max c.self.inside.greatest c.more.inside.greatest = omega (arith, ints, clamps, c.max-self-inside.ensures.value) in
    rw (low, high) (joined_ends c.self.inside c.more.inside c.self.invariant c.more.invariant (record { least = omega (arith, ints); greatest = omega (arith, ints) }) (record { least = omega (arith, ints); greatest = omega (arith, ints) }))

pub returns : goal.returns
returns c =
    let low : to_z w64 (of_z w64 c.min-self-inside.result) ≡ int_min c.self.inside.least c.more.inside.least = omega (arith, ints, clamps, c.min-self-inside.ensures.value) in
    let high : to_z w64 (of_z w64 c.max-self-inside.result) ≡ int_max c.self.inside.greatest c.more.inside.greatest = omega (arith, ints, clamps, c.max-self-inside.ensures.value) in
    (λ j. range_view (record { least = low j; greatest = high j })) ∙ joined_views c.self.inside c.more.inside c.self.invariant c.more.invariant (record { least = omega (arith, ints); greatest = omega (arith, ints) }) (record { least = omega (arith, ints); greatest = omega (arith, ints) }) ∙ ap₂ joined c.self.view_is c.more.view_is
