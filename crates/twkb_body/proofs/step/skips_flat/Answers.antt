-- Both ranges are near, and so are the zeros of the missing axes.
use Rattle.twkb_body.proofs.Prelude.{pos, subst, sym, arith, ints, IsNear, HasNearRanges}
use Rattle.twkb_body.proofs.step.skips_flat.Goals as goal

none_near : IsNear (record { minimum = pos 0; extent = pos 0 })
none_near = record { low = omega (arith, ints); high = omega (arith, ints); least = omega (arith, ints); greatest = omega (arith, ints) }

pub skips_raw-requires-clause-near : goal.skips_raw-requires-clause-near
skips_raw-requires-clause-near g c =
    subst HasNearRanges (sym c.flat-then-is_near-2.ensures) (record { x = c.is_near.ensures c.if-is_near.true; y = c.is_near-then-is_near.ensures c.if-is_near-2.true; third = none_near; fourth = none_near })
