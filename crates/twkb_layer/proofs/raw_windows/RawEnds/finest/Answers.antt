-- At the finest precision a step is a unit.
use Rattle.twkb_layer.proofs.Prelude.{to_z, of_z, rules, w64}
use Rattle.twkb_layer.proofs.RawWindows.{short_is, finest_ends}
use Rattle.twkb_layer.proofs.raw_windows.RawEnds.finest.Goals as goal

pub returns-in-Ok-Ok : goal.returns-in-Ok-Ok
returns-in-Ok-Ok c =
    let lo = c.args.range.now.lo in
    let hi = c.args.range.now.hi in
    finest_ends c.args.range.now (record { least = to_z w64 (of_z w64 c.in-Ok-Ok.least); greatest = to_z w64 (of_z w64 c.in-Ok-Ok.greatest) })
    (short_is lo c.in-Ok-Ok.least (search rules) c.in-Ok-Ok.ensures.0 c.in-Ok-Ok.ensures.1)
    (short_is hi c.in-Ok-Ok.greatest (search rules) c.in-Ok-Ok.ensures'.0 c.in-Ok-Ok.ensures'.1)
