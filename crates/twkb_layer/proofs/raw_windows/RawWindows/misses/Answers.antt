-- The comparison of raw integers gives the answer of units.
use Rattle.twkb_layer.proofs.Prelude.{sym, ◌∙◌, arith, ints, raw_bounds, misses_in_z_or_m}
use Rattle.twkb_layer.proofs.RawLooks.{box_judged, or_true, or_false}
use Rattle.twkb_layer.proofs.raw_windows.RawWindows.misses.Goals as goal

pub returns-then-misses : goal.returns-then-misses
returns-then-misses c =
    let same = box_judged c.args.axes.xy c.args.self.now c.at-raw.result c.args.b.now _ c.misses.result c.at-raw.ensures c.requires.near (omega (arith, ints, c.requires.axes.0)) (rw (c.ends.ensures, c.ends-2.ensures) at c.misses.ensures) in
    c.if-misses.true ∙ sym (or_true _ _ _ (misses_in_z_or_m c.args.self.now (raw_bounds c.args.axes.xy c.args.axes.z c.args.axes.m c.args.b.now)) same c.if-misses.true)

pub returns-else-misses : goal.returns-else-misses
returns-else-misses c =
    let same = box_judged c.args.axes.xy c.args.self.now c.at-raw.result c.args.b.now _ c.misses.result c.at-raw.ensures c.requires.near (omega (arith, ints, c.requires.axes.0)) (rw (c.ends.ensures, c.ends-2.ensures) at c.misses.ensures) in
    c.misses_in_z_or_m.ensures ∙ sym (or_false _ _ _ (misses_in_z_or_m c.args.self.now (raw_bounds c.args.axes.xy c.args.axes.z c.args.axes.m c.args.b.now)) same c.if-misses.false)
