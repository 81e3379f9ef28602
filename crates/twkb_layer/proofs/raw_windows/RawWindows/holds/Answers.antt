-- The comparison of raw integers gives the answer of units.
use Rattle.twkb_layer.proofs.Prelude.{◌≡◌, pos, ◌&&◌, not, refl, ap, sym, ◌∙◌, arith, ints, w8, vertex_at, in_bound}
use mir.Val.{to_z, of_z}
use Rattle.std.proofs.lemmas.Option.{unwrap_or-slice_get}
use Rattle.twkb_layer.proofs.RawLooks.{point_inside, flat_holds, inside_by_four}
use Rattle.twkb_layer.proofs.raw_windows.RawWindows.holds.Goals as goal

pub returns-then-misses : goal.returns-then-misses
returns-then-misses c =
    let w = c.args.self.now in
    let point = c.args.point.now in
    let v = vertex_at c.args.axes point in
    let x = unwrap_or-slice_get point 0 (pos 0) in
    let y = unwrap_or-slice_get point 1 (pos 0) in
    ap (λ m. not m && (in_bound w.z v.z && in_bound w.m v.m)) (sym c.if-misses.true)
    ∙ point_inside c.args.axes w c.at-raw.result point _ _ _ c.misses.result c.at-raw.ensures (c.if-not-is_inner.ensures refl) (c.if-not-is_inner-2.ensures refl) c.misses.ensures
    (omega (arith, ints, c.requires.0)) (omega (arith, ints, x)) (omega (arith, ints, y))

pub returns-then-is_flat : goal.returns-then-is_flat
returns-then-is_flat c =
    let w = c.args.self.now in
    let point = c.args.point.now in
    let v = vertex_at c.args.axes point in
    let x = unwrap_or-slice_get point 0 (pos 0) in
    let y = unwrap_or-slice_get point 1 (pos 0) in
    c.if-is_flat.true
    ∙ sym (flat_holds w.z w.m v.z v.m (sym (rw c.window.ensures at c.is_flat.ensures) ∙ c.if-is_flat.true))
    ∙ ap (λ m. not m && (in_bound w.z v.z && in_bound w.m v.m)) (sym c.if-misses.false)
    ∙ point_inside c.args.axes w c.at-raw.result point _ _ _ c.misses.result c.at-raw.ensures (c.if-not-is_inner.ensures refl) (c.if-not-is_inner-2.ensures refl) c.misses.ensures
    (omega (arith, ints, c.requires.0)) (omega (arith, ints, x)) (omega (arith, ints, y))

pub returns-then-not-is_inner : goal.returns-then-not-is_inner
returns-then-not-is_inner c =
    let point = c.args.point.now in
    let xy : to_z w8 (of_z w8 c.args.axes.xy) ≡ c.args.axes.xy = omega (arith, ints) in
    inside_by_four c.args.axes c.args.self.now point _ _ _ _ _ (rw xy at c.holds_in_units.ensures) (omega (arith, ints, unwrap_or-slice_get point 0 (pos 0))) (omega (arith, ints, unwrap_or-slice_get point 1 (pos 0)))
    (omega (arith, ints, unwrap_or-slice_get point 2 (pos 0))) (omega (arith, ints, unwrap_or-slice_get point 3 (pos 0)))

pub returns-else-is_flat : goal.returns-else-is_flat
returns-else-is_flat c =
    let point = c.args.point.now in
    let xy : to_z w8 (of_z w8 c.args.axes.xy) ≡ c.args.axes.xy = omega (arith, ints) in
    inside_by_four c.args.axes c.args.self.now point _ _ _ _ _ (rw xy at c.holds_in_units-else-is_flat.ensures) (omega (arith, ints, unwrap_or-slice_get point 0 (pos 0))) (omega (arith, ints, unwrap_or-slice_get point 1 (pos 0)))
    (omega (arith, ints, unwrap_or-slice_get point 2 (pos 0))) (omega (arith, ints, unwrap_or-slice_get point 3 (pos 0)))
