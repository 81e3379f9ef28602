-- The four coordinates are the point's.
use Rattle.twkb_layer.proofs.Prelude.{◌≡◌, ℤ, [], ◌∷◌, ap, ◌∙◌, arith, ints, w8, w64, vertex_at, is_inside}
use mir.Val.{to_z, of_z}
use Rattle.twkb_layer.proofs.raw_windows.RawWindows.holds_in_units.Goals as goal

pub returns : goal.returns
returns c =
    let bits : ℤ → ℤ = λ n. to_z w64 (of_z w64 n) in
    let x : bits c.args.x ≡ c.args.x = omega (arith, ints) in
    let y : bits c.args.y ≡ c.args.y = omega (arith, ints) in
    let third : bits c.args.third ≡ c.args.third = omega (arith, ints) in
    let fourth : bits c.args.fourth ≡ c.args.fourth = omega (arith, ints) in
    let xy : to_z w8 (of_z w8 c.args.xy) ≡ c.args.xy = omega (arith, ints) in
    rw c.window.ensures at c.inside.ensures ∙ ap (is_inside c.args.self.now) (c.vertex_at.ensures ∙ (λ j. vertex_at (record { xy = xy j; z = c.args.z; m = c.args.m }) (x j ∷ y j ∷ third j ∷ fourth j ∷ [])))
