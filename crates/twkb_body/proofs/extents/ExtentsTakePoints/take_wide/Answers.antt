-- The lanes are seen as the numbers of whole points.
use Rattle.twkb_body.proofs.Prelude.{rules, ℕ, ℤ, List, [], ◌∷◌, take, refl, sym, subst, w32, All, IsShort, TakesOn, Took, Sees}
use Rattle.twkb_body.proofs.QuadReads.{four_of}
use Rattle.twkb_body.proofs.ExtentSteps.{took_more, wide_seen, with_lanes, zeros_mean}
use Rattle.twkb_body.proofs.extents.ExtentsTakePoints.take_wide.Goals as goal

pub returns : goal.returns
returns g c =
    let (a, b, c', d, means) = four_of w32 c.args.numbers (search rules) in
    let short = subst (All IsShort) means c.requires.short in
    let zeros = zeros_mean c.args._many c.args.numbers (a ∷ b ∷ c' ∷ d ∷ []) means c.requires.zeros in
    let step = c.steps_of.ensures a b c' d means in
    let sees = subst (λ (more : List ℕ). Sees g.row.AXES more c.args.self.now.lanes c.see-self.result) step c.see-self.ensures in
    let new = with_lanes c.args.self.now c.see-self.result in
    let room = c.requires.room in
    subst (λ (zs : List ℤ). TakesOn (Took g.row.AXES) g.row.AXES 0 c.args.self.now (take c.args._many zs) new) (sym means) (took_more g.row.AXES (take c.args._many (a ∷ b ∷ c' ∷ d ∷ [])) c.args.self.now new refl (λ held stays.
    wide_seen g.row.AXES c.args._many c.requires.axes c.requires.whole a b c' d c.args.self.now c.see-self.result short zeros sees held room.0 (room.1 (λ i few. (held.each i few).last))))
