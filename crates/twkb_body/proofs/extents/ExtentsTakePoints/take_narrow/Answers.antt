-- The lanes are seen as the numbers of whole points, four and then four.
use Rattle.twkb_body.proofs.Prelude.{rules, ℕ, ℤ, List, [], ◌∷◌, refl, sym, subst, w16, All, IsBrief, TakesOn, points_in, Took, Sees}
use Rattle.twkb_body.proofs.QuadReads.{eight_of}
use Rattle.twkb_body.proofs.ExtentSteps.{took_more, eight_seen, with_lanes}
use Rattle.twkb_body.proofs.extents.ExtentsTakePoints.take_narrow.Goals as goal

pub returns : goal.returns
returns k c =
    let (a, b, c', d, e, f, g, h, means) = eight_of w16 c.args.numbers (search rules) in
    let brief = subst (All IsBrief) means c.requires.brief in
    let steps = c.narrow_steps_of.ensures a b c' d e f g h means in
    let first = subst (λ (more : List ℕ). Sees k.row.AXES more c.args.self.now.lanes c.see.result) steps.0 c.see.ensures in
    let second = subst (λ (more : List ℕ). Sees k.row.AXES more c.see.result c.see-self.result) steps.1 c.see-self.ensures in
    let new = with_lanes c.args.self.now c.see-self.result in
    let room = c.requires.room in
    subst (λ (zs : List ℤ). TakesOn (Took k.row.AXES) k.row.AXES 0 c.args.self.now (points_in k.row.AXES zs) new) (sym means) (took_more k.row.AXES (points_in k.row.AXES (a ∷ b ∷ c' ∷ d ∷ e ∷ f ∷ g ∷ h ∷ [])) c.args.self.now new refl (λ held stays.
    eight_seen k.row.AXES c.requires.axes a b c' d e f g h c.args.self.now c.see.result c.see-self.result brief first second held room.0 (room.1 (λ i few. (held.each i few).last))))
