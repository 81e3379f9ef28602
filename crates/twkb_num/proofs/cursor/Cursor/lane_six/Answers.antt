-- The numbers in twice three lanes are what the move passes.
use Rattle.twkb_num.proofs.Prelude.{◌<◌, ◌≤◌, ℕ, ℤ, List, [], ◌∷◌, map, take, w16, rules, subst, refl, arith, cast_signed, points_in, SpellsAllSigned}
use Rattle.twkb_num.proofs.CursorLemmas.{take-chunk}
use Rattle.twkb_num.proofs.LaneLemmas.{eight_of, six_brief}
use Rattle.twkb_num.proofs.cursor.Cursor.lane_six.Goals as goal

pub returns-then-six-lt128-clause-some : goal.returns-then-six-lt128-clause-some
returns-then-six-lt128-clause-some c is_read =
    let chunk = c.in-Some.ensures.cases in
    let six = c.narrow_six-six in
    let l = eight_of six.result.lanes (search rules) in
    let len : ℕ = six.result.len in
    let short : len < 128 = search rules in
    let few : len ≤ 32 = omega (arith, six.ensures.few short) in
    let f = cast_signed w16 in
    let zs : List ℤ = f l.0 ∷ f l.1 ∷ f l.2 ∷ f l.4 ∷ f l.5 ∷ f l.6 ∷ [] in
    let is = take-chunk c.self.inside.bytes.now c.in-Some.bytes.now c.self.inside.place 32 len chunk.same chunk.enough few in
    let all : SpellsAllSigned (take len c.in-Some.bytes.now) zs = subst (λ (ns : List ℕ). SpellsAllSigned (take len c.in-Some.bytes.now) (points_in 3 (map f ns))) l.8 (six.ensures.spelled short) in
    let lanes = c.twice_three.ensures l.0 l.1 l.2 l.3 l.4 l.5 l.6 l.7 l.8 in
    rw (← c.self.view_is) rw lanes (subst (λ bs. SpellsAllSigned bs zs) is all)

pub returns-then-six-lt128-clause-brief : goal.returns-then-six-lt128-clause-brief
returns-then-six-lt128-clause-brief c =
    let six = c.narrow_six-six in
    let l = eight_of six.result.lanes (search rules) in
    rw (c.twice_three.ensures l.0 l.1 l.2 l.3 l.4 l.5 l.6 l.7 l.8) (six_brief l.0 l.1 l.2 l.3 l.4 l.5 l.6 l.7 (rw l.8 at six.ensures.brief))

pub returns-then-six-lt128-clause-zeros : goal.returns-then-six-lt128-clause-zeros
returns-then-six-lt128-clause-zeros c =
    let six = c.narrow_six-six in
    let l = eight_of six.result.lanes (search rules) in
    rw (c.twice_three.ensures l.0 l.1 l.2 l.3 l.4 l.5 l.6 l.7 l.8) (refl, refl)
