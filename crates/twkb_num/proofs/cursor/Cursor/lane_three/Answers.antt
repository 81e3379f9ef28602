-- The numbers in the first three lanes are what the move passes.
use Rattle.twkb_num.proofs.Prelude.{◌<◌, ◌≤◌, ℕ, ℤ, List, [], ◌∷◌, map, take, w32, rules, subst, refl, arith, cast_signed, SpellsAllSigned}
use Rattle.twkb_num.proofs.CursorLemmas.{take-chunk}
use Rattle.twkb_num.proofs.LaneLemmas.{four_of, three_short}
use Rattle.twkb_num.proofs.cursor.Cursor.lane_three.Goals as goal

pub returns-then-three-lt128-clause-some : goal.returns-then-three-lt128-clause-some
returns-then-three-lt128-clause-some c is_read =
    let chunk = c.in-Some.ensures.cases in
    let three = c.wide_three-three in
    let four = four_of three.result.lanes (search rules) in
    let len : ℕ = three.result.len in
    let short : len < 128 = search rules in
    let few : len ≤ 32 = omega (arith, three.ensures.few short) in
    let zs : List ℤ = cast_signed w32 four.0 ∷ cast_signed w32 four.1 ∷ cast_signed w32 four.2 ∷ [] in
    let is = take-chunk c.self.inside.bytes.now c.in-Some.bytes.now c.self.inside.place 32 len chunk.same chunk.enough few in
    let all : SpellsAllSigned (take len c.in-Some.bytes.now) zs = subst (λ (l : List ℕ). SpellsAllSigned (take len c.in-Some.bytes.now) (take 3 (map (cast_signed w32) l))) four.4 (three.ensures.spelled short) in
    let lanes = c.first_three.ensures four.0 four.1 four.2 four.3 four.4 in
    rw (← c.self.view_is) rw lanes (subst (λ bs. SpellsAllSigned bs zs) is all)

pub returns-then-three-lt128-clause-short : goal.returns-then-three-lt128-clause-short
returns-then-three-lt128-clause-short c =
    let three = c.wide_three-three in
    let four = four_of three.result.lanes (search rules) in
    rw (c.first_three.ensures four.0 four.1 four.2 four.3 four.4) (three_short four.0 four.1 four.2 four.3 (rw four.4 at three.ensures.short))

pub returns-then-three-lt128-clause-zeros : goal.returns-then-three-lt128-clause-zeros
returns-then-three-lt128-clause-zeros c =
    let three = c.wide_three-three in
    let four = four_of three.result.lanes (search rules) in
    rw (c.first_three.ensures four.0 four.1 four.2 four.3 four.4) refl
