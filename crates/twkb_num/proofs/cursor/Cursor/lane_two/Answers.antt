-- The numbers in the first two lanes are what the move passes.
use Rattle.twkb_num.proofs.Prelude.{◌<◌, ◌≤◌, ℕ, ℤ, List, [], ◌∷◌, map, take, w32, rules, subst, refl, arith, cast_signed, SpellsAllSigned}
use Rattle.twkb_num.proofs.CursorLemmas.{take-chunk}
use Rattle.twkb_num.proofs.LaneLemmas.{four_of, two_short}
use Rattle.twkb_num.proofs.cursor.Cursor.lane_two.Goals as goal

pub returns-then-both-lt128-clause-some : goal.returns-then-both-lt128-clause-some
returns-then-both-lt128-clause-some c is_read =
    let chunk = c.in-Some.ensures.cases in
    let both = c.wide_pair-both in
    let four = four_of both.result.lanes (search rules) in
    let len : ℕ = both.result.len in
    let short : len < 128 = search rules in
    let few : len ≤ 16 = omega (arith, both.ensures.few short) in
    let zs : List ℤ = cast_signed w32 four.0 ∷ cast_signed w32 four.1 ∷ [] in
    let is = take-chunk c.self.inside.bytes.now c.in-Some.bytes.now c.self.inside.place 16 len chunk.same chunk.enough few in
    let all : SpellsAllSigned (take len c.in-Some.bytes.now) zs = subst (λ (l : List ℕ). SpellsAllSigned (take len c.in-Some.bytes.now) (take 2 (map (cast_signed w32) l))) four.4 (both.ensures.spelled short) in
    let two = c.first_two.ensures four.0 four.1 four.2 four.3 four.4 in
    rw (← c.self.view_is) rw two (subst (λ bs. SpellsAllSigned bs zs) is all)

pub returns-then-both-lt128-clause-short : goal.returns-then-both-lt128-clause-short
returns-then-both-lt128-clause-short c =
    let both = c.wide_pair-both in
    let four = four_of both.result.lanes (search rules) in
    rw (c.first_two.ensures four.0 four.1 four.2 four.3 four.4) (two_short four.0 four.1 four.2 four.3 (rw four.4 at both.ensures.short))

pub returns-then-both-lt128-clause-zeros : goal.returns-then-both-lt128-clause-zeros
returns-then-both-lt128-clause-zeros c =
    let both = c.wide_pair-both in
    let four = four_of both.result.lanes (search rules) in
    rw (c.first_two.ensures four.0 four.1 four.2 four.3 four.4) refl
