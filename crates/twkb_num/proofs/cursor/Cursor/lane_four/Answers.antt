-- The numbers in the lanes are what the move passes.
use Rattle.twkb_num.proofs.Prelude.{List, ℕ, ◌<◌, ◌≤◌, map, subst, w32, rules, arith, cast_signed, SpellsAllSigned}
use Rattle.std.specs.Prelude.{ℤ}
use Rattle.twkb_num.proofs.CursorLemmas.{take-chunk}
use Rattle.twkb_num.proofs.cursor.Cursor.lane_four.Goals as goal

pub returns-then-four-lt128-clause-some : goal.returns-then-four-lt128-clause-some
returns-then-four-lt128-clause-some c is_read =
    let chunk = c.in-Some.ensures.cases in
    let four = c.wide_four-four in
    let len : ℕ = four.result.len in
    let short : len < 128 = search rules in
    let few : len ≤ 32 = omega (arith, four.ensures.few short) in
    let zs : List ℤ = map (cast_signed w32) four.result.lanes in
    let is = take-chunk c.self.inside.bytes.now c.in-Some.bytes.now c.self.inside.place 32 len chunk.same chunk.enough few in
    rw (← c.self.view_is) (subst (λ bs. SpellsAllSigned bs zs) is (four.ensures.spelled short))
