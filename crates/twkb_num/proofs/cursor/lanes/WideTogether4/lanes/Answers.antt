-- All four lanes are the numbers.
use Rattle.twkb_num.proofs.Prelude.{◌≡◌, ℤ, List, length, map, take, w32, subst, sym, rules, arith, cast_signed, take_all, length-map, passed, SpellsAllSigned}
use Rattle.twkb_num.proofs.cursor.lanes.WideTogether4.lanes.Goals as goal

pub returns-clause-some : goal.returns-clause-some
returns-clause-some c =
    let zs : List ℤ = map (cast_signed w32) c.lane_four.result.lanes in
    let four : length zs ≡ 4 = search (rules, length-map) in
    let all : take 4 zs ≡ zs = take_all 4 zs (omega (arith, four)) in
    λ read. subst (SpellsAllSigned (passed c.args.cursor.now c.lane_four.new.self)) (sym all) (c.lane_four.ensures.some read)
