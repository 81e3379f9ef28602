-- The lanes are numbers of four groups each, halved and turned.
use Rattle.twkb_num.proofs.Prelude.{ℕ, ◌*◌, ◌^◌, List, [], ◌∷◌, sym, subst, refl, arith, w32, All, and_pow, IsShort, value_at}
use Rattle.twkb_num.proofs.LaneLaws.{joined_lanes, lanes_mean, all_mean, means_within}
use Rattle.twkb_num.proofs.vectors.meant_wide.Goals as goal

-- the place of each number's first byte
abbrev places : List ℕ
places = 0 ∷ 4 ∷ 8 ∷ 12 ∷ []

pub returns-clause-meaning : goal.returns-clause-meaning
returns-clause-meaning c =
    let groups = c.args.groups in
    let joined = joined_lanes groups c.doubled_numbers.result c.doubled_numbers.ensures in
    lanes_mean w32 4 3 (value_at 4 groups) (omega arith) (λ n. omega (arith, and_pow (4 * n) 2)) (λ n. omega arith) (λ i. omega arith) places _ _ joined refl

pub returns-clause-short : goal.returns-clause-short
returns-clause-short c =
    let number = value_at 4 c.args.groups in
    subst (All IsShort) (sym (returns-clause-meaning c)) (all_mean IsShort number (λ i. means_within (2 ^ 27) (number i) (omega arith)) places)
