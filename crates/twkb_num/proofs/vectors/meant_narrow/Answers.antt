-- The lanes are numbers of two groups each, halved and turned.
use Rattle.twkb_num.proofs.Prelude.{ℕ, ◌*◌, ◌^◌, List, [], ◌∷◌, sym, subst, refl, arith, w16, All, and_pow, IsBrief, value_at}
use Rattle.twkb_num.proofs.LaneLaws.{lanes_mean, means_within, all_mean}
use Rattle.twkb_num.proofs.vectors.meant_narrow.Goals as goal

-- the place of each number's first byte
abbrev places : List ℕ
places = 0 ∷ 2 ∷ 4 ∷ 6 ∷ 8 ∷ 10 ∷ 12 ∷ 14 ∷ []

pub returns-clause-meaning : goal.returns-clause-meaning
returns-clause-meaning c =
    lanes_mean w16 2 2 (value_at 2 c.args.groups) (omega arith) (λ n. omega (arith, and_pow (2 * n) 1)) (λ n. omega arith) (λ i. omega arith) places _ _ c.doubled_numbers-twice.ensures refl

pub returns-clause-brief : goal.returns-clause-brief
returns-clause-brief c =
    let number = value_at 2 c.args.groups in
    subst (All IsBrief) (sym (returns-clause-meaning c)) (all_mean IsBrief number (λ i. means_within (2 ^ 13) (number i) (omega arith)) places)
