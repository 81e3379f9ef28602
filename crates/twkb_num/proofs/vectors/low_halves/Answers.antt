-- The first halves of two vectors.
use Rattle.twkb_num.proofs.Prelude.{◌≡◌, ℕ, ◌+◌, ◌-◌, ◌<◌, List, [], ◌∷◌, ◌++◌, true, ◌&&◌, eqb, get_or, ap, ◌∙◌, refl, arith, and_parts, eqb-true, get_or-map, get_or_append_left}
use Rattle.std.proofs.lemmas.List.{get_or-append_right}
use Rattle.twkb_num.proofs.Below.{true_below}
use Rattle.twkb_num.proofs.vectors.low_halves.Goals as goal

abbrev ks : List ℕ
ks = 0 ∷ 1 ∷ 2 ∷ 3 ∷ 4 ∷ 5 ∷ 6 ∷ 7 ∷ 16 ∷ 17 ∷ 18 ∷ 19 ∷ 20 ∷ 21 ∷ 22 ∷ 23 ∷ []

places : (i : ℕ) → i < 8 → (eqb (get_or ks i 0) i && eqb (get_or ks (8 + i) 0) (16 + i)) ≡ true
places = true_below (λ i. eqb (get_or ks i 0) i && eqb (get_or ks (8 + i) 0) (16 + i)) 8 refl

pub returns-clause-low : goal.returns-clause-low
returns-clause-low c i h =
    let all : List ℕ = c.args.lo ++ c.args.hi in
    let at = eqb-true (get_or ks i 0) i (and_parts (eqb (get_or ks i 0) i) (eqb (get_or ks (8 + i) 0) (16 + i)) (places i h)).0 in
    get_or-map (λ k. get_or all k 0) ks i 0 0 (omega (arith, h)) ∙ ap (λ k. get_or all k 0) at ∙ get_or_append_left c.args.lo c.args.hi 0 i (omega (arith, h, c.fits-lo.0))

pub returns-clause-high : goal.returns-clause-high
returns-clause-high c i h =
    let all : List ℕ = c.args.lo ++ c.args.hi in
    let at = eqb-true (get_or ks (8 + i) 0) (16 + i) (and_parts (eqb (get_or ks i 0) i) (eqb (get_or ks (8 + i) 0) (16 + i)) (places i h)).1 in
    let back : 16 + i - 16 ≡ i = omega arith in
    get_or-map (λ k. get_or all k 0) ks (8 + i) 0 0 (omega (arith, h)) ∙ ap (λ k. get_or all k 0) at ∙ get_or-append_right c.args.lo c.args.hi 16 (16 + i) 0 c.fits-lo.0 (omega arith) ∙ ap (λ k. get_or c.args.hi k 0) back
