-- A masked place picks the byte that the place picks, or zero.
use Rattle.twkb_num.proofs.Prelude.{List, map, get_or, cond, leb, eqb, ◌*◌, ◌/◌, ◌%◌, ap, ◌∙◌, sym, inl, inr, ◌≡◌, ℕ, ◌+◌, ◌<◌, ◌≤◌, ◌||◌, ◌&&◌, true, T, ltb, length, replicate, refl, arith, w8, cases_Bool, leb-true, eqb-true, le-ltb, cond-true, cond-false, and_parts, length-map, get_or-map, Each1-zip2, Each1-weaker, Each2-splat, SwzOk-from_Each1, length-zip2, below_from_Fits, Each1-get_or, zip2_splat, swz_l, get_or-swz_l, zeroes}
use Rattle.std.proofs.Common.{bit_and}
use Rattle.twkb_num.proofs.Below.{every_below, true_below}
use Rattle.twkb_num.proofs.vectors.picked.Goals as goal

pub swizzle : goal.swizzle
swizzle c =
    let v = c.args.places in
    let small = Each1-weaker (λ a. a < 256) (λ a. T (zeroes 16 w8 (bit_and a 143) || ltb (bit_and a 143) 16))
    (λ a h. every_below (λ a. zeroes 16 w8 (bit_and a 143) || ltb (bit_and a 143) 16) 256 tt a h) v (below_from_Fits w8 v c.fits-places.1) in
    SwzOk-from_Each1 w8 16 1 16 0 _ refl (omega (arith, length-zip2 bit_and v (replicate 16 143) c.fits-places.0))
    (Each1-zip2 bit_and (λ j. T (zeroes 16 w8 j || ltb j 16)) v (replicate 16 143) (Each2-splat (λ a b. T (zeroes 16 w8 (bit_and a b) || ltb (bit_and a b) 16)) v 16 143 small))

-- a place that is masked: below 128 it is the place modulo 16, and from 128 on it stays at least 128
place_law : (p : ℕ) → p < 256 → (cond (leb 128 (bit_and p 143)) (leb 128 p) (ltb p 128 && eqb (bit_and p 143) (p % 16))) ≡ true
place_law = true_below (λ p. cond (leb 128 (bit_and p 143)) (leb 128 p) (ltb p 128 && eqb (bit_and p 143) (p % 16))) 256 refl

pub returns : goal.returns
returns c i h =
    let v = c.args.v in
    let ps = c.args.places in
    let p : ℕ = get_or ps i 0 in
    let there : i < length ps = omega (arith, h, c.fits-places.0) in
    let below = Each1-get_or (λ x. x < 256) ps i 0 there (below_from_Fits w8 ps c.fits-places.1) in
    let splat = zip2_splat bit_and ps 16 143 c.fits-places.0 in
    let js : List ℕ = map (λ x. bit_and x 143) ps in
    let many : length js ≡ 16 = length-map ps (λ x. bit_and x 143) ∙ c.fits-places.0 in
    let j : get_or js i 0 ≡ bit_and p 143 = get_or-map (λ x. bit_and x 143) ps i 0 0 there in
    let law = place_law p below in
    ap (λ l. get_or (swz_l w8 16 v 0 l) i 0) splat ∙ get_or-swz_l w8 16 v 0 js i (omega (arith, h, many)) ∙
    ap (λ x. cond (zeroes 16 w8 x) 0 (get_or v (16 * ((0 + i) / 16) + x) 0)) j ∙
    elim (cases_Bool (leb 128 (bit_and p 143))) [
      | inl high ↦
          let far : 128 ≤ p = leb-true 128 p (sym (cond-true (leb 128 (bit_and p 143)) _ _ high) ∙ law) in
          cond-true (leb 128 (bit_and p 143)) _ _ high ∙ sym (cond-false (ltb p 128) _ _ (le-ltb p 128 far))
      | inr low ↦
          let parts = and_parts (ltb p 128) (eqb (bit_and p 143) (p % 16)) (sym (cond-false (leb 128 (bit_and p 143)) _ _ low) ∙ law) in
          let at : 16 * ((0 + i) / 16) + bit_and p 143 ≡ p % 16 = omega (arith, h, eqb-true (bit_and p 143) (p % 16) parts.1) in
          cond-false (leb 128 (bit_and p 143)) _ _ low ∙ ap (λ k. get_or v k 0) at ∙ sym (cond-true (ltb p 128) _ _ parts.0)
    ]
