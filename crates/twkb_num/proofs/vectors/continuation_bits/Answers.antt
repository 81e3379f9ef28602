-- Bit i of the mask is the top bit of lane i.
use Rattle.twkb_num.proofs.Prelude.{◌≡◌, ℕ, ◌/◌, ◌%◌, ◌<◌, ◌^◌, List, Bool, false, map, length, replicate, get_or, cond, leb, ap, ◌∙◌, arith, w8, inl, inr, cases_lt, lt-leb, le-leb, cond-true, cond-false, length-map, get_or-map, tops_compared, zip2_splat_left, mask_l-mod, bit_mask_l, Each1-get_or, below_from_Fits, mask_l}
use Rattle.twkb_num.proofs.vectors.continuation_bits.Goals as goal

pub returns : goal.returns
returns c i h =
    let v = c.args.v in
    let ms : List Bool = map (λ x. leb 128 x) v in
    let is = tops_compared w8 leb (replicate 16 128) v ∙ zip2_splat_left leb 128 16 v c.fits-v.0 in
    let many : length ms ≡ 16 = length-map v (λ x. leb 128 x) ∙ c.fits-v.0 in
    let value = ap (λ l. mask_l l % 18446744073709551616 % 65536) is ∙ ap (λ x. x % 65536) (mask_l-mod ms 64 (omega (arith, many))) ∙ mask_l-mod ms 16 (omega (arith, many)) in
    let b : ℕ = get_or v i 0 in
    let there : i < length v = omega (arith, h, c.fits-v.0) in
    let below = Each1-get_or (λ x. x < 256) v i 0 there (below_from_Fits w8 v c.fits-v.1) in
    let lane : get_or ms i false ≡ leb 128 b = get_or-map (λ x. leb 128 x) v i 0 false there in
    ap (λ x. x / 2 ^ i % 2) value ∙ bit_mask_l ms i ∙ ap (λ t. cond t 1 0) lane ∙
    elim (cases_lt b 128) [
      | inl low ↦ cond-false (leb 128 b) 1 0 (lt-leb 128 b low) ∙ omega (arith, low)
      | inr high ↦ cond-true (leb 128 b) 1 0 (le-leb 128 b high) ∙ omega (arith, high, below)
    ]
