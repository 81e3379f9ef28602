-- Sums in lanes, in two's complement.
use Rattle.twkb_body.proofs.Prelude.{◌≡◌, ℕ, ◌%◌, List, [], ◌∷◌, map, ℤ, pos, negsuc, neg_ℤ, ◌+ℤ◌, ◌≤ℤ◌, ◌<ℤ◌, inl, inr, refl, sym, ap, ap₂, ◌∙◌, arith, Fits, w32, Bool, true, false, nat_eq, length, slice_index, ints, of_z-to_z, cast_signed, cast_unsigned, Width, ◌⊎◌, Each1, mask_l}
use Rattle.std.proofs.Common.{◌&&◌}

four_fits : (w : Width) (d : List ℕ) → Each1 (Fits w) d → map (cast_unsigned w) (map (cast_signed w) d) ≡ d
four_fits w [] fits = refl
four_fits w (n ∷ d) fits = ap₂ (λ (m : ℕ) (ms : List ℕ). m ∷ ms) (of_z-to_z w n fits.0.fits) (four_fits w d fits.1)

-- lanes are the two's complement of their signed numbers
pub lanes_are : (w : Width) (d : List ℕ) (zs : List ℤ) → Each1 (Fits w) d → map (cast_signed w) d ≡ zs → d ≡ map (cast_unsigned w) zs
lanes_are w d zs fits e = sym (four_fits w d fits) ∙ ap (map (cast_unsigned w)) e

-- a lane of 32 bits holds a distance, or one that wraps around
pub wrapped : (z : ℤ) → neg_ℤ (pos 4294967296) ≤ℤ z → ((pos 0 ≤ℤ z) × (pos (cast_unsigned w32 z) ≡ z)) ⊎ ((z <ℤ pos 0) × (pos (cast_unsigned w32 z) ≡ z +ℤ pos 4294967296))
wrapped (pos n) low = inl (omega (arith, ints), refl)
wrapped (negsuc n) low = inr (omega (arith, ints), omega (arith, ints, low))

-- lanes are four numbers
pub four_lanes_are : (lanes : List ℕ) → length lanes ≡ 4 → lanes ≡ slice_index lanes 0 ∷ slice_index lanes 1 ∷ slice_index lanes 2 ∷ slice_index lanes 3 ∷ []
four_lanes_are [] e = absurd (omega (arith, e))
four_lanes_are (a ∷ []) e = absurd (omega (arith, e))
four_lanes_are (a ∷ b ∷ []) e = absurd (omega (arith, e))
four_lanes_are (a ∷ b ∷ c ∷ []) e = absurd (omega (arith, e))
four_lanes_are (a ∷ b ∷ c ∷ d ∷ []) e = refl
four_lanes_are (a ∷ b ∷ c ∷ d ∷ z ∷ zs) e = absurd (omega (arith, e))

pub four_set : (p q r s : Bool) → nat_eq (mask_l (p ∷ q ∷ r ∷ s ∷ []) % 18446744073709551616) 15 ≡ (p && q) && (r && s)
four_set true true true true = refl
four_set true true true false = refl
four_set true true false true = refl
four_set true true false false = refl
four_set true false true true = refl
four_set true false true false = refl
four_set true false false true = refl
four_set true false false false = refl
four_set false true true true = refl
four_set false true true false = refl
four_set false true false true = refl
four_set false true false false = refl
four_set false false true true = refl
four_set false false true false = refl
four_set false false false true = refl
four_set false false false false = refl

pub both_true : (a b : Bool) → a && b ≡ true → (a ≡ true) × (b ≡ true)
both_true true true e = (refl, refl)
both_true true false e = absurd (cc (e))
both_true false b e = absurd (cc (e))
