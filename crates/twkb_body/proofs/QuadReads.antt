-- The numbers in the lanes of a vector.
use Rattle.twkb_body.proofs.Prelude.{◌≡◌, ℕ, List, [], ◌∷◌, length, map, ℤ, refl, ap, arith, cast_signed, Width}

-- the numbers in four lanes
pub four_of : (w : Width) (lanes : List ℕ) → length lanes ≡ 4 → (a b c d : ℤ) × (map (cast_signed w) lanes ≡ a ∷ b ∷ c ∷ d ∷ [])
four_of w [] e = absurd (omega (arith, e))
four_of w (a ∷ []) e = absurd (omega (arith, e))
four_of w (a ∷ b ∷ []) e = absurd (omega (arith, e))
four_of w (a ∷ b ∷ c ∷ []) e = absurd (omega (arith, e))
four_of w (a ∷ b ∷ c ∷ d ∷ []) e = (cast_signed w a, cast_signed w b, cast_signed w c, cast_signed w d, refl)
four_of w (a ∷ b ∷ c ∷ d ∷ z ∷ zs) e = absurd (omega (arith, e))

-- the numbers in eight lanes
pub eight_of : (w : Width) (lanes : List ℕ) → length lanes ≡ 8 → (a b c d e f g h : ℤ) × (map (cast_signed w) lanes ≡ a ∷ b ∷ c ∷ d ∷ e ∷ f ∷ g ∷ h ∷ [])
eight_of w [] is = absurd (omega (arith, is))
eight_of w (a ∷ []) is = absurd (omega (arith, is))
eight_of w (a ∷ b ∷ []) is = absurd (omega (arith, is))
eight_of w (a ∷ b ∷ c ∷ []) is = absurd (omega (arith, is))
eight_of w (a ∷ b ∷ c ∷ d ∷ zs) is =
    let four = four_of w zs (omega (arith, is)) in
    (cast_signed w a, cast_signed w b, cast_signed w c, cast_signed w d, four.0, four.1, four.2, four.3, ap (λ (ys : List ℤ). cast_signed w a ∷ cast_signed w b ∷ cast_signed w c ∷ cast_signed w d ∷ ys) four.4)
