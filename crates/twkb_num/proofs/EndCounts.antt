-- How many bytes end a varint, counted by their tops.
use Rattle.twkb_num.proofs.Prelude.{◌≡◌, ℕ, ◌+◌, ◌*◌, ◌≤◌, Bool, false, cond, List, [], ◌∷◌, ap, ◌∙◌, arith, count_ones, ones-mask_l, nat_eq, mask_l, ended, ends_to, eight_bytes}
use Rattle.std.proofs.lemmas.Bool.Decides.{nat_tests}

-- the bits of a word, where each byte has none but its top
abbrev tops : Bool → Bool → Bool → Bool → Bool → Bool → Bool → Bool → List Bool
tops b0 b1 b2 b3 b4 b5 b6 b7 =
    false ∷ false ∷ false ∷ false ∷ false ∷ false ∷ false ∷ b0 ∷ false ∷ false ∷ false ∷ false ∷ false ∷ false ∷ false ∷ b1 ∷ false ∷ false ∷ false ∷ false ∷ false ∷ false ∷ false ∷ b2 ∷ false ∷ false ∷ false ∷ false ∷ false ∷ false ∷ false ∷ b3 ∷ false ∷ false ∷ false ∷ false ∷ false ∷ false ∷ false ∷ b4 ∷ false ∷ false ∷ false ∷ false ∷ false ∷ false ∷ false ∷ b5 ∷ false ∷ false ∷ false ∷ false ∷ false ∷ false ∷ false ∷ b6 ∷ false ∷ false ∷ false ∷ false ∷ false ∷ false ∷ false ∷ b7 ∷ []

ones_of_tops : (b0 b1 b2 b3 b4 b5 b6 b7 : Bool) → count_ones (mask_l (tops b0 b1 b2 b3 b4 b5 b6 b7)) ≡ cond b0 1 0 + cond b1 1 0 + cond b2 1 0 + cond b3 1 0 + cond b4 1 0 + cond b5 1 0 + cond b6 1 0 + cond b7 1 0
ones_of_tops b0 b1 b2 b3 b4 b5 b6 b7 = ones-mask_l (λ (b : Bool). b) (tops b0 b1 b2 b3 b4 b5 b6 b7) ∙ omega arith

abbrev bit : ℕ → Bool
bit n = nat_eq n 1

bit_is : (n : ℕ) → n ≤ 1 → n ≡ cond (bit n) 1 0
bit_is n few = grind (arith, few, nat_tests)

-- each end is one top
pub ones_are_ends : (bytes : List ℕ) → count_ones (eight_bytes (λ k. ended bytes k * 128)) ≡ ends_to bytes 8
ones_are_ends bytes =
    let is : (k : ℕ) → ended bytes k ≡ cond (bit (ended bytes k)) 1 0 = λ k. bit_is (ended bytes k) (omega arith) in
    let word : eight_bytes (λ k. ended bytes k * 128) ≡ mask_l (tops (bit (ended bytes 0)) (bit (ended bytes 1)) (bit (ended bytes 2)) (bit (ended bytes 3)) (bit (ended bytes 4)) (bit (ended bytes 5)) (bit (ended bytes 6)) (bit (ended bytes 7)))
    = omega (arith, is 0, is 1, is 2, is 3, is 4, is 5, is 6, is 7) in
    ap count_ones word ∙ ones_of_tops (bit (ended bytes 0)) (bit (ended bytes 1)) (bit (ended bytes 2)) (bit (ended bytes 3)) (bit (ended bytes 4)) (bit (ended bytes 5)) (bit (ended bytes 6)) (bit (ended bytes 7))
    ∙ omega (arith, is 0, is 1, is 2, is 3, is 4, is 5, is 6, is 7)
