-- The bits of a metadata byte that announce fields.
use Rattle.twkb_body.proofs.Prelude.{◌≡◌, ℕ, ◌+◌, ◌*◌, ◌/◌, ◌%◌, bit_and, ap, ◌∙◌, arith}
use Rattle.std.proofs.lemmas.Nat.{and_block, and_le_r, and_mask}

-- the bits for a box, a size, extended dimensions and no body
pub field_bits : (metadata : ℕ) → bit_and metadata 27 ≡ metadata % 4 + 8 * (metadata / 8 % 4)
field_bits metadata =
    let split : metadata ≡ metadata / 8 * 8 + metadata % 8 = omega arith in
    let both = and_block 3 (metadata / 8) 3 (metadata % 8) 3 (omega arith) (omega arith) in
    ap (λ x. bit_and x 27) split ∙ omega (arith, both, and_mask (metadata / 8) 2, and_mask (metadata % 8) 2)

-- the bit for ids
pub ids_bit : (metadata : ℕ) → bit_and metadata 4 ≡ 4 * (metadata / 4 % 2)
ids_bit metadata =
    let split : metadata ≡ metadata / 4 * 4 + metadata % 4 = omega arith in
    let both = and_block 2 (metadata / 4) 1 (metadata % 4) 0 (omega arith) (omega arith) in
    ap (λ x. bit_and x 4) split ∙ omega (arith, both, and_mask (metadata / 4) 1, and_le_r (metadata % 4) 0)
