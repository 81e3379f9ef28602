-- The first end among eight bytes, by the lowest bit of a word.
use Rattle.twkb_num.proofs.Prelude.{◌≡◌, ℕ, zero, suc, ◌+◌, ◌-◌, ◌*◌, ◌/◌, ◌^◌, ◌<◌, ◌≤◌, List, slice_index, ap, ap₂, ◌∙◌, refl, ◌⊎◌, inl, inr, arith, Width, w64, from_le_bytes, bit_at, trailing_zeros, bits, bit_and, and_block, pow_pos, bit_at_cat_low, bit_at-pow_same, bit_at-pow_other, bit_at-trailing_zeros, cases_lt, ended, four_bytes, eight_bytes}
use Rattle.twkb_num.proofs.WordLemmas.{tops_4}

-- the lowest 1 of a number
pub lowest_at : (w : Width) (n m k : ℕ) → n < 2 ^ bits w → n ≡ m * 2 ^ (k + 1) + 2 ^ k → trailing_zeros w n ≡ k
lowest_at w n m k fits e =
    let found = bit_at-trailing_zeros w n (omega (arith, e, pow_pos k)) fits in
    let t : ℕ = trailing_zeros w n in
    let at : bit_at n k ≡ 1 = ap (λ x. bit_at x k) e ∙ bit_at_cat_low m (k + 1) (2 ^ k) k (omega arith) ∙ bit_at-pow_same k in
    elim (cases_lt t k) [
      | inl before ↦
          let none : bit_at n t ≡ 0 = ap (λ x. bit_at x t) e ∙ bit_at_cat_low m (k + 1) (2 ^ k) t (omega (arith, before)) ∙ bit_at-pow_other k t (λ same. omega (arith, same, before)) in
          absurd (omega (arith, none, found.1))
      | inr after ↦
          elim (cases_lt k t) [
            | inl behind ↦ absurd (omega (arith, at, found.2 k behind))
            | inr here ↦ omega (arith, after, here)
          ]
    ]

-- the tops of the four bytes of half a word
tops_of_half : (a b c d : ℕ) → a < 256 → b < 256 → c < 256 → d < 256
    → bit_and ((d * 256 + c) * 65536 + (b * 256 + a)) 0x80808080 ≡ (d / 128 * 128 * 256 + c / 128 * 128) * 65536 + (b / 128 * 128 * 256 + a / 128 * 128)
tops_of_half a b c d in_a in_b in_c in_d =
    let same : (d * 256 + c) * 65536 + (b * 256 + a) ≡ (((0 * 256 + d) * 256 + c) * 256 + b) * 256 + a = omega arith in
    omega (arith, ap (λ x. bit_and x 0x80808080) same, tops_4 a b c d 0 in_a in_b in_c in_d)

-- the tops of eight bytes
pub tops_eight : (f : ℕ → ℕ) → ((k : ℕ) → k < 8 → f k < 256) → bit_and (eight_bytes f) 0x8080808080808080 ≡ eight_bytes (λ k. f k / 128 * 128)
tops_eight f fit =
    let halves : bit_and (four_bytes f 4 * 4294967296 + four_bytes f 0) 0x8080808080808080 ≡ bit_and (four_bytes f 4) 0x80808080 * 4294967296 + bit_and (four_bytes f 0) 0x80808080 =
    and_block 32 (four_bytes f 4) 0x80808080 (four_bytes f 0) 0x80808080 (omega (arith, fit 0 (omega arith), fit 1 (omega arith), fit 2 (omega arith), fit 3 (omega arith))) (omega arith) in
    halves ∙ ap₂ (λ x y. x * 4294967296 + y) (tops_of_half (f 4) (f 5) (f 6) (f 7) (fit 4 (omega arith)) (fit 5 (omega arith)) (fit 6 (omega arith)) (fit 7 (omega arith))) (tops_of_half (f 0) (f 1) (f 2) (f 3) (fit 0 (omega arith)) (fit 1 (omega arith)) (fit 2 (omega arith)) (fit 3 (omega arith)))

-- the complement of a word has the complements of its bytes
turned_by : (b c : ℕ → ℕ) (word : ℕ) → ((k : ℕ) → b k + c k ≡ 255) → word ≡ eight_bytes b → 2 ^ 64 - 1 - word ≡ eight_bytes c
turned_by b c word both e =
    let sum : word + eight_bytes c ≡ 18446744073709551615 = omega (arith, e, both 0, both 1, both 2, both 3, both 4, both 5, both 6, both 7) in
    omega (arith, sum)

turned : (bs : List ℕ) (word : ℕ) → ((k : ℕ) → slice_index bs k < 256) → word ≡ from_le_bytes w64 bs → 2 ^ 64 - 1 - word ≡ eight_bytes (λ k. 255 - slice_index bs k)
turned bs word fit e = turned_by (slice_index bs) (λ k. 255 - slice_index bs k) word (λ k. omega (arith, fit k)) (omega (arith, e))

-- the tops of the complement of a word are set in the bytes that end a varint
pub ends_are : (bs : List ℕ) (word : ℕ) → ((k : ℕ) → slice_index bs k < 256) → word ≡ from_le_bytes w64 bs → bit_and (2 ^ 64 - 1 - word) 0x8080808080808080 ≡ eight_bytes (λ k. ended bs k * 128)
ends_are bs word fit e =
    ap (λ x. bit_and x 0x8080808080808080) (turned bs word fit e) ∙ tops_eight (λ k. 255 - slice_index bs k) (λ k h. omega arith)

-- if the values before i are zero, and the i-th is too, the values up to i are zero
more : (f : ℕ → ℕ) (i : ℕ) → ((k : ℕ) → k < i → f k ≡ 0) → f i ≡ 0 → (k : ℕ) → k < i + 1 → f k ≡ 0
more f i on here k h =
    elim (cases_lt k i) [
      | inl before ↦ on k before
      | inr after ↦ let same : k ≡ i = omega (arith, h, after) in rw same here
    ]

zero_or_one : (n : ℕ) → n ≤ 1 → (n ≡ 0) ⊎ (n ≡ 1)
zero_or_one zero h = inl refl
zero_or_one (suc zero) h = inr refl
zero_or_one (suc (suc n)) h = absurd (omega (arith, h))

-- the lowest set bit of eight bytes, each of which is zero or its top bit
module _ (f : ℕ → ℕ) (n : ℕ) (bound : (k : ℕ) → k < 8 → f k ≤ 1) (is : n ≡ eight_bytes (λ k. f k * 128)) where
  abbrev pub IsLowest : Type 0
  IsLowest = (i : ℕ) × (i < 8) × (trailing_zeros w64 n ≡ 8 * i + 7) × ((k : ℕ) → k < i → f k ≡ 0) × (f i ≡ 1)

  fits : n < 2 ^ 64
  fits = omega (arith, is, bound 0 (omega arith), bound 1 (omega arith), bound 2 (omega arith), bound 3 (omega arith), bound 4 (omega arith), bound 5 (omega arith), bound 6 (omega arith), bound 7 (omega arith))

  lowest_7 : ((n ≡ 0) → ⊥) → ((k : ℕ) → k < 7 → f k ≡ 0) → IsLowest
  lowest_7 some on =
      elim (zero_or_one (f 7) (bound 7 (omega arith))) [
        | inl z ↦ absurd (some (omega (arith, is, z, on 0 (omega arith), on 1 (omega arith), on 2 (omega arith), on 3 (omega arith), on 4 (omega arith), on 5 (omega arith), on 6 (omega arith))))
        | inr o ↦ (7, omega arith, lowest_at w64 n 0 63 fits (omega (arith, is, o, on 0 (omega arith), on 1 (omega arith), on 2 (omega arith), on 3 (omega arith), on 4 (omega arith), on 5 (omega arith), on 6 (omega arith))), on, o)
      ]

  lowest_6 : ((n ≡ 0) → ⊥) → ((k : ℕ) → k < 6 → f k ≡ 0) → IsLowest
  lowest_6 some on =
      elim (zero_or_one (f 6) (bound 6 (omega arith))) [
        | inl z ↦ lowest_7 some (more f 6 on z)
        | inr o ↦ (6, omega arith, lowest_at w64 n (n / 2 ^ 56) 55 fits (omega (arith, is, o, on 0 (omega arith), on 1 (omega arith), on 2 (omega arith), on 3 (omega arith), on 4 (omega arith), on 5 (omega arith))), on, o)
      ]

  lowest_5 : ((n ≡ 0) → ⊥) → ((k : ℕ) → k < 5 → f k ≡ 0) → IsLowest
  lowest_5 some on =
      elim (zero_or_one (f 5) (bound 5 (omega arith))) [
        | inl z ↦ lowest_6 some (more f 5 on z)
        | inr o ↦ (5, omega arith, lowest_at w64 n (n / 2 ^ 48) 47 fits (omega (arith, is, o, on 0 (omega arith), on 1 (omega arith), on 2 (omega arith), on 3 (omega arith), on 4 (omega arith))), on, o)
      ]

  lowest_4 : ((n ≡ 0) → ⊥) → ((k : ℕ) → k < 4 → f k ≡ 0) → IsLowest
  lowest_4 some on =
      elim (zero_or_one (f 4) (bound 4 (omega arith))) [
        | inl z ↦ lowest_5 some (more f 4 on z)
        | inr o ↦ (4, omega arith, lowest_at w64 n (n / 2 ^ 40) 39 fits (omega (arith, is, o, on 0 (omega arith), on 1 (omega arith), on 2 (omega arith), on 3 (omega arith))), on, o)
      ]

  lowest_3 : ((n ≡ 0) → ⊥) → ((k : ℕ) → k < 3 → f k ≡ 0) → IsLowest
  lowest_3 some on =
      elim (zero_or_one (f 3) (bound 3 (omega arith))) [
        | inl z ↦ lowest_4 some (more f 3 on z)
        | inr o ↦ (3, omega arith, lowest_at w64 n (n / 2 ^ 32) 31 fits (omega (arith, is, o, on 0 (omega arith), on 1 (omega arith), on 2 (omega arith))), on, o)
      ]

  lowest_2 : ((n ≡ 0) → ⊥) → ((k : ℕ) → k < 2 → f k ≡ 0) → IsLowest
  lowest_2 some on =
      elim (zero_or_one (f 2) (bound 2 (omega arith))) [
        | inl z ↦ lowest_3 some (more f 2 on z)
        | inr o ↦ (2, omega arith, lowest_at w64 n (n / 2 ^ 24) 23 fits (omega (arith, is, o, on 0 (omega arith), on 1 (omega arith))), on, o)
      ]

  lowest_1 : ((n ≡ 0) → ⊥) → ((k : ℕ) → k < 1 → f k ≡ 0) → IsLowest
  lowest_1 some on =
      elim (zero_or_one (f 1) (bound 1 (omega arith))) [
        | inl z ↦ lowest_2 some (more f 1 on z)
        | inr o ↦ (1, omega arith, lowest_at w64 n (n / 2 ^ 16) 15 fits (omega (arith, is, o, on 0 (omega arith))), on, o)
      ]

  pub lowest_0 : ((n ≡ 0) → ⊥) → ((k : ℕ) → k < 0 → f k ≡ 0) → IsLowest
  lowest_0 some on =
      elim (zero_or_one (f 0) (bound 0 (omega arith))) [
        | inl z ↦ lowest_1 some (more f 0 on z)
        | inr o ↦ (0, omega arith, lowest_at w64 n (n / 2 ^ 8) 7 fits (omega (arith, is, o)), on, o)
      ]

  -- if no bit is set, all values are zero
  pub all_zero : n ≡ 0 → (k : ℕ) → k < 8 → f k ≡ 0
  all_zero none zero h = omega (arith, is, none)
  all_zero none (suc zero) h = omega (arith, is, none)
  all_zero none (suc (suc zero)) h = omega (arith, is, none)
  all_zero none (suc (suc (suc zero))) h = omega (arith, is, none)
  all_zero none (suc (suc (suc (suc zero)))) h = omega (arith, is, none)
  all_zero none (suc (suc (suc (suc (suc zero))))) h = omega (arith, is, none)
  all_zero none (suc (suc (suc (suc (suc (suc zero)))))) h = omega (arith, is, none)
  all_zero none (suc (suc (suc (suc (suc (suc (suc zero))))))) h = omega (arith, is, none)
  all_zero none (suc (suc (suc (suc (suc (suc (suc (suc k)))))))) h = absurd (omega (arith, h))
