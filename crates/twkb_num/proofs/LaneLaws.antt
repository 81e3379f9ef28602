-- The numbers that the code computes in lanes are the numbers of the definitions, lane by lane.
use Rattle.twkb_num.proofs.Prelude.{◌≡◌, map, eqb, zero, suc, subst, get_or, ℕ, ℤ, ◌+◌, ◌-◌, ◌*◌, ◌<◌, length, replicate, ◌/◌, ◌%◌, ◌^◌, List, [], ◌∷◌, Bool, cond, refl, sym, ap, ◌∙◌, arith, inl, inr, cast_signed, bit_not, neg_ℤ, ◌≤ℤ◌, ◌<ℤ◌, All, length-map, get_or-map, and_mask, and_block, cases_lt, cond-true, cond-false, eq-eqb, ne_eqb, ints, to_z_pos, pow-suc, bits, hbits, zip2, sel_l, top, number_l, digits_l, zip2_of_maps, splat_is_map, map-map, tops_compared, zigzag_value, value_at, values}
use Rattle.std.proofs.Common.{bit_and}
use Rattle.std.specs.Prelude.{pos}
use Rattle.std.proofs.Math.Facts.{to_z-neg}
use mir.Syntax.{Width}

-- the groups of seven bits of two bytes, joined
abbrev pub two_groups : ℕ → ℕ
two_groups n = n % 128 + n / 256 % 128 * 128

-- twice the number that the groups of a lane of 16 bits make, as the code computes it
pub twice_16 : (n : ℕ) → (bit_and n 0x7f7f + bit_and n 0x7f) % 65536 ≡ 2 * two_groups n
twice_16 n =
    let split : n ≡ n / 256 * 256 + n % 256 = omega arith in
    let both = ap (λ x. bit_and x 0x7f7f) split ∙ and_block 8 (n / 256) 0x7f (n % 256) 0x7f (omega arith) (omega arith) in
    omega (arith, both, and_mask n 7, and_mask (n / 256) 7, and_mask (n % 256) 7)

-- for each place, the numbers of the two bytes there and of the next two, in lanes of 16 bits, the first moved up by two bits
abbrev placed : List ℕ → List ℕ → List ℕ
placed groups [] = []
placed groups (i ∷ is) = 2 * value_at 2 groups i / 2 ^ 1 * 2 ^ 2 % 65536 ∷ 2 * value_at 2 groups (suc (suc i)) / 2 ^ 1 * 2 ^ 0 % 65536 ∷ placed groups is

placed_fits : (groups v : List ℕ) → number_l 65536 (placed groups v) < 4294967296 ^ length v
placed_fits groups [] = omega arith
placed_fits groups (i ∷ is) = omega (arith, placed_fits groups is, pow-suc 4294967296 (length is))

-- joined in pairs, these lanes are four times the numbers of four bytes each
placed_joined : (groups v : List ℕ) → digits_l 4294967296 (length v) (number_l 65536 (placed groups v)) ≡ map (λ i. 4 * value_at 4 groups i) v
placed_joined groups [] = refl
placed_joined groups (i ∷ is) =
    let all : ℕ = number_l 65536 (placed groups (i ∷ is)) in
    let first : all % 4294967296 ≡ 4 * value_at 4 groups i = omega arith in
    let others : all / 4294967296 ≡ number_l 65536 (placed groups is) = omega arith in
    λ j. first j ∷ (ap (digits_l 4294967296 (length is)) others ∙ placed_joined groups is) j

-- the digits of a number in base 256 make this number
bytes_spell : (many n : ℕ) → n < 256 ^ many → number_l 256 (digits_l 256 many n) ≡ n
bytes_spell zero n fits = omega (arith, fits)
bytes_spell (suc many) n fits = ap (λ m. n % 256 + 256 * m) (bytes_spell many (n / 256) (omega (arith, fits, pow-suc 256 many))) ∙ omega arith

-- what the code makes of lanes of 16 bits, as lanes of 32 bits
abbrev pub joined : List ℕ → List ℕ
joined lanes = digits_l 4294967296 4 (number_l 256 (digits_l 256 16 (number_l 65536 (zip2 (λ a b. a * 2 ^ b % 65536) (zip2 (λ a b. a / 2 ^ b) lanes (replicate 8 1)) (2 ∷ 0 ∷ 2 ∷ 0 ∷ 2 ∷ 0 ∷ 2 ∷ 0 ∷ [])))))

-- twice the numbers of two bytes become four times those of four bytes
pub joined_lanes : (groups doubled : List ℕ) → doubled ≡ map (λ n. 2 * n) (values 2 8 groups 0) → joined doubled ≡ map (λ n. 4 * n) (values 4 4 groups 0)
joined_lanes groups doubled are =
    let v : List ℕ = 0 ∷ 4 ∷ 8 ∷ 12 ∷ [] in
    ap joined are ∙ ap (digits_l 4294967296 4) (bytes_spell 16 (number_l 65536 (placed groups v)) (omega (arith, placed_fits groups v))) ∙ placed_joined groups v

-- half of a number, complemented where a bit is set that tells whether the number is odd, is what the number means by zigzag
turned_means : (w : Width) (n marked bit : ℕ) → n / 2 < 2 ^ hbits w → 0 < bit → bit_and marked bit ≡ n % 2 * bit
    → cast_signed w (cond (eqb (bit_and marked bit) bit) (bit_not w (n / 2)) (n / 2)) ≡ zigzag_value n
turned_means w n marked bit fits some tells =
    elim (cases_lt (n % 2) 1) [
      | inl even ↦
          let none : bit_and marked bit ≡ 0 * bit = tells ∙ ap (λ k. k * bit) (omega (arith, even)) in
          let unset = ne_eqb (bit_and marked bit) bit (λ e. omega (arith, e, none, some)) in
          let means : pos (n / 2) ≡ zigzag_value n = sym (cond-true (eqb (n % 2) 0) _ _ (eq-eqb (n % 2) 0 (omega (arith, even)))) in
          ap (cast_signed w) (cond-false (eqb (bit_and marked bit) bit) (bit_not w (n / 2)) (n / 2) unset) ∙ to_z_pos w (n / 2) fits ∙ means
      | inr odd ↦
          let one : bit_and marked bit ≡ 1 * bit = tells ∙ ap (λ k. k * bit) (omega (arith, odd)) in
          let set = eq-eqb (bit_and marked bit) bit (omega (arith, one)) in
          let turned : bit_not w (n / 2) ≡ 2 ^ bits w - suc (n / 2) = omega arith in
          let more : (n + 1) / 2 ≡ suc (n / 2) = omega (arith, odd) in
          let means : neg_ℤ (pos ((n + 1) / 2)) ≡ zigzag_value n = sym (cond-false (eqb (n % 2) 0) _ _ (ne_eqb (n % 2) 0 (λ e. omega (arith, e, odd)))) in
          ap (cast_signed w) (cond-true (eqb (bit_and marked bit) bit) (bit_not w (n / 2)) (n / 2) set ∙ turned) ∙ to_z-neg w (n / 2) fits ∙ sym (ap (λ k. neg_ℤ (pos k)) more) ∙ means
    ]

-- a choice between two vectors, lane by lane
sel_map : (p : ℕ → Bool) (f g : ℕ → ℕ) (v : List ℕ) → sel_l (map p v) (map f v) (map g v) ≡ map (λ n. cond (p n) (f n) (g n)) v
sel_map p f g [] = refl
sel_map p f g (x ∷ xs) = ap (λ ys. cond (p x) (f x) (g x) ∷ ys) (sel_map p f g xs)

-- Lanes hold numbers, each times a power of two (`bit`). Half of each number, complemented where the lane has the bit, is what the number means by zigzag.
pub lanes_mean : (w : Width) (bit far : ℕ) (number : ℕ → ℕ) → 0 < bit → ((n : ℕ) → bit_and (bit * n) bit ≡ n % 2 * bit) → ((n : ℕ) → bit * n / 2 ^ far ≡ n / 2) → ((i : ℕ) → number i / 2 < 2 ^ hbits w)
    → (v lanes halves : List ℕ) → lanes ≡ map (λ i. bit * number i) v → halves ≡ zip2 (λ a b. a / 2 ^ b) lanes (replicate (length v) far)
    → map (cast_signed w) (sel_l (map (top (hbits w)) (zip2 (λ a b. cond (eqb a b) (2 ^ bits w - 1) 0) (zip2 bit_and lanes (replicate (length v) bit)) (replicate (length v) bit))) (map (bit_not w) halves) halves) ≡ map zigzag_value (map number v)
lanes_mean w bit far number some tells halved fits v lanes halves are are_halves =
    let marked : ℕ → ℕ = λ i. bit * number i in
    let half : ℕ → ℕ = λ i. number i / 2 in
    let splat = λ (n : ℕ). splat_is_map v (length v) n refl in
    let is_half : halves ≡ map half v = are_halves ∙ zip2_of_maps (λ a b. a / 2 ^ b) marked (λ _. far) v are (splat far) ∙ (λ j. map (λ i. halved (number i) j) v) in
    let tested = zip2_of_maps bit_and marked (λ _. bit) v are (splat bit) in
    let odds = tops_compared w eqb (zip2 bit_and lanes (replicate (length v) bit)) (replicate (length v) bit) ∙ zip2_of_maps eqb (λ i. bit_and (marked i) bit) (λ _. bit) v tested (splat bit) in
    let turned = ap (map (bit_not w)) is_half ∙ map-map (bit_not w) half v in
    let chosen : ℕ → ℕ = λ i. cond (eqb (bit_and (marked i) bit) bit) (bit_not w (half i)) (half i) in
    (λ j. map (cast_signed w) (sel_l (odds j) (turned j) (is_half j)))
    ∙ ap (map (cast_signed w)) (sel_map (λ i. eqb (bit_and (marked i) bit) bit) (λ i. bit_not w (half i)) half v)
    ∙ map-map (cast_signed w) chosen v ∙ (λ j. map (λ i. turned_means w (number i) (marked i) bit (fits i) some (tells (number i)) j) v) ∙ sym (map-map zigzag_value number v)

-- a number below twice the limit means by zigzag one within the limit
pub means_within : (limit n : ℕ) → n < 2 * limit → (neg_ℤ (pos limit) ≤ℤ zigzag_value n) × (zigzag_value n <ℤ pos limit)
means_within limit n h =
    elim (cases_lt (n % 2) 1) [
      | inl even ↦ subst Within (sym (cond-true (eqb (n % 2) 0) (pos (n / 2)) _ (eq-eqb (n % 2) 0 (omega (arith, even))))) (omega (arith, ints), omega (arith, ints, h))
      | inr odd ↦ subst Within (sym (cond-false (eqb (n % 2) 0) _ (neg_ℤ (pos ((n + 1) / 2))) (ne_eqb (n % 2) 0 (λ e. omega (arith, e, odd))))) (omega (arith, ints, h), omega (arith, ints, h))
    ]
  where
    Within : ℤ → Type 0
    Within z = (neg_ℤ (pos limit) ≤ℤ z) × (z <ℤ pos limit)

-- a property holds of what all these numbers mean by zigzag, if it holds for the number at each place
pub all_mean : (P : ℤ → Type 0) (number : ℕ → ℕ) → ((i : ℕ) → P (zigzag_value (number i))) → (v : List ℕ) → All P (map zigzag_value (map number v))
all_mean P number holds v k d h =
    let there : k < length v = omega (arith, h, length-map (map number v) zigzag_value, length-map v number) in
    let is = get_or-map zigzag_value (map number v) k 0 d (omega (arith, there, length-map v number)) ∙ ap zigzag_value (get_or-map number v k 0 0 there) in
    subst P (sym is) (holds (get_or v k 0))
