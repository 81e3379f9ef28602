-- The ends in a word of eight bytes, counted by one multiplication, and the n-th of them found by one subtraction.
use Rattle.twkb_num.proofs.Prelude.{◌≡◌, ℕ, zero, suc, ◌+◌, ◌-◌, ◌*◌, ◌/◌, ◌<◌, ◌≤◌, List, ap, ◌∙◌, arith, w64, trailing_zeros, bit_and, ended, ends_to, eight_bytes, IsEnd}
use Rattle.twkb_num.proofs.EndLemmas.{tops_eight, lowest_0}

-- a byte ends at most one varint
pub ended_once : (bytes : List ℕ) (k : ℕ) → ended bytes k ≤ 1
ended_once bytes k = omega arith

-- k bytes have at most k ends
pub ends_to_few : (bytes : List ℕ) (k : ℕ) → ends_to bytes k ≤ k
ends_to_few bytes zero = omega arith
ends_to_few bytes (suc k) = omega (arith, ends_to_few bytes k, ended_once bytes k)

-- the number of ends in one more byte is the number before it and the end that it is, if any
pub ends_to-suc : (bytes : List ℕ) (k : ℕ) → ends_to bytes (k + 1) ≡ ends_to bytes k + ended bytes k
ends_to-suc bytes k = let e : k + 1 ≡ suc k = omega arith in ap (ends_to bytes) e

module _ (bytes : List ℕ) (n : ℕ) (some : 1 ≤ n) (there : n ≤ ends_to bytes 8) where
  -- at least 128 from the byte on where n ends are reached, and less before it
  abbrev pub lead : ℕ → ℕ
  lead k = ends_to bytes (k + 1) + 128 - n

  few : n ≤ 8
  few = omega (arith, there, ends_to_few bytes 8)

  lead_fits : (k : ℕ) → k < 8 → lead k < 256
  lead_fits k h = omega (arith, some, h, ends_to_few bytes (k + 1))

  leads_are : eight_bytes (λ k. ends_to bytes (k + 1)) + 9259542123273814144 - n * 72340172838076673 ≡ eight_bytes lead
  leads_are = omega (arith, few)

  abbrev pub reached : ℕ
  reached = bit_and (eight_bytes (λ k. ends_to bytes (k + 1)) + 9259542123273814144 - n * 72340172838076673) 9259542123273814144

  reached_are : reached ≡ eight_bytes (λ k. lead k / 128 * 128)
  reached_are = ap (λ x. bit_and x 9259542123273814144) leads_are ∙ tops_eight lead lead_fits

  not_none : reached ≡ 0 → ⊥
  not_none none = omega (arith, reached_are, none, there)

  -- the n-th end
  pub nth_end : IsEnd bytes n (trailing_zeros w64 reached / 8 + 1)
  nth_end =
      let (i, in_word, at, before, here) = lowest_0 (λ k. lead k / 128) reached (λ k h. omega (arith, lead_fits k h)) reached_are not_none (λ k h. absurd (omega (arith, h))) in
      let many : trailing_zeros w64 reached / 8 + 1 ≡ i + 1 = omega (arith, at) in
      let fewer : ends_to bytes i < n = below i before in
      rw many record {
        some = omega arith;
        few = omega (arith, in_word);
        ends = let same : i + 1 - 1 ≡ i = omega arith in rw same (omega (arith, here, fewer, ended_once bytes i, ends_to-suc bytes i));
        count = omega (arith, here, fewer, ended_once bytes i, ends_to-suc bytes i);
      }
    where
      below : (i : ℕ) → ((k : ℕ) → k < i → lead k / 128 ≡ 0) → ends_to bytes i < n
      below zero before = omega (arith, some)
      below (suc i) before = omega (arith, before i (omega arith), ends_to-suc bytes i)
