-- Ranges by their two ends in code.
use Rattle.twkb_body.proofs.Prelude.{◌≡◌, ℕ, suc, ◌+◌, ◌%◌, ◌<◌, ◌^◌, ◌-◌, Bool, inl, inr, negsuc, true, false, ℤ, pos, neg_ℤ, ◌+ℤ◌, ◌-ℤ◌, ◌<ℤ◌, ◌≤ℤ◌, Option, Some, None, refl, sym, ap, ap₂, ◌∙◌, subst, arith, int_lt, int_min, int_max, ◌⊎◌, cases_lt, ints, clamps, by_lt_z, to_z, of_z, Span, RawRange, joined, IsCovered, range_view, span_in, IsRange}
use Rattle.std.proofs.Common.{w64}
use Rattle.std.specs.Prelude.{cond}
use mir.ValLaws.{to_z-neg}
use Rattle.twkb_body.specs.declared.range.Range.TheInside.{Inside}

is_less : (a b : ℤ) → a <ℤ b → int_lt a b ≡ true
is_less a b lt = go (int_lt a b) refl
  where
    go : (t : Bool) → int_lt a b ≡ t → t ≡ true
    go true e = refl
    go false e = absurd (omega (arith, ints, e, lt))

is_not_less : (a b : ℤ) → b ≤ℤ a → int_lt a b ≡ false
is_not_less a b le = go (int_lt a b) refl
  where
    go : (t : Bool) → int_lt a b ≡ t → t ≡ false
    go true e = absurd (omega (arith, ints, e, le))
    go false e = refl

-- a range of no number, and of some
none_view : (r : Inside) → r.greatest <ℤ r.least → range_view r ≡ None
none_view r lt = ap (λ (t : Bool). cond t None (Some (record { lo = r.least; hi = r.greatest }))) (is_less r.greatest r.least lt)

some_view : (r : Inside) → r.least ≤ℤ r.greatest → range_view r ≡ Some (record { lo = r.least; hi = r.greatest })
some_view r le = ap (λ (t : Bool). cond t None (Some (record { lo = r.least; hi = r.greatest }))) (is_not_less r.greatest r.least le)

-- the lesser of the least and the greater of the greatest
abbrev pub both_ends : Inside → Inside → Inside
both_ends a b = record { least = int_min a.least b.least; greatest = int_max a.greatest b.greatest }

-- the two numbers have 64 bits
pub record AreShort (r : Inside) : Type 0 where
  pub least : r.least ≤ℤ pos (2 ^ 63 - 1)
  pub greatest : neg_ℤ (pos (2 ^ 63)) ≤ℤ r.greatest

pub joined_ends : (a b : Inside) → IsRange a → IsRange b → AreShort a → AreShort b → IsRange (both_ends a b)
joined_ends a b h k s t lt =
    let low : a.greatest <ℤ a.least = omega (arith, ints, clamps, lt) in
    let low' : b.greatest <ℤ b.least = omega (arith, ints, clamps, lt) in
    let ends = h low in
    let ends' = k low' in
    (omega (arith, ints, clamps, ends.0, ends'.0), omega (arith, ints, clamps, ends.1, ends'.1))

pub joined_views : (a b : Inside) → IsRange a → IsRange b → AreShort a → AreShort b → range_view (both_ends a b) ≡ joined (range_view a) (range_view b)
joined_views a b h k s t =
    by_lt_z {P = range_view (both_ends a b) ≡ joined (range_view a) (range_view b)} a.greatest a.least
    (λ none.
    let ends = h none in
    let low : int_min a.least b.least ≡ b.least = omega (arith, ints, clamps, ends.0, t.least) in
    let high : int_max a.greatest b.greatest ≡ b.greatest = omega (arith, ints, clamps, ends.1, t.greatest) in
    (λ j. range_view (record { least = low j; greatest = high j })) ∙ ap (λ (r : Option Span). joined r (range_view b)) (sym (none_view a none)))
    (λ some.
    by_lt_z {P = range_view (both_ends a b) ≡ joined (range_view a) (range_view b)} b.greatest b.least
    (λ none'.
    let ends = k none' in
    let low : int_min a.least b.least ≡ a.least = omega (arith, ints, clamps, ends.0, s.least) in
    let high : int_max a.greatest b.greatest ≡ a.greatest = omega (arith, ints, clamps, ends.1, s.greatest) in
    (λ j. range_view (record { least = low j; greatest = high j })) ∙ some_view a some ∙ ap₂ joined (sym (some_view a some)) (sym (none_view b none')))
    (λ some'. some_view (both_ends a b) (omega (arith, ints, clamps, some, some')) ∙ ap₂ joined (sym (some_view a some)) (sym (some_view b some'))))

-- a raw range that holds both numbers of a range, if there is a number, holds the range
pub held_by_ends : (range : RawRange) (r : Inside) → (r.least ≤ℤ r.greatest → (range.minimum ≤ℤ r.least) × (r.greatest ≤ℤ (range.minimum +ℤ range.extent))) → IsCovered (Some (span_in range)) (range_view r)
held_by_ends range r h =
    by_lt_z {P = IsCovered (Some (span_in range)) (range_view r)} r.greatest r.least
    (λ none. subst (IsCovered (Some (span_in range))) (sym (none_view r none)) tt)
    (λ some. subst (IsCovered (Some (span_in range))) (sym (some_view r some)) (h some))

-- ---- a difference that wraps around
wrapped : (z : ℤ) → neg_ℤ (pos 9223372036854775808) ≤ℤ z → ((pos 0 ≤ℤ z) × (pos (of_z w64 z) ≡ z)) ⊎ ((z <ℤ pos 0) × (pos (of_z w64 z) ≡ z +ℤ pos 18446744073709551616))
wrapped (pos n) low = inl (omega (arith, ints), refl)
wrapped (negsuc n) low = inr (omega (arith, ints), omega (arith, ints, low))

signed : (n : ℕ) → n < 18446744073709551616 → (to_z w64 n ≡ pos n) ⊎ (to_z w64 n <ℤ pos 0)
signed n small = elim (cases_lt n 9223372036854775808) [
  | inl low ↦ inl (omega (arith, ints, low))
  | inr high ↦
      let k : ℕ = 18446744073709551615 - n in
      let few : k < 9223372036854775808 = omega (arith, high) in
      let is : 18446744073709551616 - suc k ≡ n = omega (arith, small) in
      let neg : to_z w64 n ≡ negsuc k = ap (to_z w64) (sym is) ∙ to_z-neg w64 k few in
      inr (omega (arith, ints, neg))
]

-- if it isn't below zero, it is the difference
pub wrapped_reach : (least greatest : ℤ) → neg_ℤ (pos 9223372036854775808) ≤ℤ least → greatest ≤ℤ pos 9223372036854775807 → least ≤ℤ greatest
    → pos 0 ≤ℤ to_z w64 ((of_z w64 greatest + (18446744073709551616 - of_z w64 least)) % 18446744073709551616) → greatest ≡ least +ℤ to_z w64 ((of_z w64 greatest + (18446744073709551616 - of_z w64 least)) % 18446744073709551616)
wrapped_reach least greatest low high le some = go (signed n small)
  where
    n : ℕ
    n = (of_z w64 greatest + (18446744073709551616 - of_z w64 least)) % 18446744073709551616

    small : n < 18446744073709551616
    small = omega arith

    low' : neg_ℤ (pos 9223372036854775808) ≤ℤ greatest
    low' = omega (arith, ints, low, le)

    plain : pos n ≡ greatest -ℤ least
    plain = elim (wrapped least low) [
      | inl p ↦ elim (wrapped greatest low') [
        | inl q ↦ omega (arith, ints, p.1, q.1, le, high)
        | inr q ↦ absurd (omega (arith, ints, p.0, q.0, le))
      ]
      | inr p ↦ elim (wrapped greatest low') [
        | inl q ↦ omega (arith, ints, p.1, q.1, p.0, q.0, le, high, low)
        | inr q ↦ omega (arith, ints, p.1, q.1, p.0, q.0, le, low)
      ]
    ]

    go : (to_z w64 n ≡ pos n) ⊎ (to_z w64 n <ℤ pos 0) → greatest ≡ least +ℤ to_z w64 n
    go (inl is) = omega (arith, ints, is, plain)
    go (inr neg) = absurd (omega (arith, ints, neg, some))
