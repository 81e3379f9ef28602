-- The ranges of a window are rounded each by itself.
use Rattle.twkb_layer.proofs.Prelude.{◌≡◌, ℕ, suc, negsuc, ◌+◌, ◌*◌, ◌/◌, ◌^◌, ◌<◌, ◌≤◌, true, not, ◌&&◌, ℤ, pos, neg_ℤ, ◌+ℤ◌, ◌-ℤ◌, ◌*ℤ◌, ◌<ℤ◌, ◌≤ℤ◌, int_lt, int_le, unsigned_abs, Option, Some, None, refl, ap, sym, ◌∙◌, arith, IfSome, int_div_euclid, int_max, int_min, neg_ℤ-neg_ℤ, pos-*ℤ-pos, negsuc-*ℤ-pos, ints, pow-le-pow_right, mul-le-mul, div-add-mod', Rational, RationalRange, is_less, units_as_rational, rounded_up, rounded_down, rounded_inward, in_rationals, in_rationals_if_any, HasDenominators, IsWithinFarthest, RoundsInward, NoneIsFarther, in_span, in_bound}
use Rattle.std.specs.Prelude.{option_map}
use Rattle.twkb_layer.proofs.RawWindows.{down_as_it_is}
use Rattle.twkb_layer.proofs.Rounding.{signed_product}
use Rattle.twkb_layer.proofs.laws.windows_round_inward.Goals as goal

-- ---- quotients rounded down
floor_low : (z : ℤ) (d : ℕ) → 0 < d → (int_div_euclid z (pos d) *ℤ pos d) ≤ℤ z
floor_low (pos a) d some = let whole = div-add-mod' a d in let product = pos-*ℤ-pos (a / d) d in omega (arith, ints, whole, product)
floor_low (negsuc a) d some =
    let whole = div-add-mod' a d in
    let product = negsuc-*ℤ-pos (a / d) d in
    let rest = few a d some in
    let more = one_more (a / d) d in
    omega (arith, ints, whole, product, rest, more)
  where
    few : (a d : ℕ) → 0 < d → a < a / d * d + d
    few a d some = omega (arith, div-add-mod' a d, some)

    one_more : (q d : ℕ) → suc q * d ≡ q * d + d
    one_more q d = omega arith

floor_high : (z : ℤ) (d : ℕ) → 0 < d → z <ℤ (int_div_euclid z (pos d) *ℤ pos d +ℤ pos d)
floor_high (pos a) d some =
    let product = pos-*ℤ-pos (a / d) d in
    let rest = few a d some in
    omega (arith, ints, product, rest)
  where
    few : (a d : ℕ) → 0 < d → a < a / d * d + d
    few a d some = omega (arith, div-add-mod' a d, some)
floor_high (negsuc a) d some =
    let whole = div-add-mod' a d in
    let product = negsuc-*ℤ-pos (a / d) d in
    let more = one_more (a / d) d in
    omega (arith, ints, whole, product, more)
  where
    one_more : (q d : ℕ) → suc q * d ≡ q * d + d
    one_more q d = omega arith

-- a number is less than a multiple if and only if the quotient is less than the factor
floor_less : (z v : ℤ) (d : ℕ) → 0 < d → int_lt z (v *ℤ pos d) ≡ int_lt (int_div_euclid z (pos d)) v
floor_less z v d some =
    let low = floor_low z d some in
    let high = floor_high z d some in
    let q = int_div_euclid z (pos d) *ℤ pos d in
    down_as_it_is (int_div_euclid z (pos d)) (z -ℤ q) z d (omega (arith, ints)) v (omega (arith, ints, low)) (omega (arith, ints, high))

minus_product : (v : ℤ) (d : ℕ) → neg_ℤ v *ℤ pos d ≡ neg_ℤ (v *ℤ pos d)
minus_product (pos a) d = signed_product true a d ∙ ap neg_ℤ (sym (pos-*ℤ-pos a d))
minus_product (negsuc a) d = pos-*ℤ-pos (suc a) d ∙ (sym (neg_ℤ-neg_ℤ (pos (suc a * d))) ∙ ap neg_ℤ (sym (negsuc-*ℤ-pos a d)))

turned : (a b : ℤ) → int_lt a b ≡ int_lt (neg_ℤ b) (neg_ℤ a)
turned a b = grind (arith, ints)

turned_back : (a b : ℤ) → int_lt a (neg_ℤ b) ≡ int_lt b (neg_ℤ a)
turned_back a b = grind (arith, ints)

ceil_less : (z v : ℤ) (d : ℕ) → 0 < d → int_lt (v *ℤ pos d) z ≡ int_lt v (neg_ℤ (int_div_euclid (neg_ℤ z) (pos d)))
ceil_less z v d some =
    turned (v *ℤ pos d) z ∙ (ap (int_lt (neg_ℤ z)) (sym (minus_product v d)) ∙ (floor_less (neg_ℤ z) (neg_ℤ v) d some ∙ turned_back (int_div_euclid (neg_ℤ z) (pos d)) v))

-- ---- ends that are farther than any coordinate
near_below : (v c : ℤ) (far : ℕ) → unsigned_abs v < far → int_lt v c ≡ int_lt v (int_max (neg_ℤ (pos far)) (int_min c (pos far)))
near_below v c far h = grind (arith, ints, h)

near_above : (v c : ℤ) (far : ℕ) → unsigned_abs v < far → int_lt c v ≡ int_lt (int_max (neg_ℤ (pos far)) (int_min c (pos far))) v
near_above v c far h = grind (arith, ints, h)

no_more : (a b : ℤ) → int_le a b ≡ not (int_lt b a)
no_more a b = grind (arith, ints)

-- ---- windows
from_low : (r : Rational) (v : ℤ) → 0 < r.denominator → IsWithinFarthest v → is_less (units_as_rational v) r ≡ int_lt v (rounded_up r)
from_low r v some near = ceil_less (r.numerator *ℤ pos (10 ^ 7)) v r.denominator some ∙ near_below v (neg_ℤ (int_div_euclid (neg_ℤ (r.numerator *ℤ pos (10 ^ 7))) (pos r.denominator))) (10 ^ 34) near

from_high : (r : Rational) (v : ℤ) → 0 < r.denominator → IsWithinFarthest v → is_less r (units_as_rational v) ≡ int_lt (rounded_down r) v
from_high r v some near = floor_less (r.numerator *ℤ pos (10 ^ 7)) v r.denominator some ∙ near_above v (int_div_euclid (r.numerator *ℤ pos (10 ^ 7)) (pos r.denominator)) (10 ^ 34) near

in_range : (r : RationalRange) (v : ℤ) → HasDenominators r → IsWithinFarthest v → in_span (rounded_inward r) v ≡ in_rationals r v
in_range r v some near =
    (λ j. no_more (rounded_up r.lo) v j && no_more v (rounded_down r.hi) j)
    ∙ (λ j. not (sym (from_low r.lo v some.lo near) j) && not (sym (from_high r.hi v some.hi near) j))

in_range_if_any : (r : Option RationalRange) (v : Option ℤ) → IfSome r HasDenominators → IfSome v IsWithinFarthest → in_bound (option_map rounded_inward r) v ≡ in_rationals_if_any r v
in_range_if_any None v some near = refl
in_range_if_any (Some r) None some near = refl
in_range_if_any (Some r) (Some v) some near = in_range r v some near

inside_rounded : RoundsInward
inside_rounded w v some near = (λ j. in_range w.x v.x some.x near.x j && (in_range w.y v.y some.y near.y j && (in_range_if_any w.z v.z some.z near.z j && in_range_if_any w.m v.m some.m near.m j)))

-- ---- coordinates
abs_minus : (n : ℕ) → unsigned_abs (neg_ℤ (pos n)) ≡ n
abs_minus n = omega (arith, ints)

abs_product : (c : ℤ) (k : ℕ) → unsigned_abs (c *ℤ pos k) ≡ unsigned_abs c * k
abs_product (pos a) k = ap unsigned_abs (pos-*ℤ-pos a k)
abs_product (negsuc a) k = ap unsigned_abs (negsuc-*ℤ-pos a k) ∙ abs_minus (suc a * k)

far_product : (a k : ℕ) → a ≤ 2 ^ 63 → k ≤ 10 ^ 15 → a * k < 10 ^ 34
far_product a k le few = let product : a * k ≤ 2 ^ 63 * 10 ^ 15 = mul-le-mul {n₁ = a} {m₁ = k} {n₂ = 2 ^ 63} {m₂ = 10 ^ 15} le few in omega (arith, product)

none_farther : NoneIsFarther
none_farther c p small precise =
    let distance = unsigned_abs (pos 7 -ℤ p) in
    let few : distance ≤ 15 = omega (arith, ints, precise.0, precise.1) in
    let unit : 10 ^ distance ≤ 10 ^ 15 = pow-le-pow_right {n = 10} (omega arith) {i = distance} {j = 15} few in
    let product = abs_product c (10 ^ distance) in
    let near = far_product (unsigned_abs c) (10 ^ distance) small unit in
    omega (arith, product, near)

pub returns : goal.returns
returns c = record { rounds = inside_rounded; coordinates = none_farther }
