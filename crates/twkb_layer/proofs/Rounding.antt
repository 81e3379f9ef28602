-- Decimals in units, rounded, and compared with each other and with coordinates.
use Rattle.twkb_layer.proofs.Prelude.{◌≡◌, ℕ, zero, suc, ◌+◌, ◌-◌, ◌*◌, ◌/◌, ◌%◌, ◌^◌, ◌<◌, ◌≤◌, ◌==◌, min, Bool, true, false, cond, not, ◌&&◌, ℤ, pos, neg_ℤ, ◌+ℤ◌, ◌-ℤ◌, ◌*ℤ◌, ◌≤ℤ◌, int_lt, refl, ap, sym, ◌∙◌, arith, Result, Ok, Err, int_div_euclid, neg_ℤ-neg_ℤ, pos-*ℤ-pos, negsuc-*ℤ-pos, zero-*ℤ, zero-div, zero-mod, div-one, nat_tests, ints, div-mul-add, div-add-mod', Span, Decimal, signed, rational_of, is_less, farthest, within_farthest, rounded_up, rounded_down, span_of_decimals, leaning}
use Rattle.std.specs.Prelude.{if◌then◌else◌}
use Rattle.twkb_layer.specs.declared.decimal.BadRange.{BadRange}
use Rattle.twkb_layer.specs.declared.decimal.BadRange.TheVariants.{Order}
use Rattle.twkb_layer.proofs.Decimals.{ten_some, next_digit}

-- ---- quotients
-- a quotient, and one more if something is left
abbrev pub up_by : Bool → ℕ → ℕ → ℕ
up_by away n d = n / d + cond (away && not (n % d == 0)) 1 0

one : (r : ℕ) → ◌≡◌ {A = ℕ} (cond (not (suc r == 0)) 1 0) 1
one r = grind (arith, nat_tests)

more : (q : ℕ) {b : ℕ} → b ≡ 1 → suc q ≡ q + b
more q e = omega (arith, e)

ceil_nat : (a d : ℕ) → 0 < d → suc (a / d) ≡ suc a / d + cond (not (suc a % d == 0)) 1 0
ceil_nat a d some = go (suc a / d) (suc a % d) (sym (div-add-mod' (suc a) d)) (omega (arith, some))
  where
    go : (q r : ℕ) → suc a ≡ q * d + r → r < d → suc (a / d) ≡ q + cond (not (r == 0)) 1 0
    go zero zero e lt = absurd (omega (arith, e))
    go (suc q) zero e lt =
        let whole : a ≡ q * d + (d - 1) = omega (arith, e, some) in
        let fits : d - 1 < d = omega (arith, some) in
        ap suc (ap (λ (n : ℕ). n / d) whole ∙ div-mul-add q d (d - 1) fits) ∙ omega arith
    go q (suc r) e lt =
        let whole : a ≡ q * d + r = omega (arith, e) in
        let fits : r < d = omega (arith, lt) in
        ap suc (ap (λ (n : ℕ). n / d) whole ∙ div-mul-add q d r fits) ∙ more q (one r)

floor_minus : (n d : ℕ) → 0 < d → int_div_euclid (neg_ℤ (pos n)) (pos d) ≡ neg_ℤ (pos (up_by true n d))
floor_minus zero d some = (λ j. pos (zero-div d j)) ∙ sym ((λ j. neg_ℤ (pos (zero-div d j + cond (not (zero-mod d j == 0)) 1 0))))
floor_minus (suc a) d some = ap (λ (n : ℕ). neg_ℤ (pos n)) (ceil_nat a d some)

floor_signed : (minus : Bool) (n d : ℕ) → 0 < d → int_div_euclid (signed minus n) (pos d) ≡ signed minus (up_by minus n d)
floor_signed true n d some = floor_minus n d some
floor_signed false n d some = ap pos (omega arith)

pub signed_product : (minus : Bool) (n k : ℕ) → signed minus n *ℤ pos k ≡ signed minus (n * k)
signed_product false n k = pos-*ℤ-pos n k
signed_product true zero k = zero-*ℤ (pos k) ∙ (λ j. neg_ℤ (pos (none j)))
  where
    none : 0 ≡ 0 * k
    none = omega arith
signed_product true (suc n) k = negsuc-*ℤ-pos n k

minus_signed : (minus : Bool) (n : ℕ) → neg_ℤ (signed minus n) ≡ signed (not minus) n
minus_signed true n = neg_ℤ-neg_ℤ (pos n)
minus_signed false n = refl

-- ---- ends
within_signed : (minus : Bool) (n : ℕ) → within_farthest (signed minus n) ≡ signed minus (min n farthest)
within_signed true n = grind (arith, ints)
within_signed false n = grind (arith, ints)

pub lowered_is : (minus : Bool) (n p : ℕ) → signed minus (min (up_by minus (n * 10 ^ 7) (10 ^ p)) farthest) ≡ rounded_down (rational_of (record { minus = minus; number = n; places = p }))
lowered_is minus n p =
    sym (ap within_farthest (ap (λ (z : ℤ). int_div_euclid z (pos (10 ^ p))) (signed_product minus n (10 ^ 7)) ∙ floor_signed minus (n * 10 ^ 7) (10 ^ p) (ten_some p))
    ∙ within_signed minus (up_by minus (n * 10 ^ 7) (10 ^ p)))

twice_not : (b : Bool) → not (not b) ≡ b
twice_not true = refl
twice_not false = refl

pub raised_is : (minus : Bool) (n p : ℕ) → signed minus (min (up_by (not minus) (n * 10 ^ 7) (10 ^ p)) farthest) ≡ rounded_up (rational_of (record { minus = minus; number = n; places = p }))
raised_is minus n p =
    let some = ten_some p in
    let units = up_by (not minus) (n * 10 ^ 7) (10 ^ p) in
    sym (ap within_farthest (
    ap (λ (z : ℤ). neg_ℤ (int_div_euclid z (pos (10 ^ p)))) (ap neg_ℤ (signed_product minus n (10 ^ 7)) ∙ minus_signed minus (n * 10 ^ 7))
    ∙ (ap neg_ℤ (floor_signed (not minus) (n * 10 ^ 7) (10 ^ p) some) ∙ (minus_signed (not minus) units ∙ ap (λ (b : Bool). signed b units) (twice_not minus)))
    ) ∙ within_signed minus units)

-- ---- one decimal against another
leans_on : (d s : ℤ) → neg_ℤ (pos 18) ≤ℤ s → s ≤ℤ pos 18 → leaning (leaning d *ℤ pos 10 +ℤ s) ≡ leaning (d *ℤ pos 10 +ℤ s)
leans_on d s low high = grind (arith, ints, low, high)

signed_more : (minus : Bool) (n d : ℕ) → signed minus (n * 10 + d) ≡ signed minus n *ℤ pos 10 +ℤ signed minus d
signed_more true n d = omega (arith, ints)
signed_more false n d = omega (arith, ints)

signed_small : (minus : Bool) (d : ℕ) → d < 10 → (neg_ℤ (pos 9) ≤ℤ signed minus d) × (signed minus d ≤ℤ pos 9)
signed_small true d lt = (omega (arith, ints, lt), omega (arith, ints, lt))
signed_small false d lt = (omega (arith, ints, lt), omega (arith, ints, lt))

-- a digit with its sign
pub digit_small : (minus : Bool) (n : ℕ) (s : ℤ) → s ≡ signed minus (n % 10) → (neg_ℤ (pos 9) ≤ℤ s) × (s ≤ℤ pos 9)
digit_small minus n s is =
    let small = signed_small minus (n % 10) (omega arith) in
    (omega (arith, ints, small.0, is), omega (arith, ints, small.1, is))

signed_none : (minus : Bool) (n : ℕ) → n ≡ 0 → signed minus n ≡ pos 0
signed_none true n e = ap (λ (m : ℕ). neg_ℤ (pos m)) e
signed_none false n e = ap pos e

pub lean_begins : (m l : Bool) (x y : ℕ) → x ≡ 0 → y ≡ 0 → pos 0 ≡ leaning (signed m x -ℤ signed l y)
lean_begins m l x y e f = sym (λ j. leaning (signed_none m x e j -ℤ signed_none l y f j))

pub lean_goes_on : (m l : Bool) (x y k : ℕ) (ahead s t : ℤ) → ahead ≡ leaning (signed m (x / 10 ^ (k + 1)) -ℤ signed l (y / 10 ^ (k + 1))) → s ≡ signed m (x / 10 ^ k % 10) → t ≡ signed l (y / 10 ^ k % 10)
    → leaning (ahead *ℤ pos 10 +ℤ (s -ℤ t)) ≡ leaning (signed m (x / 10 ^ k) -ℤ signed l (y / 10 ^ k))
lean_goes_on m l x y k ahead s t a b c =
    let s_small = digit_small m (x / 10 ^ k) s b in
    let t_small = digit_small l (y / 10 ^ k) t c in
    let d = signed m (x / 10 ^ (k + 1)) -ℤ signed l (y / 10 ^ (k + 1)) in
    let x_more = ap (signed m) (next_digit x k) ∙ signed_more m (x / 10 ^ (k + 1)) (x / 10 ^ k % 10) in
    let y_more = ap (signed l) (next_digit y k) ∙ signed_more l (y / 10 ^ (k + 1)) (y / 10 ^ k % 10) in
    ap (λ (z : ℤ). leaning (z *ℤ pos 10 +ℤ (s -ℤ t))) a
    ∙ (leans_on d (s -ℤ t) (omega (arith, ints, s_small.0, t_small.1)) (omega (arith, ints, s_small.1, t_small.0))
    ∙ ap leaning (same (signed m (x / 10 ^ (k + 1))) (signed l (y / 10 ^ (k + 1))) s t _ _ (signed m (x / 10 ^ k % 10)) (signed l (y / 10 ^ k % 10)) b c x_more y_more))
  where
    same : (a b s t u v p q : ℤ) → s ≡ p → t ≡ q → u ≡ a *ℤ pos 10 +ℤ p → v ≡ b *ℤ pos 10 +ℤ q → (a -ℤ b) *ℤ pos 10 +ℤ (s -ℤ t) ≡ u -ℤ v
    same a b s t u v p q e f g h = omega (arith, ints, e, f, g, h)

lean_sign : (a b : ℤ) → int_lt (pos 0) (leaning (a -ℤ b)) ≡ int_lt b a
lean_sign a b = grind (arith, ints)

pub lean_answers : (m l : Bool) (n o p q k : ℕ) (ahead : ℤ) → k ≤ 0 → ahead ≡ leaning (signed m (n * q / 10 ^ k) -ℤ signed l (o * p / 10 ^ k)) → int_lt (pos 0) ahead ≡ int_lt (signed l o *ℤ pos p) (signed m n *ℤ pos q)
lean_answers m l n o p q k ahead none is =
    let e : k ≡ 0 = omega (arith, none) in
    let x : n * q / 10 ^ k ≡ n * q = ap (λ (i : ℕ). n * q / 10 ^ i) e ∙ div-one (n * q) in
    let y : o * p / 10 ^ k ≡ o * p = ap (λ (i : ℕ). o * p / 10 ^ i) e ∙ div-one (o * p) in
    ap (int_lt (pos 0)) (is ∙ (λ j. leaning (signed m (x j) -ℤ signed l (y j))))
    ∙ (lean_sign (signed m (n * q)) (signed l (o * p)) ∙ (λ j. int_lt (sym (signed_product l o p) j) (sym (signed_product m n q) j)))

-- ---- the result for two texts
order_is : (a b lo hi : Decimal) (told : Bool) → lo ≡ a → hi ≡ b → is_less (rational_of hi) (rational_of lo) ≡ told → is_less (rational_of b) (rational_of a) ≡ told
order_is a b lo hi told l h is = (λ j. is_less (rational_of (sym h j)) (rational_of (sym l j))) ∙ is

pub order_told : (a b lo hi : Decimal) → lo ≡ a → hi ≡ b → is_less (rational_of hi) (rational_of lo) ≡ true
    → ◌≡◌ {A = Result Span BadRange} (Err Order) (if is_less (rational_of b) (rational_of a) then Err Order else Ok (span_of_decimals a b))
order_told a b lo hi l h is = sym (ap (λ (c : Bool). if c then Err Order else Ok (span_of_decimals a b)) (order_is a b lo hi true l h is))

pub span_told : (a b lo hi : Decimal) (least greatest : ℤ) → lo ≡ a → hi ≡ b → is_less (rational_of hi) (rational_of lo) ≡ false → least ≡ rounded_up (rational_of lo) → greatest ≡ rounded_down (rational_of hi)
    → ◌≡◌ {A = Result Span BadRange} (Ok (record { lo = least; hi = greatest })) (if is_less (rational_of b) (rational_of a) then Err Order else Ok (span_of_decimals a b))
span_told a b lo hi least greatest l h is up down =
    (λ j. Ok (record { lo = (up ∙ ap (λ (d : Decimal). rounded_up (rational_of d)) l) j; hi = (down ∙ ap (λ (d : Decimal). rounded_down (rational_of d)) h) j }))
    ∙ sym (ap (λ (c : Bool). if c then Err Order else Ok (span_of_decimals a b)) (order_is a b lo hi false l h is))
