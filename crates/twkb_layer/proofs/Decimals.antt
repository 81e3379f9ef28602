-- The digits of a decimal, one by one.
use Rattle.twkb_layer.proofs.Prelude.{◌≡◌, ◌≢◌, ℕ, zero, suc, ◌+◌, ◌-◌, ◌*◌, ◌/◌, ◌%◌, ◌^◌, ◌<◌, ◌≤◌, min, Bool, true, false, cond, List, [], ◌∷◌, ◌++◌, length, take, drop, get_or, ◌==◌, not, refl, ap, sym, ◌∙◌, arith, length-append, length-drop, mul_assoc, mul_comm, div-eq_of_lt, div-div-eq-div-mul, mul-div-mul_right, mul-mod_left, add-mul-div_right, one-le-pow, pow-le-pow_right, digit_value, digits_value, AllDigits, digits_value-lt, digits_value_more, take-append-drop, pow_more, pow-add, div-mul-add, div-add-mod', digit_value_digit, digit_at, OnTrue, OnFalse, nat_tests, append-nil, Decimal, IsDecimalText, AreDigits, starts_digit, ReadsFraction, point_and}
use Rattle.twkb_layer.proofs.Texts.{digits_value_after-append, after_from, digit_here as is_digit, digits_once, point_ends, on_true, on_false}

pub ten_some : (k : ℕ) → 0 < 10 ^ k
ten_some k = let le = one-le-pow k 10 (omega arith) in omega (arith, le)

-- ---- digits as lists
pub digits_drop : (k : ℕ) (ds : List ℕ) → AllDigits 10 ds → AllDigits 10 (drop k ds)
digits_drop zero ds h = h
digits_drop (suc k) [] h = h
digits_drop (suc k) (d ∷ ds) h = digits_drop k ds h.1

pub digits_append : (a b : List ℕ) → AllDigits 10 a → AllDigits 10 b → AllDigits 10 (a ++ b)
digits_append [] b h k = k
digits_append (d ∷ ds) b h k = (h.0, digits_append ds b h.1 k)

pub value_append : (a b : List ℕ) → digits_value 10 (a ++ b) ≡ digits_value 10 a * 10 ^ length b + digits_value 10 b
value_append a b = digits_value_after-append 0 a b ∙ after_from (digits_value 10 a) b

-- the digits before the last k
front_value : (ds : List ℕ) (k : ℕ) → AllDigits 10 ds → k ≤ length ds → digits_value 10 ds / 10 ^ k ≡ digits_value 10 (take (length ds - k) ds)
front_value ds k h le =
    let front = take (length ds - k) ds in
    let behind = drop (length ds - k) ds in
    let long : length behind ≡ k = omega (arith, length-drop (length ds - k) ds, le) in
    let split : digits_value 10 ds ≡ digits_value 10 front * 10 ^ k + digits_value 10 behind =
    ap (digits_value 10) (sym (take-append-drop (length ds - k) ds)) ∙ (value_append front behind ∙ ap (λ (n : ℕ). digits_value 10 front * 10 ^ n + digits_value 10 behind) long) in
    let small : digits_value 10 behind < 10 ^ k = let lt = digits_value-lt 10 behind (digits_drop (length ds - k) ds h) in omega (arith, lt, ap (λ (n : ℕ). 10 ^ n) long) in
    ap (λ (n : ℕ). n / 10 ^ k) split ∙ div-mul-add (digits_value 10 front) (10 ^ k) (digits_value 10 behind) small

pub digit_is : (ds : List ℕ) (k i : ℕ) → AllDigits 10 ds → k < length ds → i ≡ length ds - 1 - k → get_or ds i 0 - 48 ≡ digits_value 10 ds / 10 ^ k % 10
digit_is ds k i h lt is =
    let within : i < length ds = omega (arith, lt, is) in
    let range = digit_at ds i h within in
    let names = digit_value_digit (get_or ds i 0) range in
    let more = digits_value_more 10 ds i within in
    let next : length ds - k ≡ i + 1 = omega (arith, lt, is) in
    let front : digits_value 10 ds / 10 ^ k ≡ digits_value 10 (take (i + 1) ds) = front_value ds k h (omega (arith, lt)) ∙ ap (λ (n : ℕ). digits_value 10 (take n ds)) next in
    sym (ap (λ (n : ℕ). n % 10) (front ∙ more) ∙ last (digits_value 10 (take i ds)) (digit_value (get_or ds i 0)) (get_or ds i 0) names range.0 range.1)
  where
    last : (n d c : ℕ) → d + 48 ≡ c → 48 ≤ c → c ≤ 57 → (n * 10 + d) % 10 ≡ c - 48
    last n d c e l u = omega (arith, e, l, u)

pub no_digit : (ds : List ℕ) (k : ℕ) → AllDigits 10 ds → length ds ≤ k → 0 ≡ digits_value 10 ds / 10 ^ k % 10
no_digit ds k h le =
    let lt = digits_value-lt 10 ds h in
    let more : 10 ^ length ds ≤ 10 ^ k = pow-le-pow_right {n = 10} (omega arith) {i = length ds} {j = k} le in
    let small : digits_value 10 ds < 10 ^ k = omega (arith, lt, more) in
    sym (ap (λ (n : ℕ). n % 10) (div-eq_of_lt small))

-- ---- digits as quotients
-- zeros appended to a number
pub zero_digit : (n z k : ℕ) → k < z → n * 10 ^ z / 10 ^ k % 10 ≡ 0
zero_digit n z k lt =
    let one : z ≡ (z - k - 1) + 1 + k = omega (arith, lt) in
    let powers : 10 ^ z ≡ 10 ^ (z - k - 1) * 10 * 10 ^ k = ap (λ (e : ℕ). 10 ^ e) one ∙ (pow-add 10 ((z - k - 1) + 1) k ∙ ap (λ (p : ℕ). p * 10 ^ k) (pow_more 10 (z - k - 1))) in
    let whole : n * 10 ^ z ≡ n * 10 ^ (z - k - 1) * 10 * 10 ^ k + 0 = omega (arith, regroup n (10 ^ z) (10 ^ (z - k - 1)) (10 ^ k) powers) in
    ap (λ (x : ℕ). x / 10 ^ k % 10) whole ∙ (ap (λ (q : ℕ). q % 10) (div-mul-add (n * 10 ^ (z - k - 1) * 10) (10 ^ k) 0 (ten_some k)) ∙ mul-mod_left (n * 10 ^ (z - k - 1)) 10)
  where
    regroup : (n p q r : ℕ) → p ≡ q * 10 * r → n * p ≡ n * q * 10 * r
    regroup n p q r e = ap (λ (x : ℕ). n * x) e ∙ (sym (mul_assoc n (q * 10) r) ∙ ap (λ (x : ℕ). x * r) (sym (mul_assoc n q 10)))

pub shifted : (n z k : ℕ) → z ≤ k → n * 10 ^ z / 10 ^ k ≡ n / 10 ^ (k - z)
shifted n z k le =
    let one : k ≡ (k - z) + z = omega (arith, le) in
    ap (λ (p : ℕ). n * 10 ^ z / p) (ap (λ (e : ℕ). 10 ^ e) one ∙ pow-add 10 (k - z) z) ∙ mul-div-mul_right n (10 ^ (k - z)) (ten_some z)

-- a digit after the point, and one before it
pub in_fraction : (w f e k : ℕ) → k < e → (w * 10 ^ e + f) / 10 ^ k % 10 ≡ f / 10 ^ k % 10
in_fraction w f e k lt =
    let one : e ≡ (e - k - 1) + 1 + k = omega (arith, lt) in
    let powers : 10 ^ e ≡ 10 ^ (e - k - 1) * 10 * 10 ^ k = ap (λ (i : ℕ). 10 ^ i) one ∙ (pow-add 10 ((e - k - 1) + 1) k ∙ ap (λ (p : ℕ). p * 10 ^ k) (pow_more 10 (e - k - 1))) in
    let whole : w * 10 ^ e + f ≡ f + w * 10 ^ (e - k - 1) * 10 * 10 ^ k = omega (arith, regroup w (10 ^ e) (10 ^ (e - k - 1)) (10 ^ k) powers) in
    ap (λ (x : ℕ). x / 10 ^ k % 10) whole ∙ (ap (λ (q : ℕ). q % 10) (add-mul-div_right f (w * 10 ^ (e - k - 1) * 10) (ten_some k)) ∙ last (f / 10 ^ k) (w * 10 ^ (e - k - 1)))
  where
    regroup : (n p q r : ℕ) → p ≡ q * 10 * r → n * p ≡ n * q * 10 * r
    regroup n p q r e = ap (λ (x : ℕ). n * x) e ∙ (sym (mul_assoc n (q * 10) r) ∙ ap (λ (x : ℕ). x * r) (sym (mul_assoc n q 10)))

    last : (a b : ℕ) → (a + b * 10) % 10 ≡ a % 10
    last a b = omega arith

pub in_whole : (w f e k : ℕ) → f < 10 ^ e → e ≤ k → (w * 10 ^ e + f) / 10 ^ k ≡ w / 10 ^ (k - e)
in_whole w f e k small le =
    let one : k ≡ e + (k - e) = omega (arith, le) in
    ap (λ (p : ℕ). (w * 10 ^ e + f) / p) (ap (λ (i : ℕ). 10 ^ i) one ∙ pow-add 10 e (k - e))
    ∙ (sym (div-div-eq-div-mul (w * 10 ^ e + f) (10 ^ e) (10 ^ (k - e))) ∙ ap (λ (q : ℕ). q / 10 ^ (k - e)) (div-mul-add w (10 ^ e) f small))

-- a digit of the fraction, and one of the whole part, is a digit of the decimal
pub digit_here : (whole fraction : List ℕ) (zeros behind digit : ℕ) → AllDigits 10 fraction → zeros ≤ behind → behind - zeros < length fraction
    → digit ≡ digits_value 10 fraction / 10 ^ (behind - zeros) % 10 → digit ≡ digits_value 10 (whole ++ fraction) * 10 ^ zeros / 10 ^ behind % 10
digit_here whole fraction zeros behind digit h le lt is =
    is ∙ sym (ap (λ (q : ℕ). q % 10) (shifted (digits_value 10 (whole ++ fraction)) zeros behind le)
    ∙ (ap (λ (n : ℕ). n / 10 ^ (behind - zeros) % 10) (value_append whole fraction) ∙ in_fraction (digits_value 10 whole) (digits_value 10 fraction) (length fraction) (behind - zeros) lt))

pub digit_before : (whole fraction : List ℕ) (zeros behind digit : ℕ) → AllDigits 10 fraction → zeros ≤ behind → length fraction ≤ behind - zeros
    → digit ≡ digits_value 10 whole / 10 ^ (behind - zeros - length fraction) % 10 → digit ≡ digits_value 10 (whole ++ fraction) * 10 ^ zeros / 10 ^ behind % 10
digit_before whole fraction zeros behind digit h le ge is =
    is ∙ sym (ap (λ (q : ℕ). q % 10) (shifted (digits_value 10 (whole ++ fraction)) zeros behind le)
    ∙ (ap (λ (n : ℕ). n / 10 ^ (behind - zeros) % 10) (value_append whole fraction)
    ∙ ap (λ (q : ℕ). q % 10) (in_whole (digits_value 10 whole) (digits_value 10 fraction) (length fraction) (behind - zeros) (digits_value-lt 10 fraction h) ge)))

-- ---- from digit to digit
pub next_digit : (x k : ℕ) → x / 10 ^ k ≡ x / 10 ^ (k + 1) * 10 + x / 10 ^ k % 10
next_digit x k =
    let tens : x / 10 ^ k / 10 ≡ x / 10 ^ (k + 1) = div-div-eq-div-mul x (10 ^ k) 10 ∙ ap (λ (p : ℕ). x / p) (sym (pow_more 10 k)) in
    sym (div-add-mod' (x / 10 ^ k) 10) ∙ ap (λ (q : ℕ). q * 10 + x / 10 ^ k % 10) tens

-- before the first digit the quotient is 0
pub none_before : (whole fraction : List ℕ) (zeros top : ℕ) → AllDigits 10 whole → AllDigits 10 fraction → length whole + length fraction + zeros ≤ top
    → digits_value 10 (whole ++ fraction) * 10 ^ zeros / 10 ^ top ≡ 0
none_before whole fraction zeros top w f le =
    let lt = digits_value-lt 10 (whole ++ fraction) (digits_append whole fraction w f) in
    let more : 10 ^ length (whole ++ fraction) ≤ 10 ^ (top - zeros) = pow-le-pow_right {n = 10} (omega arith) {i = length (whole ++ fraction)} {j = top - zeros} (omega (arith, length-append whole fraction, le)) in
    let small : digits_value 10 (whole ++ fraction) < 10 ^ (top - zeros) = omega (arith, lt, more) in
    shifted (digits_value 10 (whole ++ fraction)) zeros top (omega (arith, le)) ∙ div-eq_of_lt small

-- if the last k digits are 0, and the one before them is too, k + 1 digits are 0
pub no_rest_yet : (x k : ℕ) → x % 10 ^ k ≡ 0 → x / 10 ^ k % 10 ≡ 0 → x % 10 ^ (k + 1) ≡ 0
no_rest_yet x k none digit =
    let tens : x / 10 ^ k ≡ x / 10 ^ (k + 1) * 10 = next_digit x k ∙ omega (arith, digit) in
    let whole : x ≡ x / 10 ^ (k + 1) * 10 ^ (k + 1) = sym (div-add-mod' x (10 ^ k)) ∙ omega (arith, none, regroup (x / 10 ^ k) (x / 10 ^ (k + 1)) (10 ^ k) (10 ^ (k + 1)) tens (pow_more 10 k)) in
    ap (λ (n : ℕ). n % 10 ^ (k + 1)) whole ∙ mul-mod_left (x / 10 ^ (k + 1)) (10 ^ (k + 1))
  where
    regroup : (a b p q : ℕ) → a ≡ b * 10 → q ≡ p * 10 → a * p ≡ b * q
    regroup a b p q e f = ap (λ (n : ℕ). n * p) e ∙ (mul_assoc b 10 p ∙ (ap (λ (n : ℕ). b * n) (mul_comm 10 p) ∙ ap (λ (n : ℕ). b * n) (sym f)))

pub some_rest : (x k p : ℕ) → k < p → x / 10 ^ k % 10 ≢ 0 → x % 10 ^ p ≢ 0
some_rest x k p lt digit none =
    let whole : x ≡ x / 10 ^ p * 10 ^ p = sym (div-add-mod' x (10 ^ p)) ∙ omega (arith, none) in
    digit (ap (λ (n : ℕ). n / 10 ^ k % 10) whole ∙ zero_digit (x / 10 ^ p) p k lt)

pub is_some : (r : ℕ) → r ≢ 0 → true ≡ not (r == 0)
is_some zero h = absurd (h refl)
is_some (suc r) h = grind (arith, nat_tests)

-- the minimum of a quotient and a bound, after one more digit
pub least_goes_on : (q amount digit new r most : ℕ) → amount ≡ min q most → new ≡ min (amount * 10 + digit) most → r ≡ q * 10 + digit → new ≡ min r most
least_goes_on q amount digit new r most a b e = omega (arith, a, b, e)

-- ---- a decimal, by its digits
abbrev pub written : Bool → List ℕ → List ℕ → Decimal
written minus whole fraction = record { minus = minus; number = digits_value 10 (whole ++ fraction); places = length fraction }

pub top_none : (minus : Bool) (whole fraction : List ℕ) (d : Decimal) (zeros top : ℕ) → written minus whole fraction ≡ d → AreDigits whole fraction → length whole + length fraction + zeros ≤ top
    → d.number * 10 ^ zeros / 10 ^ top ≡ 0
top_none minus whole fraction d zeros top view digits le = ap (λ (e : Decimal). e.number * 10 ^ zeros / 10 ^ top) (sym view) ∙ none_before whole fraction zeros top digits.whole_digits digits.fraction_digits le

-- ---- the text of a decimal, parsed in one way
sign_once : (old mid : List ℕ) (minus : Bool) → OnTrue minus (old ≡ 45 ∷ mid) → OnFalse minus (mid ≡ old) → ((behind : List ℕ) → old ≡ 45 ∷ behind → (minus ≡ true) × (mid ≡ behind))
    → (m : Bool) (amount : List ℕ) → old ≡ cond m (45 ∷ []) [] ++ amount → starts_digit amount ≡ true → (minus ≡ m) × (mid ≡ amount)
sign_once old mid minus taken still exact true amount e starts = exact amount e
sign_once old mid minus taken still exact false amount e starts = go minus refl
  where
    go : (b : Bool) → minus ≡ b → (minus ≡ false) × (mid ≡ amount)
    go false was = (was, on_false minus _ still was ∙ e)
    go true was = absurd (let w : starts_digit (45 ∷ mid) ≡ starts_digit amount = ap starts_digit (sym (on_true minus _ taken was) ∙ e) in cc)

whole_starts : (whole behind : List ℕ) → AllDigits 10 whole → 0 < length whole → starts_digit (whole ++ behind) ≡ true
whole_starts [] behind h some = absurd (omega (arith, some))
whole_starts (c ∷ cs) behind h some = is_digit c h.0

-- the parsed decimal is the decimal of the text
pub record IsRead (text : List ℕ) (d : Decimal) (minus : Bool) (whole fraction new : List ℕ) : Type 0 where
  pub text_is : IsDecimalText text d
  pub minus_is : minus ≡ d.minus
  pub whole_is : whole ≡ text_is.whole
  pub fraction_is : fraction ≡ text_is.fraction
  pub nothing_left : new ≡ []

pub decimal_once : (text mid rest new whole fraction : List ℕ) (minus : Bool) → OnTrue minus (text ≡ 45 ∷ mid) → OnFalse minus (mid ≡ text) → ((behind : List ℕ) → text ≡ 45 ∷ behind → (minus ≡ true) × (mid ≡ behind))
    → mid ≡ whole ++ rest → AllDigits 10 whole → starts_digit rest ≡ false
    → ReadsFraction rest new fraction
    → (d : Decimal) → IsDecimalText text d → IsRead text d minus whole fraction new
decimal_once text mid rest new whole fraction minus taken still exact parts digits most reads d h =
    let sign = sign_once text mid minus taken still exact d.minus (h.whole ++ point_and h.fraction) h.parts (whole_starts h.whole (point_and h.fraction) h.whole_digits h.whole_some) in
    let stops : starts_digit (point_and h.fraction) ≡ false = ap starts_digit (sym (append-nil (point_and h.fraction))) ∙ point_ends h.fraction [] refl in
    let both = digits_once whole h.whole rest (point_and h.fraction) digits h.whole_digits most stops (sym parts ∙ sign.1) in
    let last = reads h.fraction [] (both.1 ∙ sym (append-nil (point_and h.fraction))) h.fraction_digits refl in
    record { text_is = h; minus_is = sign.0; whole_is = both.0; fraction_is = last.0; nothing_left = last.1 }

pub read_is : (text : List ℕ) (d : Decimal) (minus : Bool) (whole fraction new : List ℕ) → IsRead text d minus whole fraction new → written minus whole fraction ≡ d
read_is text d minus whole fraction new r =
    (λ j. record { minus = r.minus_is j; number = digits_value 10 (r.whole_is j ++ r.fraction_is j); places = length (r.fraction_is j) })
    ∙ (λ j. record { minus = d.minus; number = sym r.text_is.number_is j; places = sym r.text_is.places_are j })
