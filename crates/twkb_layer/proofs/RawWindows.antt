-- Raw integers against units: quotients rounded up and down, and boxes that miss a window.
use Rattle.twkb_layer.proofs.Prelude.{◌≡◌, ℕ, zero, suc, negsuc, ◌+◌, ◌*◌, ◌^◌, ◌<◌, ◌≤◌, ◌-◌, unsigned_abs, ◌⊎◌, inl, inr, true, false, ◌||◌, List, length, get_or, set, subst, ℤ, pos, ◌<ℤ◌, ◌≤ℤ◌, ◌+ℤ◌, ◌-ℤ◌, ◌*ℤ◌, neg_ℤ, int_lt, sym, ap, ◌∙◌, to_z, of_z, mul_assoc, arith, *ℤ-zero, zero-*ℤ, pos-*ℤ-pos, negsuc-*ℤ-pos, pow-add, cases_eq, w64, w128, int_div, int_rem, ints, by_lt_z, quot-rem, rem_below, quot_fits, to_z-of_z, get_or-set_same, get_or-set_other, units_of, Span, Bounds, span_at, RawWindow, IsRawEnds, IsRawWindow, IsExactEnds, IsExactWindow, raw_range_misses, raw_box_misses, IsInner, AreInner, precision_of, lie_apart}
use Rattle.std.specs.Int.RustNames.{FitsSigned}
use Rattle.twkb_body.proofs.Scales.{times_suc, times_le}
use Rattle.twkb_layer.specs.declared.raw_windows.RawEnds.{RawEnds}

is_less : (a b : ℤ) → a <ℤ b → int_lt a b ≡ true
is_less a b h = grind (arith, ints, h)

is_not_less : (a b : ℤ) → b ≤ℤ a → int_lt a b ≡ false
is_not_less a b h = grind (arith, ints, h)

-- the quotient that a division answers is the exact quotient
pub quotient_is : (a d q : ℤ) → FitsSigned w128 a → FitsSigned w128 d → pos 0 <ℤ d
    → q ≡ int_div (to_z w128 (of_z w128 a)) (to_z w128 (of_z w128 d)) → to_z w128 (of_z w128 q) ≡ int_div a d
quotient_is a d q f g some h =
    ap (λ (z : ℤ). to_z w128 (of_z w128 z)) (h ∙ (λ i. int_div (to_z-of_z w128 a f i) (to_z-of_z w128 d g i)))
    ∙ to_z-of_z w128 (int_div a d) (quot_fits w128 a d f some)

-- a number of 128 bits that has a place in 64, and was cast to them
pub short_is : (a s : ℤ) → FitsSigned w128 a → FitsSigned w64 (to_z w128 (of_z w128 a)) → s ≡ to_z w128 (of_z w128 a) → to_z w64 (of_z w64 s) ≡ a
short_is a s f fits e = to_z-of_z w64 s (subst (FitsSigned w64) (sym e) fits) ∙ (e ∙ to_z-of_z w128 a f)

-- the remainder that a division answers is the exact remainder
pub rest_is : (a d r : ℤ) → FitsSigned w128 a → FitsSigned w128 d → FitsSigned w128 r
    → r ≡ int_rem (to_z w128 (of_z w128 a)) (to_z w128 (of_z w128 d)) → int_rem a d ≡ to_z w128 (of_z w128 r)
rest_is a d r f g fits h =
    sym (h ∙ (λ i. int_rem (to_z-of_z w128 a f i) (to_z-of_z w128 d g i))) ∙ sym (to_z-of_z w128 r fits)

-- two comparisons that imply each other have one answer
pub same_answer : (a b c d : ℤ) → (a <ℤ b → c <ℤ d) → (b ≤ℤ a → d ≤ℤ c) → int_lt a b ≡ int_lt c d
same_answer a b c d less not =
    by_lt_z {P = int_lt a b ≡ int_lt c d} a b
    (λ h. is_less a b h ∙ sym (is_less c d (less h)))
    (λ h. is_not_less a b h ∙ sym (is_not_less c d (not h)))

times_lt : (k : ℕ) (a b : ℤ) → a <ℤ b → (a *ℤ pos k +ℤ pos k) ≤ℤ (b *ℤ pos k)
times_lt zero a b h = rw (*ℤ-zero a, *ℤ-zero b) (omega (arith, ints))
times_lt (suc k) a b h = rw (times_suc a k, times_suc b k) (let less = times_lt k a b h in omega (arith, ints))

-- A number is a quotient, rounded toward zero, and a rest, which is nearer to zero than the unit.
module _ (q r number : ℤ) (k : ℕ) (is : q *ℤ pos k +ℤ r ≡ number) where
  pub rounded_up : (c : ℤ) → pos 0 <ℤ r → r <ℤ pos k → int_lt (c *ℤ pos k) number ≡ int_lt c (q +ℤ pos 1)
  rounded_up c some few = same_answer (c *ℤ pos k) number c (q +ℤ pos 1)
      (λ h. by_lt_z {P = c <ℤ (q +ℤ pos 1)} q c (λ more. absurd (let t = times_lt k q c more in omega (arith, ints, is))) (λ le. omega (arith, ints)))
      (λ h. by_lt_z {P = (q +ℤ pos 1) ≤ℤ c} q c (λ more. omega (arith, ints)) (λ le. absurd (let t = times_le k c q le in omega (arith, ints, is))))

  pub up_as_it_is : (c : ℤ) → r ≤ℤ pos 0 → neg_ℤ (pos k) <ℤ r → int_lt (c *ℤ pos k) number ≡ int_lt c q
  up_as_it_is c none few = same_answer (c *ℤ pos k) number c q
      (λ h. by_lt_z {P = c <ℤ q} c q (λ less. less) (λ ge. absurd (let t = times_le k q c ge in omega (arith, ints, is))))
      (λ h. by_lt_z {P = q ≤ℤ c} c q (λ less. absurd (let t = times_lt k c q less in omega (arith, ints, is))) (λ ge. ge))

  pub rounded_down : (c : ℤ) → r <ℤ pos 0 → neg_ℤ (pos k) <ℤ r → int_lt number (c *ℤ pos k) ≡ int_lt (q -ℤ pos 1) c
  rounded_down c some few = same_answer number (c *ℤ pos k) (q -ℤ pos 1) c
      (λ h. by_lt_z {P = (q -ℤ pos 1) <ℤ c} c q (λ less. absurd (let t = times_lt k c q less in omega (arith, ints, is))) (λ ge. omega (arith, ints)))
      (λ h. by_lt_z {P = c ≤ℤ (q -ℤ pos 1)} c q (λ less. omega (arith, ints)) (λ ge. absurd (let t = times_le k q c ge in omega (arith, ints, is))))

  pub down_as_it_is : (c : ℤ) → pos 0 ≤ℤ r → r <ℤ pos k → int_lt number (c *ℤ pos k) ≡ int_lt q c
  down_as_it_is c none few = same_answer number (c *ℤ pos k) q c
      (λ h. by_lt_z {P = q <ℤ c} q c (λ less. less) (λ ge. absurd (let t = times_le k c q ge in omega (arith, ints, is))))
      (λ h. by_lt_z {P = c ≤ℤ q} q c (λ less. absurd (let t = times_lt k q c less in omega (arith, ints, is))) (λ ge. ge))

-- A product is no nearer to zero than its factor.
times_more : (a : ℤ) (k : ℕ) → pos 0 ≤ℤ a → 0 < k → a ≤ℤ (a *ℤ pos k)
times_more a zero h some = absurd (omega (arith, some))
times_more a (suc k) h some = rw (times_suc a k) (let more = times_le k (pos 0) a h in omega (arith, ints))

times_less : (a : ℤ) (k : ℕ) → a ≤ℤ pos 0 → 0 < k → (a *ℤ pos k) ≤ℤ a
times_less a zero h some = absurd (omega (arith, some))
times_less a (suc k) h some = rw (times_suc a k) (let less = times_le k a (pos 0) h in omega (arith, ints))

-- the quotient of a division by a unit, rounded up or down by the rest
module _ (number : ℤ) (k : ℕ) (some : 0 < k) where
  whole : int_div number (pos k) *ℤ pos k +ℤ int_rem number (pos k) ≡ number
  whole = quot-rem number (pos k)

  rest_below : int_rem number (pos k) <ℤ pos k
  rest_below = let few = rem_below number (pos k) some in grind (arith, ints, few)

  rest_above : neg_ℤ (pos k) <ℤ int_rem number (pos k)
  rest_above = let few = rem_below number (pos k) some in grind (arith, ints, few)

  -- one more than a quotient that is rounded up is no more than any bound of the number
  quotient_room : (most : ℤ) → pos 0 ≤ℤ most → number ≤ℤ most → pos 0 <ℤ int_rem number (pos k) → int_div number (pos k) <ℤ most
  quotient_room most much bound rest = by_lt_z {P = int_div number (pos k) <ℤ most} (int_div number (pos k)) most (λ less. less)
      (λ ge. absurd (let t = times_le k most (int_div number (pos k)) ge in let m = times_more most k much some in omega (arith, ints, whole)))

  quotient_room_below : (least : ℤ) → least ≤ℤ pos 0 → least ≤ℤ number → int_rem number (pos k) <ℤ pos 0 → least <ℤ int_div number (pos k)
  quotient_room_below least little bound rest = by_lt_z {P = least <ℤ int_div number (pos k)} least (int_div number (pos k)) (λ less. less)
      (λ ge. absurd (let t = times_le k (int_div number (pos k)) least ge in let m = times_less least k little some in omega (arith, ints, whole)))

-- The ends of a range at a unit, rounded inward.
pub least_up : (lo unit c : ℤ) → pos 0 <ℤ unit → int_lt (pos 0) (int_rem lo unit) ≡ true → int_lt (c *ℤ unit) lo ≡ int_lt c (int_div lo unit +ℤ pos 1)
least_up lo (pos k) c some rest = let positive : 0 < k = omega (arith, ints, some) in rounded_up _ _ lo k (whole lo k positive) c (omega (arith, ints, rest)) (rest_below lo k positive)
least_up lo (negsuc k) c some rest = absurd (omega (arith, ints, some))

pub least_as_it_is : (lo unit c : ℤ) → pos 0 <ℤ unit → int_lt (pos 0) (int_rem lo unit) ≡ false → int_lt (c *ℤ unit) lo ≡ int_lt c (int_div lo unit)
least_as_it_is lo (pos k) c some rest = let positive : 0 < k = omega (arith, ints, some) in up_as_it_is _ _ lo k (whole lo k positive) c (omega (arith, ints, rest)) (rest_above lo k positive)
least_as_it_is lo (negsuc k) c some rest = absurd (omega (arith, ints, some))

pub greatest_down : (hi unit c : ℤ) → pos 0 <ℤ unit → int_lt (int_rem hi unit) (pos 0) ≡ true → int_lt hi (c *ℤ unit) ≡ int_lt (int_div hi unit -ℤ pos 1) c
greatest_down hi (pos k) c some rest = let positive : 0 < k = omega (arith, ints, some) in rounded_down _ _ hi k (whole hi k positive) c (omega (arith, ints, rest)) (rest_above hi k positive)
greatest_down hi (negsuc k) c some rest = absurd (omega (arith, ints, some))

pub greatest_as_it_is : (hi unit c : ℤ) → pos 0 <ℤ unit → int_lt (int_rem hi unit) (pos 0) ≡ false → int_lt hi (c *ℤ unit) ≡ int_lt (int_div hi unit) c
greatest_as_it_is hi (pos k) c some rest = let positive : 0 < k = omega (arith, ints, some) in down_as_it_is _ _ hi k (whole hi k positive) c (omega (arith, ints, rest)) (rest_below hi k positive)
greatest_as_it_is hi (negsuc k) c some rest = absurd (omega (arith, ints, some))

-- a quotient that is rounded by a rest fits 128 bits if the number does
pub more_fits : (lo unit : ℤ) → FitsSigned w128 lo → pos 0 <ℤ unit → int_lt (pos 0) (int_rem lo unit) ≡ true → FitsSigned w128 (int_div lo unit +ℤ pos 1)
more_fits lo (pos k) fits some rest =
    let positive : 0 < k = omega (arith, ints, some) in
    let room = quotient_room lo k positive (pos (2 ^ 127 - 1)) (omega (arith, ints)) (omega (arith, ints, fits)) (omega (arith, ints, rest)) in
    let quotient = quot_fits w128 lo (pos k) fits some in
    omega (arith, ints, room, quotient)
more_fits lo (negsuc k) fits some rest = absurd (omega (arith, ints, some))

pub less_fits : (hi unit : ℤ) → FitsSigned w128 hi → pos 0 <ℤ unit → int_lt (int_rem hi unit) (pos 0) ≡ true → FitsSigned w128 (int_div hi unit -ℤ pos 1)
less_fits hi (pos k) fits some rest =
    let positive : 0 < k = omega (arith, ints, some) in
    let room = quotient_room_below hi k positive (neg_ℤ (pos (2 ^ 127))) (omega (arith, ints)) (omega (arith, ints, fits)) (omega (arith, ints, rest)) in
    let quotient = quot_fits w128 hi (pos k) fits some in
    omega (arith, ints, room, quotient)
less_fits hi (negsuc k) fits some rest = absurd (omega (arith, ints, some))

-- ---- a box against a window

-- a range lies apart in units exactly if its ends do in raw integers
pub apart : (p : ℤ) (range : Span) (raw : RawEnds) → IsRawEnds p range raw → (ends : ℤ × ℤ) → AreInner ends → raw_range_misses raw ends ≡ lie_apart (span_at p ends) range
apart p range raw is ends inner = sym (λ j. is.below ends.1 inner.second j || is.above ends.0 inner.first j)

-- a box misses the window in X or Y in units exactly if its ends do in raw integers
pub misses_raw : (p : ℤ) (window : Bounds) (raw : RawWindow) → IsRawWindow p window raw → (x y : ℤ × ℤ) → AreInner x → AreInner y
    → raw_box_misses raw x y ≡ (lie_apart (span_at p x) window.x || lie_apart (span_at p y) window.y)
misses_raw p window raw is x y x_inner y_inner = (λ j. apart p window.x raw.x is.x x x_inner j || apart p window.y raw.y is.y y y_inner j)

-- ---- the windows at all precisions

-- a range whose ends compare at the unit of a precision
pub raw_ends : (p : ℤ) (range : Span) (unit : ℤ) (raw : RawEnds) → unit ≡ units_of (pos 1) p
    → ((c : ℤ) → IsInner c → int_lt (c *ℤ unit) range.lo ≡ int_lt c raw.least) → ((c : ℤ) → IsInner c → int_lt range.hi (c *ℤ unit) ≡ int_lt raw.greatest c) → IsRawEnds p range raw
raw_ends p range unit raw is below above =
    let one : pos (10 ^ unsigned_abs (pos 7 -ℤ p)) ≡ unit = ap pos (omega arith) ∙ sym is in
    record {
      below = λ c inner. ap (λ (u : ℤ). int_lt (c *ℤ u) range.lo) one ∙ below c inner;
      above = λ c inner. ap (λ (u : ℤ). int_lt range.hi (c *ℤ u)) one ∙ above c inner;
    }

-- the raw windows of the codes below i
abbrev pub AreRawBelow : ℕ → Bounds → List RawWindow → Type 0
AreRawBelow i window raws = (code : ℕ) → code < i → (nowhere : RawWindow) → IsRawWindow (precision_of code) window (get_or raws code nowhere)

pub raw_more : (window : Bounds) (raws : List RawWindow) (i : ℕ) (raw : RawWindow) → i < length raws → IsRawWindow (precision_of i) window raw → AreRawBelow i window raws → AreRawBelow (i + 1) window (set raws i raw)
raw_more window raws i raw within is before code less nowhere = go (cases_eq code i)
  where
    go : (code ≡ i) ⊎ (code ≡ i → ⊥) → IsRawWindow (precision_of code) window (get_or (set raws i raw) code nowhere)
    go (inl e) = subst (λ n. IsRawWindow (precision_of n) window (get_or (set raws i raw) n nowhere)) (sym e) (subst (IsRawWindow (precision_of i) window) (sym (get_or-set_same raws i raw nowhere within)) is)
    go (inr other) = subst (IsRawWindow (precision_of code) window) (sym (get_or-set_other raws i code raw nowhere other)) (before code (omega (arith, other)) nowhere)

-- ---- each precision from the next finer one
pub exact_raw : (p : ℤ) (window : Bounds) (raw : RawWindow) → IsExactWindow p window raw → IsRawWindow p window raw
exact_raw p window raw e = record {
  x = record { below = λ c inner. e.x.below c; above = λ c inner. e.x.above c };
  y = record { below = λ c inner. e.y.below c; above = λ c inner. e.y.above c };
}

-- a step of the coarser precision is ten of the finer one
ten_steps : (c p : ℤ) → p ≤ℤ pos 7 → units_of c (p -ℤ pos 1) ≡ units_of (c *ℤ pos 10) p
ten_steps c p le =
    let distance = unsigned_abs (pos 7 -ℤ p) in
    let more : unsigned_abs (pos 7 -ℤ (p -ℤ pos 1)) ≡ distance + 1 = omega (arith, ints, le) in
    ap (λ (k : ℕ). c *ℤ pos (10 ^ k)) more ∙ (ap (λ (n : ℕ). c *ℤ pos n) (pow-add 10 distance 1) ∙ regroup c (10 ^ distance))
  where
    regroup : (c : ℤ) (k : ℕ) → c *ℤ pos (k * 10) ≡ c *ℤ pos 10 *ℤ pos k
    regroup (pos a) k = pos-*ℤ-pos a (k * 10) ∙ (ap pos (along a k) ∙ (sym (pos-*ℤ-pos (a * 10) k) ∙ ap (λ (z : ℤ). z *ℤ pos k) (sym (pos-*ℤ-pos a 10))))
      where
        along : (a k : ℕ) → a * (k * 10) ≡ a * 10 * k
        along a k = omega (arith, mul_assoc a k 10)
    regroup (negsuc a) k = negsuc-*ℤ-pos a (k * 10) ∙ (ap (λ (n : ℕ). neg_ℤ (pos n)) (along (suc a) k) ∙ (sym (product (suc a * 10) k) ∙ ap (λ (z : ℤ). z *ℤ pos k) (sym (negsuc-*ℤ-pos a 10))))
      where
        along : (a k : ℕ) → a * (k * 10) ≡ a * 10 * k
        along a k = omega (arith, mul_assoc a k 10)

        product : (n k : ℕ) → neg_ℤ (pos n) *ℤ pos k ≡ neg_ℤ (pos (n * k))
        product zero k = zero-*ℤ (pos k) ∙ (λ j. neg_ℤ (pos (none j)))
          where
            none : 0 ≡ 0 * k
            none = omega arith
        product (suc n) k = negsuc-*ℤ-pos n k

pub coarser_ends : (p : ℤ) (range : Span) (raw coarse : RawEnds) → p ≤ℤ pos 7 → IsExactEnds p range raw
    → ((c : ℤ) → int_lt (c *ℤ pos 10) raw.least ≡ int_lt c coarse.least) → ((c : ℤ) → int_lt raw.greatest (c *ℤ pos 10) ≡ int_lt coarse.greatest c) → IsExactEnds (p -ℤ pos 1) range coarse
coarser_ends p range raw coarse le e up down = record {
  below = λ c. ap (λ (u : ℤ). int_lt u range.lo) (ten_steps c p le) ∙ (e.below (c *ℤ pos 10) ∙ up c);
  above = λ c. ap (int_lt range.hi) (ten_steps c p le) ∙ (e.above (c *ℤ pos 10) ∙ down c);
}

-- ends next to 0 are also those of the coarser precision
pub next_to_zero : (p : ℤ) (range : Span) (raw : RawEnds) → p ≤ℤ pos 7 → pos 0 ≤ℤ raw.least → raw.least ≤ℤ pos 1 → neg_ℤ (pos 1) ≤ℤ raw.greatest → raw.greatest ≤ℤ pos 0
    → IsExactEnds p range raw → IsExactEnds (p -ℤ pos 1) range raw
next_to_zero p range raw le least_some least_few greatest_few greatest_some e = coarser_ends p range raw raw le e
    (λ c. same_answer (c *ℤ pos 10) raw.least c raw.least (λ h. omega (arith, ints, least_some, least_few, h)) (λ h. omega (arith, ints, least_some, least_few, h)))
    (λ c. same_answer raw.greatest (c *ℤ pos 10) raw.greatest c (λ h. omega (arith, ints, greatest_some, greatest_few, h)) (λ h. omega (arith, ints, greatest_some, greatest_few, h)))

times_one : (c : ℤ) → c *ℤ pos 1 ≡ c
times_one c = omega (arith, ints)

pub finest_ends : (range : Span) (raw : RawEnds) → raw.least ≡ range.lo → raw.greatest ≡ range.hi → IsExactEnds (pos 7) range raw
finest_ends range raw lo hi = record {
  below = λ c. (λ j. int_lt (times_one c j) (sym lo j));
  above = λ c. (λ j. int_lt (sym hi j) (times_one c j));
}

-- the raw windows of the codes from i on
abbrev pub AreRawFrom : ℕ → Bounds → List RawWindow → Type 0
AreRawFrom i window raws = (code : ℕ) → i ≤ code → code < 16 → (nowhere : RawWindow) → IsRawWindow (precision_of code) window (get_or raws code nowhere)

pub raw_before : (window : Bounds) (raws : List RawWindow) (i : ℕ) (raw : RawWindow) → i < length raws → IsRawWindow (precision_of i) window raw → AreRawFrom (i + 1) window raws → AreRawFrom i window (set raws i raw)
raw_before window raws i raw within is after code from less nowhere = go (cases_eq code i)
  where
    go : (code ≡ i) ⊎ (code ≡ i → ⊥) → IsRawWindow (precision_of code) window (get_or (set raws i raw) code nowhere)
    go (inl e) = subst (λ n. IsRawWindow (precision_of n) window (get_or (set raws i raw) n nowhere)) (sym e) (subst (IsRawWindow (precision_of i) window) (sym (get_or-set_same raws i raw nowhere within)) is)
    go (inr other) = subst (IsRawWindow (precision_of code) window) (sym (get_or-set_other raws i code raw nowhere other)) (after code (omega (arith, from, other)) less nowhere)

-- a tenth, as 64 bits compute it
module _ (number : ℤ) (fits : FitsSigned w64 number) where
  ten : pos 0 <ℤ pos 10
  ten = omega (arith, ints)

  pub tenth_is : to_z w64 (of_z w64 (int_div (to_z w64 (of_z w64 number)) (pos 10))) ≡ int_div number (pos 10)
  tenth_is = (λ j. to_z w64 (of_z w64 (int_div (to_z-of_z w64 number fits j) (pos 10)))) ∙ to_z-of_z w64 (int_div number (pos 10)) (quot_fits w64 number (pos 10) fits ten)

  pub left_is : to_z w64 (of_z w64 (int_rem (to_z w64 (of_z w64 number)) (pos 10))) ≡ int_rem number (pos 10)
  left_is =
      let few = rem_below number (pos 10) (omega arith) in
      let small : FitsSigned w64 (int_rem number (pos 10)) = omega (arith, ints, few) in
      (λ j. to_z w64 (of_z w64 (int_rem (to_z-of_z w64 number fits j) (pos 10)))) ∙ to_z-of_z w64 (int_rem number (pos 10)) small

  pub tenth_up_is : (tenth rest c : ℤ) → tenth ≡ int_div number (pos 10) → rest ≡ int_rem number (pos 10) → int_lt (pos 0) rest ≡ true → int_lt (c *ℤ pos 10) number ≡ int_lt c (to_z w64 (of_z w64 (tenth +ℤ pos 1)))
  tenth_up_is tenth rest c q r some =
      let left : int_lt (pos 0) (int_rem number (pos 10)) ≡ true = ap (int_lt (pos 0)) (sym r) ∙ some in
      let whole = quot-rem number (pos 10) in
      let close : FitsSigned w64 (int_div number (pos 10) +ℤ pos 1) = let quotient = quot_fits w64 number (pos 10) fits ten in omega (arith, ints, whole, quotient, fits, left) in
      least_up number (pos 10) c ten left ∙ ap (int_lt c) (sym ((λ j. to_z w64 (of_z w64 (q j +ℤ pos 1))) ∙ to_z-of_z w64 (int_div number (pos 10) +ℤ pos 1) close))

  pub tenth_down_is : (tenth rest c : ℤ) → tenth ≡ int_div number (pos 10) → rest ≡ int_rem number (pos 10) → int_lt rest (pos 0) ≡ true → int_lt number (c *ℤ pos 10) ≡ int_lt (to_z w64 (of_z w64 (tenth -ℤ pos 1))) c
  tenth_down_is tenth rest c q r some =
      let left : int_lt (int_rem number (pos 10)) (pos 0) ≡ true = ap (λ (z : ℤ). int_lt z (pos 0)) (sym r) ∙ some in
      let whole = quot-rem number (pos 10) in
      let close : FitsSigned w64 (int_div number (pos 10) -ℤ pos 1) = let quotient = quot_fits w64 number (pos 10) fits ten in omega (arith, ints, whole, quotient, fits, left) in
      greatest_down number (pos 10) c ten left ∙ ap (λ (z : ℤ). int_lt z c) (sym ((λ j. to_z w64 (of_z w64 (q j -ℤ pos 1))) ∙ to_z-of_z w64 (int_div number (pos 10) -ℤ pos 1) close))

  pub tenth_whole_up : (tenth rest c : ℤ) → tenth ≡ int_div number (pos 10) → rest ≡ int_rem number (pos 10) → int_lt (pos 0) rest ≡ false → int_lt (c *ℤ pos 10) number ≡ int_lt c tenth
  tenth_whole_up tenth rest c q r none = least_as_it_is number (pos 10) c ten (ap (int_lt (pos 0)) (sym r) ∙ none) ∙ ap (int_lt c) (sym q)

  pub tenth_whole_down : (tenth rest c : ℤ) → tenth ≡ int_div number (pos 10) → rest ≡ int_rem number (pos 10) → int_lt rest (pos 0) ≡ false → int_lt number (c *ℤ pos 10) ≡ int_lt tenth c
  tenth_whole_down tenth rest c q r none = greatest_as_it_is number (pos 10) c ten (ap (λ (z : ℤ). int_lt z (pos 0)) (sym r) ∙ none) ∙ ap (λ (z : ℤ). int_lt z c) (sym q)
