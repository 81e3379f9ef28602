-- Two rows, one after the other, and their lanes.
use Rattle.twkb_num.proofs.Prelude.{◌≡◌, ℕ, ℤ, zero, suc, ◌+◌, ◌-◌, ◌*◌, ◌/◌, ◌%◌, ◌<◌, ◌≤◌, ◌^◌, true, eqb, ltb, refl, sym, ap, ◌∙◌, subst, List, [], ◌∷◌, ◌++◌, map, length, take, drop, get_or, arith, inl, inr, Fits, w8, eqb-true, ltb-true, lt-ltb, cond-true, or_cases, take-take, get_or-take, get_or-drop, map-append, shr-shr, pick_l_whole, get_or_wider, Each1-get_or, below_from_Fits, take-add, number_l, digits_l, Each1, All, cast_signed, same_number_lists, ints, SpellsAll, SpellsAllSigned, IsShort, IsBrief, zigzag_value, value_at, values, IsTops, IsFlag, NARROW_PLACES, NARROW_LEN, THREE_NARROW_LEN, WIDE_PLACES, WIDE_LEN, FIRST_WIDE_LEN}
use Rattle.std.proofs.lemmas.List.{append_assoc}
use Rattle.std.specs.Int.{w16, w32}
use Rattle.twkb_num.proofs.LaneLaws.{two_groups}
use Rattle.twkb_num.proofs.TableLaws.{is_flag, row_ok, wide_rows, narrow_rows, wide_flags, narrow_flags, first_wide_rows, three_narrow_rows, first_wide_flags, three_narrow_flags}
use Rattle.twkb_num.proofs.RowSpells.{IsPicked, row_holds}

-- ---- lengths
flag_from : (len : ℕ) → is_flag len ≡ true → IsFlag len
flag_from len h =
    elim (or_cases (ltb len 9) (eqb len 128) h) [
      | inl low ↦ inl (omega (arith, ltb-true len 9 low))
      | inr far ↦ inr (eqb-true len 128 far)
    ]

pub wide_flag : (tops len : ℕ) → tops < 256 → len ≡ get_or WIDE_LEN tops 0 → IsFlag len
wide_flag tops len few is = flag_from len (ap is_flag is ∙ wide_flags tops few)

pub narrow_flag : (tops len : ℕ) → tops < 256 → len ≡ get_or NARROW_LEN tops 0 → IsFlag len
narrow_flag tops len few is = flag_from len (ap is_flag is ∙ narrow_flags tops few)

pub first_wide_flag : (tops len : ℕ) → tops < 256 → len ≡ get_or FIRST_WIDE_LEN tops 0 → IsFlag len
first_wide_flag tops len few is = flag_from len (ap is_flag is ∙ first_wide_flags tops few)

pub three_narrow_flag : (tops len : ℕ) → tops < 256 → len ≡ get_or THREE_NARROW_LEN tops 0 → IsFlag len
three_narrow_flag tops len few is = flag_from len (ap is_flag is ∙ three_narrow_flags tops few)

pub flag_place : (len : ℕ) → IsFlag len → len % 16 ≤ 8
flag_place len (inl low) = omega (arith, low)
flag_place len (inr far) = omega (arith, far)

flag_short : (len : ℕ) → IsFlag len → len < 128 → len ≤ 8
flag_short len (inl low) short = low
flag_short len (inr far) short = absurd (omega (arith, far, short))

-- ---- rows
row_spells : (n k : ℕ) (v lanes : List ℕ) (places tops len : ℕ) → IsPicked v places lanes tops → ((i : ℕ) → value_at n lanes i < 2 ^ 64) → row_ok n k places 0 tops 0 len ≡ true → SpellsAll (take len v) (values n k lanes 0)
row_spells n k v lanes places tops len p small ok =
    let all : len - 0 ≡ len = omega arith in
    let held = row_holds v places lanes tops p n small k 0 0 len ok in
    subst (λ m. SpellsAll (take m v) (values n k lanes 0)) all held.spelled

pub wide_spells : (v lanes : List ℕ) (tops len : ℕ) → tops < 256 → len ≡ get_or WIDE_LEN tops 0 → IsPicked v (get_or WIDE_PLACES tops 0) lanes tops → len < 128 → SpellsAll (take len v) (values 4 2 lanes 0)
wide_spells v lanes tops len few is p short =
    let low : get_or WIDE_LEN tops 0 < 128 = omega (arith, is, short) in
    let ok = sym (cond-true (ltb (get_or WIDE_LEN tops 0) 128) _ _ (lt-ltb (get_or WIDE_LEN tops 0) 128 low)) ∙ wide_rows tops few in
    row_spells 4 2 v lanes (get_or WIDE_PLACES tops 0) tops len p (λ i. omega arith) (ap (row_ok 4 2 (get_or WIDE_PLACES tops 0) 0 tops 0) is ∙ ok)

pub narrow_spells : (v lanes : List ℕ) (tops len : ℕ) → tops < 256 → len ≡ get_or NARROW_LEN tops 0 → IsPicked v (get_or NARROW_PLACES tops 0) lanes tops → len < 128 → SpellsAll (take len v) (values 2 4 lanes 0)
narrow_spells v lanes tops len few is p short =
    let low : get_or NARROW_LEN tops 0 < 128 = omega (arith, is, short) in
    let ok = sym (cond-true (ltb (get_or NARROW_LEN tops 0) 128) _ _ (lt-ltb (get_or NARROW_LEN tops 0) 128 low)) ∙ narrow_rows tops few in
    row_spells 2 4 v lanes (get_or NARROW_PLACES tops 0) tops len p (λ i. omega arith) (ap (row_ok 2 4 (get_or NARROW_PLACES tops 0) 0 tops 0) is ∙ ok)

pub first_wide_spells : (v lanes : List ℕ) (tops len : ℕ) → tops < 256 → len ≡ get_or FIRST_WIDE_LEN tops 0 → IsPicked v (get_or WIDE_PLACES tops 0) lanes tops → len < 128 → SpellsAll (take len v) (values 4 1 lanes 0)
first_wide_spells v lanes tops len few is p short =
    let low : get_or FIRST_WIDE_LEN tops 0 < 128 = omega (arith, is, short) in
    let ok = sym (cond-true (ltb (get_or FIRST_WIDE_LEN tops 0) 128) _ _ (lt-ltb (get_or FIRST_WIDE_LEN tops 0) 128 low)) ∙ first_wide_rows tops few in
    row_spells 4 1 v lanes (get_or WIDE_PLACES tops 0) tops len p (λ i. omega arith) (ap (row_ok 4 1 (get_or WIDE_PLACES tops 0) 0 tops 0) is ∙ ok)

pub three_narrow_spells : (v lanes : List ℕ) (tops len : ℕ) → tops < 256 → len ≡ get_or THREE_NARROW_LEN tops 0 → IsPicked v (get_or NARROW_PLACES tops 0) lanes tops → len < 128 → SpellsAll (take len v) (values 2 3 lanes 0)
three_narrow_spells v lanes tops len few is p short =
    let low : get_or THREE_NARROW_LEN tops 0 < 128 = omega (arith, is, short) in
    let ok = sym (cond-true (ltb (get_or THREE_NARROW_LEN tops 0) 128) _ _ (lt-ltb (get_or THREE_NARROW_LEN tops 0) 128 low)) ∙ three_narrow_rows tops few in
    row_spells 2 3 v lanes (get_or NARROW_PLACES tops 0) tops len p (λ i. omega arith) (ap (row_ok 2 3 (get_or NARROW_PLACES tops 0) 0 tops 0) is ∙ ok)

-- ---- tops
low_bits : (t i : ℕ) → i < 8 → t % 256 / 2 ^ i % 2 ≡ t / 2 ^ i % 2
low_bits t zero h = omega arith
low_bits t (suc zero) h = omega arith
low_bits t (suc (suc zero)) h = omega arith
low_bits t (suc (suc (suc zero))) h = omega arith
low_bits t (suc (suc (suc (suc zero)))) h = omega arith
low_bits t (suc (suc (suc (suc (suc zero))))) h = omega arith
low_bits t (suc (suc (suc (suc (suc (suc zero)))))) h = omega arith
low_bits t (suc (suc (suc (suc (suc (suc (suc zero))))))) h = omega arith
low_bits t (suc (suc (suc (suc (suc (suc (suc (suc i)))))))) h = absurd (omega (arith, h))

pub first_tops : (tops : ℕ) (v : List ℕ) → IsTops 16 tops v → IsTops 8 (tops % 256) v
first_tops tops v all i h = low_bits tops i h ∙ all i (omega (arith, h))

-- the front of bytes has their tops
pub front_tops : (many n tops : ℕ) (bytes v : List ℕ) → v ≡ take n bytes → many ≤ n → IsTops many tops bytes → IsTops many tops v
front_tops many n tops bytes v is few all i h = all i h ∙ ap (λ x. x / 128) (sym (get_or-take n bytes i 0 (omega (arith, h, few))) ∙ sym (ap (λ l. get_or l i 0) is))

-- bytes have the tops of their front
pub tops_of_front : (many tops : ℕ) (bytes v : List ℕ) → v ≡ take many bytes → IsTops many tops v → IsTops many tops bytes
tops_of_front many tops bytes v is all i h = all i h ∙ ap (λ x. x / 128) (ap (λ l. get_or l i 0) is ∙ get_or-take many bytes i 0 h)

-- the tops without the lowest s are those of the bytes after the first s
pub tops_behind : (many s tops : ℕ) (bytes : List ℕ) → IsTops many tops bytes → IsTops (many - s) (tops / 2 ^ s) (drop s bytes)
tops_behind many s tops bytes all i h = ap (λ x. x % 2) (shr-shr tops s i) ∙ all (s + i) (omega (arith, h)) ∙ ap (λ x. x / 128) (sym (get_or-drop s bytes i 0))

-- the eight tops after the first s of sixteen
pub second_tops : (tops from s : ℕ) (bytes w : List ℕ) → IsTops 16 tops bytes → w ≡ take 16 (drop s bytes) → s ≤ 8 → from ≡ tops / 2 ^ s % 256 → IsTops 8 from w
second_tops tops from s bytes w all w_is few is i h =
    ap (λ x. x / 2 ^ i % 2) is ∙ low_bits (tops / 2 ^ s) i h ∙ front_tops (16 - s) 16 (tops / 2 ^ s) (drop s bytes) w w_is (omega arith) (tops_behind 16 s tops bytes all) i (omega (arith, h, few))

-- ---- pieces
pub first_piece : (bytes : List ℕ) → take 16 (take 16 bytes) ≡ take 16 bytes
first_piece bytes = take-take 16 16 bytes (omega arith)

pub second_piece : (s : ℕ) (bytes : List ℕ) → take 16 (take (s + 16 - s) (drop s bytes)) ≡ take 16 (drop s bytes)
second_piece s bytes =
    let many : s + 16 - s ≡ 16 = omega arith in
    ap (λ k. take 16 (take k (drop s bytes))) many ∙ first_piece (drop s bytes)

-- ---- spellings
signed_all : (bs ns : List ℕ) → SpellsAll bs ns → SpellsAllSigned bs (map zigzag_value ns)
signed_all bs [] a = a
signed_all bs (n ∷ ns) a = (a.0, a.1, a.2, (n, a.3, refl), signed_all a.1 ns a.4)

-- bytes that spell numbers, and then bytes that spell more, spell all of them
pub SpellsAllSigned-append : (bs cs : List ℕ) (xs ys : List ℤ) → SpellsAllSigned bs xs → SpellsAllSigned cs ys → SpellsAllSigned (bs ++ cs) (xs ++ ys)
SpellsAllSigned-append bs cs [] ys a b = subst (λ ds. SpellsAllSigned (ds ++ cs) ys) (sym a) b
SpellsAllSigned-append bs cs (x ∷ xs) ys a b = (a.0, a.1 ++ cs, ap (λ ds. ds ++ cs) a.2 ∙ append_assoc a.0 a.1 cs, a.3, SpellsAllSigned-append a.1 cs xs ys a.4 b)

at_front : (bytes v ns : List ℕ) (len : ℕ) → v ≡ take 16 bytes → len ≤ 16 → SpellsAll (take len v) ns → SpellsAll (take len bytes) ns
at_front bytes v ns len v_is few a = subst (λ xs. SpellsAll xs ns) (ap (take len) v_is ∙ take-take len 16 bytes few) a

-- two rows of numbers that fit their lanes, one after the other, spell what the lanes mean
pub lanes_spell : (bytes v w ns ms : List ℕ) (one two : ℕ) (zs : List ℤ) → v ≡ take 16 bytes → w ≡ take 16 (drop (one % 16) bytes) → IsFlag one → IsFlag two
    → (one < 128 → SpellsAll (take one v) ns) → (two < 128 → SpellsAll (take two w) ms) → zs ≡ map zigzag_value (ns ++ ms) → one + two < 128
    → SpellsAllSigned (take (one + two) bytes) zs
lanes_spell bytes v w ns ms one two zs v_is w_is flag_one flag_two first second means short =
    let few_one = flag_short one flag_one (omega (arith, short)) in
    let few_two = flag_short two flag_two (omega (arith, short)) in
    let at : one % 16 ≡ one = omega (arith, few_one) in
    let front = at_front bytes v ns one v_is (omega (arith, few_one)) (first (omega (arith, short))) in
    let behind = at_front (drop one bytes) w ms two (w_is ∙ ap (λ s. take 16 (drop s bytes)) at) (omega (arith, few_two)) (second (omega (arith, short))) in
    let all = SpellsAllSigned-append _ _ _ _ (signed_all (take one bytes) ns front) (signed_all (take two (drop one bytes)) ms behind) in
    rw (take-add one two bytes, means, map-append) all

-- ---- lanes
cons_same : {A : Type 0} (x y : A) (xs ys : List A) → x ≡ y → xs ≡ ys → x ∷ xs ≡ y ∷ ys
cons_same x y xs ys e es = ap (λ z. z ∷ xs) e ∙ ap (λ zs. y ∷ zs) es

value_same : (xs ys : List ℕ) (s : ℕ) → ((i : ℕ) → i < 8 → get_or xs (s + i) 0 ≡ get_or ys i 0) → (n i : ℕ) → i + n ≤ 8 → value_at n xs (s + i) ≡ value_at n ys i
value_same xs ys s same zero i h = refl
value_same xs ys s same (suc n) i h =
    let next : suc (s + i) ≡ s + suc i = omega arith in
    omega (arith, same i (omega (arith, h)), ap (value_at n xs) next, value_same xs ys s same n (suc i) (omega (arith, h)))

-- one row of numbers that fit their lanes spells what the first two lanes mean
pub pair_spelled : (bytes v lanes : List ℕ) (len : ℕ) (zs : List ℤ) → v ≡ take 16 bytes → IsFlag len → len < 128 → SpellsAll (take len v) (values 4 2 lanes 0)
    → zs ≡ map zigzag_value (values 4 4 lanes 0) → SpellsAllSigned (take len bytes) (take 2 zs)
pair_spelled bytes v lanes len zs v_is flag short spelled means =
    let few = flag_short len flag short in
    let all = signed_all (take len bytes) (values 4 2 lanes 0) (at_front bytes v (values 4 2 lanes 0) len v_is (omega (arith, few)) spelled) in
    subst (λ (ns : List ℤ). SpellsAllSigned (take len bytes) (take 2 ns)) (sym means) all

-- a lane of two bytes
narrow_lane : (a b : ℕ) → a < 256 → b < 256 → two_groups (a + 256 * (b + 256 * 0)) ≡ a % 128 + 128 * (b % 128 + 128 * 0)
narrow_lane a b in_a in_b = omega (arith, in_a, in_b)

-- eight lanes of two bytes
pub narrow_lanes : (bytes : List ℕ) → length bytes ≡ 16 → Each1 (Fits w8) bytes → map two_groups (digits_l 65536 8 (number_l 256 bytes)) ≡ values 2 8 bytes 0
narrow_lanes bytes long fits =
    let below = below_from_Fits w8 bytes fits in
    let fit = λ (i : ℕ) (h : i < 16). Each1-get_or (λ x. x < 256) bytes i 0 (omega (arith, h, long)) below in
    let listed = sym (pick_l_whole 0 bytes 16 long) in
    let g = λ (i : ℕ). get_or bytes i 0 in
    let lane = λ (j : ℕ) (h : j < 8). get_or_wider 256 2 65536 8 bytes j refl below h ∙ ap (λ l. number_l 256 (take 2 (drop (2 * j) l))) listed in
    cons_same _ _ _ _ (ap two_groups (lane 0 (omega arith)) ∙ narrow_lane (g 0) (g 1) (fit 0 (omega arith)) (fit 1 (omega arith)))
    (cons_same _ _ _ _ (ap two_groups (lane 1 (omega arith)) ∙ narrow_lane (g 2) (g 3) (fit 2 (omega arith)) (fit 3 (omega arith)))
    (cons_same _ _ _ _ (ap two_groups (lane 2 (omega arith)) ∙ narrow_lane (g 4) (g 5) (fit 4 (omega arith)) (fit 5 (omega arith)))
    (cons_same _ _ _ _ (ap two_groups (lane 3 (omega arith)) ∙ narrow_lane (g 6) (g 7) (fit 6 (omega arith)) (fit 7 (omega arith)))
    (cons_same _ _ _ _ (ap two_groups (lane 4 (omega arith)) ∙ narrow_lane (g 8) (g 9) (fit 8 (omega arith)) (fit 9 (omega arith)))
    (cons_same _ _ _ _ (ap two_groups (lane 5 (omega arith)) ∙ narrow_lane (g 10) (g 11) (fit 10 (omega arith)) (fit 11 (omega arith)))
    (cons_same _ _ _ _ (ap two_groups (lane 6 (omega arith)) ∙ narrow_lane (g 12) (g 13) (fit 12 (omega arith)) (fit 13 (omega arith)))
    (cons_same _ _ _ _ (ap two_groups (lane 7 (omega arith)) ∙ narrow_lane (g 14) (g 15) (fit 14 (omega arith)) (fit 15 (omega arith))) refl)))))))

-- numbers in eight bytes of `lo` and then eight of `hi`
pub wide_values : (both lo hi : List ℕ) → ((i : ℕ) → i < 8 → get_or both i 0 ≡ get_or lo i 0) → ((i : ℕ) → i < 8 → get_or both (8 + i) 0 ≡ get_or hi i 0)
    → values 4 4 both 0 ≡ values 4 2 lo 0 ++ values 4 2 hi 0
wide_values both lo hi in_low in_high =
    let low = value_same both lo 0 (λ i h. let e : 0 + i ≡ i = omega arith in ap (λ k. get_or both k 0) e ∙ in_low i h) 4 in
    let high = value_same both hi 8 in_high 4 in
    cons_same _ _ _ _ (low 0 (omega arith)) (cons_same _ _ _ _ (low 4 (omega arith)) (cons_same _ _ _ _ (high 0 (omega arith)) (cons_same _ _ _ _ (high 4 (omega arith)) refl)))

pub narrow_values : (both lo hi : List ℕ) → ((i : ℕ) → i < 8 → get_or both i 0 ≡ get_or lo i 0) → ((i : ℕ) → i < 8 → get_or both (8 + i) 0 ≡ get_or hi i 0)
    → values 2 8 both 0 ≡ values 2 4 lo 0 ++ values 2 4 hi 0
narrow_values both lo hi in_low in_high =
    let low = value_same both lo 0 (λ i h. let e : 0 + i ≡ i = omega arith in ap (λ k. get_or both k 0) e ∙ in_low i h) 2 in
    let high = value_same both hi 8 in_high 2 in
    cons_same _ _ _ _ (low 0 (omega arith)) (cons_same _ _ _ _ (low 2 (omega arith)) (cons_same _ _ _ _ (low 4 (omega arith)) (cons_same _ _ _ _ (low 6 (omega arith))
    (cons_same _ _ _ _ (high 0 (omega arith)) (cons_same _ _ _ _ (high 2 (omega arith)) (cons_same _ _ _ _ (high 4 (omega arith)) (cons_same _ _ _ _ (high 6 (omega arith)) refl)))))))

-- ---- the first two of four lanes
pub four_of : (l : List ℕ) → length l ≡ 4 → (a b c d : ℕ) × (l ≡ a ∷ b ∷ c ∷ d ∷ [])
four_of [] e = absurd (omega (arith, e))
four_of (a ∷ []) e = absurd (omega (arith, e))
four_of (a ∷ b ∷ []) e = absurd (omega (arith, e))
four_of (a ∷ b ∷ c ∷ []) e = absurd (omega (arith, e))
four_of (a ∷ b ∷ c ∷ d ∷ []) e = (a, b, c, d, refl)
four_of (a ∷ b ∷ c ∷ d ∷ f ∷ l) e = absurd (omega (arith, e))

pub two_short : (a b c d : ℕ) → All IsShort (map (cast_signed w32) (a ∷ b ∷ c ∷ d ∷ [])) → All IsShort (map (cast_signed w32) (a ∷ b ∷ 0 ∷ 0 ∷ []))
two_short a b c d all zero e h = all 0 e (omega arith)
two_short a b c d all (suc zero) e h = all 1 e (omega arith)
two_short a b c d all (suc (suc zero)) e h = omega (arith, ints)
two_short a b c d all (suc (suc (suc zero))) e h = omega (arith, ints)
two_short a b c d all (suc (suc (suc (suc k)))) e h = absurd (omega (arith, h))

pub three_short : (a b c d : ℕ) → All IsShort (map (cast_signed w32) (a ∷ b ∷ c ∷ d ∷ [])) → All IsShort (map (cast_signed w32) (a ∷ b ∷ c ∷ 0 ∷ []))
three_short a b c d all zero e h = all 0 e (omega arith)
three_short a b c d all (suc zero) e h = all 1 e (omega arith)
three_short a b c d all (suc (suc zero)) e h = all 2 e (omega arith)
three_short a b c d all (suc (suc (suc zero))) e h = omega (arith, ints)
three_short a b c d all (suc (suc (suc (suc k)))) e h = absurd (omega (arith, h))

-- ---- twice three of eight lanes
eight_at : (l : List ℕ) (k : ℕ) → k < 8 → get_or l k 0 ≡ get_or (get_or l 0 0 ∷ get_or l 1 0 ∷ get_or l 2 0 ∷ get_or l 3 0 ∷ get_or l 4 0 ∷ get_or l 5 0 ∷ get_or l 6 0 ∷ get_or l 7 0 ∷ []) k 0
eight_at l zero h = refl
eight_at l (suc zero) h = refl
eight_at l (suc (suc zero)) h = refl
eight_at l (suc (suc (suc zero))) h = refl
eight_at l (suc (suc (suc (suc zero)))) h = refl
eight_at l (suc (suc (suc (suc (suc zero))))) h = refl
eight_at l (suc (suc (suc (suc (suc (suc zero)))))) h = refl
eight_at l (suc (suc (suc (suc (suc (suc (suc zero))))))) h = refl
eight_at l (suc (suc (suc (suc (suc (suc (suc (suc k)))))))) h = absurd (omega (arith, h))

pub eight_of : (l : List ℕ) → length l ≡ 8 → (a b c d e f g h : ℕ) × (l ≡ a ∷ b ∷ c ∷ d ∷ e ∷ f ∷ g ∷ h ∷ [])
eight_of l e =
    let g = λ (i : ℕ). get_or l i 0 in
    (g 0, g 1, g 2, g 3, g 4, g 5, g 6, g 7, same_number_lists l (g 0 ∷ g 1 ∷ g 2 ∷ g 3 ∷ g 4 ∷ g 5 ∷ g 6 ∷ g 7 ∷ []) e (λ k h. eight_at l k (omega (arith, h, e))))

pub six_brief : (a b c d e f g h : ℕ) → All IsBrief (map (cast_signed w16) (a ∷ b ∷ c ∷ d ∷ e ∷ f ∷ g ∷ h ∷ [])) → All IsBrief (map (cast_signed w16) (a ∷ b ∷ c ∷ 0 ∷ e ∷ f ∷ g ∷ 0 ∷ []))
six_brief a b c d e f g h all zero z l = all 0 z (omega arith)
six_brief a b c d e f g h all (suc zero) z l = all 1 z (omega arith)
six_brief a b c d e f g h all (suc (suc zero)) z l = all 2 z (omega arith)
six_brief a b c d e f g h all (suc (suc (suc zero))) z l = omega (arith, ints)
six_brief a b c d e f g h all (suc (suc (suc (suc zero)))) z l = all 4 z (omega arith)
six_brief a b c d e f g h all (suc (suc (suc (suc (suc zero))))) z l = all 5 z (omega arith)
six_brief a b c d e f g h all (suc (suc (suc (suc (suc (suc zero)))))) z l = all 6 z (omega arith)
six_brief a b c d e f g h all (suc (suc (suc (suc (suc (suc (suc zero))))))) z l = omega (arith, ints)
six_brief a b c d e f g h all (suc (suc (suc (suc (suc (suc (suc (suc k)))))))) z l = absurd (omega (arith, l))
