-- Points in lanes of 32 bits, as distances from a base.
use Rattle.twkb_body.proofs.Prelude.{◌≡◌, ℕ, zero, suc, ◌+◌, ◌%◌, ◌<◌, ◌≤◌, ◌==◌, List, [], ◌∷◌, ◌++◌, map, length, take, drop, fold, ℤ, pos, neg_ℤ, ◌+ℤ◌, ◌≤ℤ◌, Bool, true, false, Some, None, inl, inr, refl, sym, ap, ap₂, ◌∙◌, subst, arith, slice_index, w16, w32, IsShort, IsBrief, All, if◌then◌else◌, nat_lt, min, max, cast_signed, cast_unsigned, int_min, int_max, cases_lt, lt-ltb, le-ltb, ne_eqb, eqb-true, leb_tells, ints, clamps, fold-append, Span, Lanes, Base, span_of, joined, Stays, running, sum_fits, distance, lane_sum, lane_span, steps, lane_range, lanes_range, axis_in, no_lanes, IsLane, AreHeld, IsNearZero, Grows}
use Rattle.std.specs.Prelude.{Option}
use Rattle.twkb_body.proofs.LaneSums.{wrapped}
use Rattle.twkb_body.proofs.NumberRuns.{Stays-append, running-append, within_fits}
use Rattle.twkb_body.proofs.Reaches.{joined-assoc, span_of-append}

lesser : (a b : ℕ) → (if nat_lt a b then a else b) ≡ min a b
lesser a b = grind (arith, leb_tells)

greater : (a b : ℕ) → (if nat_lt a b then b else a) ≡ max a b
greater a b = grind (arith, leb_tells)

-- the lesser lane of two lists in a place
abbrev lesser_at : List ℕ → List ℕ → ℕ → ℕ
lesser_at first second i = if nat_lt (slice_index first i) (slice_index second i) then slice_index first i else slice_index second i

abbrev greater_at : List ℕ → List ℕ → ℕ → ℕ
greater_at first second i = if nat_lt (slice_index first i) (slice_index second i) then slice_index second i else slice_index first i

pub lesser_lane : (first second : List ℕ) (i : ℕ) → i < 4
    → slice_index (lesser_at first second 0 ∷ lesser_at first second 1 ∷ lesser_at first second 2 ∷ lesser_at first second 3 ∷ []) i ≡ min (slice_index first i) (slice_index second i)
lesser_lane first second zero h = lesser (slice_index first 0) (slice_index second 0)
lesser_lane first second (suc zero) h = lesser (slice_index first 1) (slice_index second 1)
lesser_lane first second (suc (suc zero)) h = lesser (slice_index first 2) (slice_index second 2)
lesser_lane first second (suc (suc (suc zero))) h = lesser (slice_index first 3) (slice_index second 3)
lesser_lane first second (suc (suc (suc (suc i)))) h = absurd (omega (arith, h))

pub greater_lane : (first second : List ℕ) (i : ℕ) → i < 4
    → slice_index (greater_at first second 0 ∷ greater_at first second 1 ∷ greater_at first second 2 ∷ greater_at first second 3 ∷ []) i ≡ max (slice_index first i) (slice_index second i)
greater_lane first second zero h = greater (slice_index first 0) (slice_index second 0)
greater_lane first second (suc zero) h = greater (slice_index first 1) (slice_index second 1)
greater_lane first second (suc (suc zero)) h = greater (slice_index first 2) (slice_index second 2)
greater_lane first second (suc (suc (suc zero))) h = greater (slice_index first 3) (slice_index second 3)
greater_lane first second (suc (suc (suc (suc i)))) h = absurd (omega (arith, h))

-- ---- room
pub room_at : (lane sum : ℕ) → lane < 4294967296 → sum ≡ lane_sum lane 3221225472 → sum ≤ 2147483647 → (1073741824 ≤ lane) × (lane < 3221225472)
room_at lane sum fits is low = (omega (arith, fits, is, low), omega (arith, fits, is, low))

-- ---- ranges in lanes
-- if the least lane is above the greatest, there are no points
abbrev pub AreEnds : ℕ → ℕ → Type 0
AreEnds least greatest = greatest < least → (least ≡ 4294967295) × (greatest ≡ 0)

pub joined-comm : (a b : Option Span) → joined a b ≡ joined b a
joined-comm None None = refl
joined-comm None (Some b) = refl
joined-comm (Some a) None = refl
joined-comm (Some a) (Some b) =
    let low : int_min a.lo b.lo ≡ int_min b.lo a.lo = omega (arith, ints, clamps) in
    let high : int_max a.hi b.hi ≡ int_max b.hi a.hi = omega (arith, ints, clamps) in
    (λ j. Some (record { lo = low j; hi = high j }))

abbrev ends_span : ℤ → ℕ → ℕ → Option Span
ends_span base least greatest = Some (record { lo = base +ℤ distance least; hi = base +ℤ distance greatest })

some_span : (base : ℤ) (least greatest : ℕ) → least ≤ greatest → lane_span base least greatest ≡ ends_span base least greatest
some_span base least greatest le = rw (le-ltb greatest least le) refl

no_span : (base : ℤ) (least greatest : ℕ) → greatest < least → lane_span base least greatest ≡ None
no_span base least greatest lt = rw (lt-ltb greatest least lt) refl

-- the range of two lanes together
pub two_lanes : (base : ℤ) (l g l' g' : ℕ) → AreEnds l g → AreEnds l' g' → l < 4294967296 → l' < 4294967296
    → lane_span base (min l l') (max g g') ≡ joined (lane_span base l g) (lane_span base l' g')
two_lanes base l g l' g' e e' fits fits' = elim (cases_lt g l) [
  | inl none ↦
      let is = e none in
      let low : min l l' ≡ l' = omega (arith, is.0, fits') in
      let high : max g g' ≡ g' = omega (arith, is.1) in
      rw (no_span base l g none, low, high) refl
  | inr some ↦ elim (cases_lt g' l') [
    | inl none' ↦
        let is' = e' none' in
        let low : min l l' ≡ l = omega (arith, is'.0, fits) in
        let high : max g g' ≡ g = omega (arith, is'.1) in
        rw (no_span base l' g' none', low, high, some_span base l g some) refl
    | inr some' ↦
        let both : min l l' ≤ max g g' = omega (arith, some, some') in
        let low : base +ℤ distance (min l l') ≡ int_min (base +ℤ distance l) (base +ℤ distance l') = omega (arith, ints, clamps) in
        let high : base +ℤ distance (max g g') ≡ int_max (base +ℤ distance g) (base +ℤ distance g') = omega (arith, ints, clamps) in
        rw (some_span base (min l l') (max g g') both, some_span base l g some, some_span base l' g' some') (λ j. Some (record { lo = low j; hi = high j }))
  ]
]

-- the range of a lane and one more point
pub one_more : (base : ℤ) (l g p : ℕ) → AreEnds l g → l < 4294967296 → p < 4294967296
    → lane_span base (min l p) (max g p) ≡ joined (lane_span base l g) (span_of ((base +ℤ distance p) ∷ []))
one_more base l g p e fits fits' =
    two_lanes base l g p p e (λ lt. absurd (omega (arith, lt))) fits fits' ∙ ap (joined (lane_span base l g)) (some_span base p p (omega arith))

pub ends_more : (l g p : ℕ) → AreEnds l g → AreEnds (min l p) (max g p)
ends_more l g p e = λ lt. absurd (omega (arith, lt))

pub ends_joined : (r : Option Span) (base : ℤ) (l g : ℕ) (p q : ℤ) → l ≤ g → p ≡ base +ℤ distance l → q ≡ base +ℤ distance g
    → joined (joined r (span_of (p ∷ []))) (span_of (q ∷ [])) ≡ joined r (lane_span base l g)
ends_joined r base l g p q le p_is q_is =
    let low : int_min p q ≡ base +ℤ distance l = omega (arith, ints, clamps, le, p_is, q_is) in
    let high : int_max p q ≡ base +ℤ distance g = omega (arith, ints, clamps, le, p_is, q_is) in
    joined-assoc r (span_of (p ∷ [])) (span_of (q ∷ [])) ∙ ap (joined r) ((λ j. Some (record { lo = low j; hi = high j })) ∙ sym (some_span base l g le))

pub no_ends : (r : Option Span) (base : ℤ) (l g : ℕ) → g < l → r ≡ joined r (lane_span base l g)
no_ends r base l g lt = none r ∙ ap (joined r) (sym (no_span base l g lt))
  where
    none : (r : Option Span) → r ≡ joined r None
    none None = refl
    none (Some a) = refl

-- ---- sums in lanes
-- a difference that lanes can add
abbrev pub IsStep : ℤ → Type 0
IsStep z = (neg_ℤ (pos 536870912) ≤ℤ z) × (z ≤ℤ pos 536870912)

-- a lane to which lanes can add a difference
abbrev pub IsMiddle : ℕ → Type 0
IsMiddle lane = (536870912 ≤ lane) × (lane < 3758096384)

-- a difference moves a lane by as much
pub moved_lane : (z : ℤ) (lane : ℕ) → IsStep z → IsMiddle lane → (distance (lane_sum (cast_unsigned w32 z) lane) ≡ distance lane +ℤ z) × (lane_sum (cast_unsigned w32 z) lane < 4294967296)
moved_lane z lane step middle =
    let lane_is = wrapped z (omega (arith, ints, step.0)) in
    (omega (arith, ints, step.0, step.1, middle.0, middle.1, lane_is), omega arith)

pub near_fits : (base : ℤ) (lane : ℕ) → IsNearZero base → lane < 4294967296 → sum_fits (base +ℤ distance lane)
near_fits base lane near fits = within_fits (base +ℤ distance lane) (omega (arith, ints, near.0, near.1, fits)) (omega (arith, ints, near.0, near.1, fits))

-- ---- growing
pub grows_nothing : (s : ℤ) (r : Option Span) → Grows s r [] s r
grows_nothing s r = record { sum = refl; reach = none r; stays = tt }
  where
    none : (r : Option Span) → r ≡ joined r None
    none None = refl
    none (Some a) = refl

pub grows_on : (s s' s'' : ℤ) (r r' r'' : Option Span) (xs ys : List ℤ) → Grows s r xs s' r' → Grows s' r' ys s'' r'' → Grows s r (xs ++ ys) s'' r''
grows_on s s' s'' r r' r'' xs ys p q =
    let there : running s (xs ++ ys) ≡ running s xs ++ running s' ys = running-append s xs ys ∙ ap (λ (t : ℤ). running s xs ++ running t ys) (sym p.sum) in
    record {
      sum = q.sum ∙ ap (λ (t : ℤ). fold ◌+ℤ◌ t ys) p.sum ∙ sym (fold-append ◌+ℤ◌ s xs ys);
      reach = q.reach ∙ ap (λ (t : Option Span). joined t (span_of (running s' ys))) p.reach ∙ joined-assoc r (span_of (running s xs)) (span_of (running s' ys))
          ∙ ap (joined r) (sym (span_of-append (running s xs) (running s' ys))) ∙ ap (λ (l : List ℤ). joined r (span_of l)) (sym there);
      stays = Stays-append s xs ys p.stays (subst (λ (t : ℤ). Stays t ys) p.sum q.stays);
    }

-- other points that were seen before don't matter
pub grows_after : (s s' : ℤ) (before r r' : Option Span) (zs : List ℤ) → Grows s r zs s' r' → Grows s (joined before r) zs s' (joined before r')
grows_after s s' before r r' zs p = record {
  sum = p.sum;
  reach = ap (joined before) p.reach ∙ sym (joined-assoc before r (span_of (running s zs)));
  stays = p.stays;
}

-- one point in a lane
pub one_seen : (base z : ℤ) (x l g p : ℕ) → IsNearZero base → IsStep z → IsMiddle x → AreEnds l g → l < 4294967296 → p ≡ lane_sum (cast_unsigned w32 z) x
    → Grows (base +ℤ distance x) (lane_span base l g) (z ∷ []) (base +ℤ distance p) (lane_span base (min l p) (max g p))
one_seen base z x l g p near step middle ends fits is =
    let moved = moved_lane z x step middle in
    let there : base +ℤ distance p ≡ (base +ℤ distance x) +ℤ z = omega (arith, ints, moved.0, ap distance is) in
    let small : p < 4294967296 = omega (arith, is) in
    record {
      sum = there;
      reach = one_more base l g p ends fits small ∙ ap (λ (c : ℤ). joined (lane_span base l g) (span_of (c ∷ []))) there;
      stays = (subst sum_fits there (near_fits base p near small), tt);
    }

-- two points of two axes: the first one's lane, and the second one's
pub two_seen : (base y z : ℤ) (x l g l' g' p q : ℕ) → IsNearZero base → IsStep y → IsStep (z +ℤ y) → IsMiddle x → AreEnds l g → AreEnds l' g' → l < 4294967296 → l' < 4294967296
    → p ≡ lane_sum (cast_unsigned w32 y) x → q ≡ lane_sum (cast_unsigned w32 (z +ℤ y)) x
    → Grows (base +ℤ distance x) (joined (lane_span base l g) (lane_span base l' g')) (y ∷ z ∷ []) (base +ℤ distance q) (joined (lane_span base (min l p) (max g p)) (lane_span base (min l' q) (max g' q)))
two_seen base y z x l g l' g' p q near first second middle ends ends' fits fits' p_is q_is =
    let moved = moved_lane y x first middle in
    let moved' = moved_lane (z +ℤ y) x second middle in
    let s = base +ℤ distance x in
    let p_there : base +ℤ distance p ≡ s +ℤ y = omega (arith, ints, moved.0, ap distance p_is) in
    let q_there : base +ℤ distance q ≡ (s +ℤ y) +ℤ z = omega (arith, ints, moved'.0, ap distance q_is) in
    let p_small : p < 4294967296 = omega (arith, p_is) in
    let q_small : q < 4294967296 = omega (arith, q_is) in
    let a = lane_span base l g in
    let b = lane_span base l' g' in
    let one = span_of ((s +ℤ y) ∷ []) in
    let two = span_of (((s +ℤ y) +ℤ z) ∷ []) in
    let first_range : lane_span base (min l p) (max g p) ≡ joined a one = one_more base l g p ends fits p_small ∙ ap (λ (c : ℤ). joined a (span_of (c ∷ []))) p_there in
    let second_range : lane_span base (min l' q) (max g' q) ≡ joined b two = one_more base l' g' q ends' fits' q_small ∙ ap (λ (c : ℤ). joined b (span_of (c ∷ []))) q_there in
    record {
      sum = q_there;
      reach = ap₂ joined first_range second_range ∙ exchanged a one b two;
      stays = (subst sum_fits p_there (near_fits base p near p_small), (subst sum_fits q_there (near_fits base q near q_small), tt));
    }
  where
    exchanged : (a b c d : Option Span) → joined (joined a b) (joined c d) ≡ joined (joined a c) (joined b d)
    exchanged a b c d = joined-assoc a b (joined c d) ∙ ap (joined a) (sym (joined-assoc b c d) ∙ ap (λ (t : Option Span). joined t d) (joined-comm b c) ∙ joined-assoc c b d) ∙ sym (joined-assoc a c (joined b d))

-- ---- steps
pub two_steps : (axes : ℕ) (a b c d : ℤ) → axes ≡ 2 → steps axes a b c d ≡ a ∷ b ∷ (c +ℤ a) ∷ (d +ℤ b) ∷ []
two_steps axes a b c d two = subst (λ (n : ℕ). steps n a b c d ≡ a ∷ b ∷ (c +ℤ a) ∷ (d +ℤ b) ∷ []) (sym two) refl

pub one_step : (axes : ℕ) (a b c d : ℤ) → (axes ≡ 2 → ⊥) → steps axes a b c d ≡ a ∷ b ∷ c ∷ d ∷ []
one_step axes a b c d other = rw (ne_eqb axes 2 other) refl

wide_sum : (a c : ℤ) → IsShort a → IsShort c → (cast_unsigned w32 c + cast_unsigned w32 a) % 4294967296 ≡ cast_unsigned w32 (c +ℤ a)
wide_sum a c one two = omega (arith, ints, one.0, one.1, two.0, two.1)

pub wide_steps : (numbers result : List ℕ) (a b c d : ℤ) → numbers ≡ map (cast_unsigned w32) (a ∷ b ∷ c ∷ d ∷ []) → All IsShort (a ∷ b ∷ c ∷ d ∷ [])
    → ((ka kb kc kd : ℕ) → numbers ≡ ka ∷ kb ∷ kc ∷ kd ∷ [] → result ≡ ((ka + 0) % 4294967296) ∷ ((kb + 0) % 4294967296) ∷ ((kc + ka) % 4294967296) ∷ ((kd + kb) % 4294967296) ∷ [])
    → result ≡ map (cast_unsigned w32) (a ∷ b ∷ (c +ℤ a) ∷ (d +ℤ b) ∷ [])
wide_steps numbers result a b c d is short sums =
    let one : IsShort a = short 0 (pos 0) (omega arith) in
    let two : IsShort b = short 1 (pos 0) (omega arith) in
    let three : IsShort c = short 2 (pos 0) (omega arith) in
    let four : IsShort d = short 3 (pos 0) (omega arith) in
    let p : (cast_unsigned w32 a + 0) % 4294967296 ≡ cast_unsigned w32 a = omega (arith, ints, one.0, one.1) in
    let q : (cast_unsigned w32 b + 0) % 4294967296 ≡ cast_unsigned w32 b = omega (arith, ints, two.0, two.1) in
    let r = wide_sum a c one three in
    let s = wide_sum b d two four in
    sums _ _ _ _ is ∙ (λ j. p j ∷ q j ∷ r j ∷ s j ∷ [])

brief_sum : (a c : ℤ) → IsBrief a → IsBrief c → cast_signed w16 ((cast_unsigned w16 c + cast_unsigned w16 a) % 65536) ≡ c +ℤ a
brief_sum a c one two =
    let sum : (cast_unsigned w16 c + cast_unsigned w16 a) % 65536 ≡ cast_unsigned w16 (c +ℤ a) = omega (arith, ints, one.0, one.1, two.0, two.1) in
    let back : cast_signed w16 (cast_unsigned w16 (c +ℤ a)) ≡ c +ℤ a = omega (arith, ints, one.0, one.1, two.0, two.1) in
    ap (cast_signed w16) sum ∙ back

brief_alone : (a : ℤ) → IsBrief a → cast_signed w16 ((cast_unsigned w16 a + 0) % 65536) ≡ a
brief_alone a one = brief_sum (pos 0) a (omega (arith, ints), omega (arith, ints)) one ∙ omega (arith, ints)

pub brief_steps : (numbers result : List ℕ) (a b c d e f g h : ℤ) → numbers ≡ map (cast_unsigned w16) (a ∷ b ∷ c ∷ d ∷ e ∷ f ∷ g ∷ h ∷ []) → All IsBrief (a ∷ b ∷ c ∷ d ∷ e ∷ f ∷ g ∷ h ∷ [])
    → ((ka kb kc kd ke kf kg kh : ℕ) → numbers ≡ ka ∷ kb ∷ kc ∷ kd ∷ ke ∷ kf ∷ kg ∷ kh ∷ []
    → result ≡ ((ka + 0) % 65536) ∷ ((kb + 0) % 65536) ∷ ((kc + ka) % 65536) ∷ ((kd + kb) % 65536) ∷ ((ke + 0) % 65536) ∷ ((kf + 0) % 65536) ∷ ((kg + ke) % 65536) ∷ ((kh + kf) % 65536) ∷ [])
    → map (cast_signed w16) result ≡ (a ∷ b ∷ (c +ℤ a) ∷ (d +ℤ b) ∷ []) ++ (e ∷ f ∷ (g +ℤ e) ∷ (h +ℤ f) ∷ [])
brief_steps numbers result a b c d e f g h is short sums =
    let one : IsBrief a = short 0 (pos 0) (omega arith) in
    let two : IsBrief b = short 1 (pos 0) (omega arith) in
    let three : IsBrief c = short 2 (pos 0) (omega arith) in
    let four : IsBrief d = short 3 (pos 0) (omega arith) in
    let five : IsBrief e = short 4 (pos 0) (omega arith) in
    let six : IsBrief f = short 5 (pos 0) (omega arith) in
    let seven : IsBrief g = short 6 (pos 0) (omega arith) in
    let eight : IsBrief h = short 7 (pos 0) (omega arith) in
    let p = brief_alone a one in
    let q = brief_alone b two in
    let r = brief_sum a c one three in
    let s = brief_sum b d two four in
    let t = brief_alone e five in
    let u = brief_alone f six in
    let v = brief_sum e g five seven in
    let w = brief_sum f h six eight in
    ap (map (cast_signed w16)) (sums _ _ _ _ _ _ _ _ is) ∙ (λ j. p j ∷ q j ∷ r j ∷ s j ∷ t j ∷ u j ∷ v j ∷ w j ∷ [])

-- ---- all axes
-- of two axes, the lesser and the greater of two lanes; otherwise the lane itself
abbrev pub least_in : ℕ → List ℕ → ℕ → ℕ
least_in axes lanes k = if axes == 2 then min (slice_index lanes k) (slice_index lanes (2 + k)) else slice_index lanes k

abbrev pub greatest_in : ℕ → List ℕ → ℕ → ℕ
greatest_in axes lanes k = if axes == 2 then max (slice_index lanes k) (slice_index lanes (2 + k)) else slice_index lanes k

two_ends : (axes k : ℕ) → axes ≡ 2 → k < axes → 2 + k < 4
two_ends axes k two few = omega (arith, two, few)

-- the range of an axis's lanes is that of its least and its greatest lane
pub joined_lanes : (axes : ℕ) (base : ℤ) (lanes : Lanes) (k : ℕ) → ((i : ℕ) → i < 4 → IsLane lanes i) → k < axes → k < 4
    → lane_span base (least_in axes lanes.least k) (greatest_in axes lanes.greatest k) ≡ lanes_range axes base lanes k
joined_lanes axes base lanes k each few four = go (axes == 2) refl
  where
    go : (b : Bool) → (axes == 2) ≡ b → lane_span base (if b then min (slice_index lanes.least k) (slice_index lanes.least (2 + k)) else slice_index lanes.least k) (if b then max (slice_index lanes.greatest k) (slice_index lanes.greatest (2 + k)) else slice_index lanes.greatest k)
        ≡ (if b then joined (lane_range base lanes k) (lane_range base lanes (2 + k)) else lane_range base lanes k)
    go false is = refl
    go true is =
        let one = each k four in
        let two = each (2 + k) (two_ends axes k (eqb-true axes 2 is) few) in
        two_lanes base _ _ _ _ one.empty two.empty one.least two.least

-- no points in lanes
pub none_in_lanes : (axes : ℕ) (base : ℤ) (k : ℕ) → k < 4 → k < axes → lanes_range axes base no_lanes k ≡ None
none_in_lanes axes base zero four few = go (axes == 2)
  where
    go : (b : Bool) → (if b then joined (lane_range base no_lanes 0) (lane_range base no_lanes 2) else lane_range base no_lanes 0) ≡ None
    go true = refl
    go false = refl
none_in_lanes axes base (suc zero) four few = go (axes == 2)
  where
    go : (b : Bool) → (if b then joined (lane_range base no_lanes 1) (lane_range base no_lanes 3) else lane_range base no_lanes 1) ≡ None
    go true = refl
    go false = refl
none_in_lanes axes base (suc (suc zero)) four few = rw (ne_eqb axes 2 (λ two. absurd (omega (arith, two, few)))) refl
none_in_lanes axes base (suc (suc (suc zero))) four few = rw (ne_eqb axes 2 (λ two. absurd (omega (arith, two, few)))) refl
none_in_lanes axes base (suc (suc (suc (suc k)))) four few = absurd (omega (arith, four, few))

-- the last point without points in lanes is the base
pub zero_lane : (k : ℕ) → k < 4 → slice_index no_lanes.last k ≡ 2147483648
zero_lane zero h = refl
zero_lane (suc zero) h = refl
zero_lane (suc (suc zero)) h = refl
zero_lane (suc (suc (suc zero))) h = refl
zero_lane (suc (suc (suc (suc k)))) h = absurd (omega (arith, h))

-- what is seen of an axis when its lanes become its base
pub record Settles (axes : ℕ) (b : Base) (lanes : Lanes) (k l g : ℕ) : Type 0 where
  pub last : sum_fits ((axis_in b k).last +ℤ distance (slice_index lanes.last k))
  pub ends : l ≤ g → sum_fits ((axis_in b k).last +ℤ distance l) × sum_fits ((axis_in b k).last +ℤ distance g)
  pub range : lane_span (axis_in b k).last l g ≡ lanes_range axes (axis_in b k).last lanes k

pub settles : (axes : ℕ) (b : Base) (lanes : Lanes) (k : ℕ) → AreHeld axes b lanes → k < axes → k < 4 → Settles axes b lanes k (least_in axes lanes.least k) (greatest_in axes lanes.greatest k)
settles axes b lanes k held few four = go b.is_near refl
  where
    range : lane_span (axis_in b k).last (least_in axes lanes.least k) (greatest_in axes lanes.greatest k) ≡ lanes_range axes (axis_in b k).last lanes k
    range = joined_lanes axes (axis_in b k).last lanes k held.each few four

    least_small : least_in axes lanes.least k < 4294967296
    least_small = small (axes == 2)
      where
        small : (b : Bool) → (if b then min (slice_index lanes.least k) (slice_index lanes.least (2 + k)) else slice_index lanes.least k) < 4294967296
        small true = omega (arith, (held.each k four).least)
        small false = (held.each k four).least

    greatest_small : greatest_in axes lanes.greatest k < 4294967296
    greatest_small = small (axes == 2) refl
      where
        small : (b : Bool) → (axes == 2) ≡ b → (if b then max (slice_index lanes.greatest k) (slice_index lanes.greatest (2 + k)) else slice_index lanes.greatest k) < 4294967296
        small true is = omega (arith, (held.each k four).greatest, (held.each (2 + k) (two_ends axes k (eqb-true axes 2 is) few)).greatest)
        small false is = (held.each k four).greatest

    go : (near : Bool) → b.is_near ≡ near → Settles axes b lanes k (least_in axes lanes.least k) (greatest_in axes lanes.greatest k)
    go true is =
        let near = held.near is k few in
        record {
          last = near_fits (axis_in b k).last _ near (held.each k four).last;
          ends = λ some. (near_fits (axis_in b k).last _ near least_small, near_fits (axis_in b k).last _ near greatest_small);
          range = range;
        }
    go false is =
        let none : lanes_range axes (axis_in b k).last lanes k ≡ None = ap (λ (l : Lanes). lanes_range axes (axis_in b k).last l k) (held.far is) ∙ none_in_lanes axes (axis_in b k).last k four few in
        let zero : slice_index lanes.last k ≡ 2147483648 = ap (λ (l : Lanes). slice_index l.last k) (held.far is) ∙ zero_lane k four in
        let same : (axis_in b k).last +ℤ distance (slice_index lanes.last k) ≡ (axis_in b k).last = omega (arith, ints, zero) in
        record {
          last = subst sum_fits (sym same) (held.fits k few);
          ends = λ some. absurd (cc (sym (some_span (axis_in b k).last _ _ some) ∙ range ∙ none));
          range = range;
        }

pub settles_by : (axes : ℕ) (b : Base) (lanes : Lanes) (k l g : ℕ) → AreHeld axes b lanes → k < axes → k < 4 → l ≡ least_in axes lanes.least k → g ≡ greatest_in axes lanes.greatest k → Settles axes b lanes k l g
settles_by axes b lanes k l g held few four l_is g_is =
    subst (λ (n : ℕ). Settles axes b lanes k n g) (sym l_is) (subst (λ (n : ℕ). Settles axes b lanes k (least_in axes lanes.least k) n) (sym g_is) (settles axes b lanes k held few four))

-- there are four steps
steps_front : (axes : ℕ) (a b c d : ℤ) (zs : List ℤ) → (take 4 (steps axes a b c d ++ zs) ≡ steps axes a b c d) × (drop 4 (steps axes a b c d ++ zs) ≡ zs)
steps_front axes a b c d zs = go (axes == 2)
  where
    go : (two : Bool) → (take 4 ((if two then a ∷ b ∷ (c +ℤ a) ∷ (d +ℤ b) ∷ [] else a ∷ b ∷ c ∷ d ∷ []) ++ zs) ≡ (if two then a ∷ b ∷ (c +ℤ a) ∷ (d +ℤ b) ∷ [] else a ∷ b ∷ c ∷ d ∷ []))
        × (drop 4 ((if two then a ∷ b ∷ (c +ℤ a) ∷ (d +ℤ b) ∷ [] else a ∷ b ∷ c ∷ d ∷ []) ++ zs) ≡ zs)
    go true = (refl, refl)
    go false = (refl, refl)

-- eight lanes of 16 bits, widened with their signs
pub widened_steps : (axes : ℕ) (sums first second : List ℕ) (a b c d e f g h : ℤ) → length sums ≡ 8 → map (cast_signed w16) sums ≡ steps axes a b c d ++ steps axes e f g h
    → ((p q r s t u v w : ℕ) → sums ≡ p ∷ q ∷ r ∷ s ∷ t ∷ u ∷ v ∷ w ∷ [] → (first ≡ map (λ n. cast_unsigned w32 (cast_signed w16 n)) (p ∷ q ∷ r ∷ s ∷ [])) × (second ≡ map (λ n. cast_unsigned w32 (cast_signed w16 n)) (t ∷ u ∷ v ∷ w ∷ [])))
    → (first ≡ map (cast_unsigned w32) (steps axes a b c d)) × (second ≡ map (cast_unsigned w32) (steps axes e f g h))
widened_steps axes sums first second a b c d e f g h = go sums
  where
    parts : (axes : ℕ) → (take 4 (steps axes a b c d ++ steps axes e f g h) ≡ steps axes a b c d) × (drop 4 (steps axes a b c d ++ steps axes e f g h) ≡ steps axes e f g h)
    parts n = steps_front n a b c d (steps n e f g h)

    go : (sums : List ℕ) → length sums ≡ 8 → map (cast_signed w16) sums ≡ steps axes a b c d ++ steps axes e f g h
        → ((p q r s t u v w : ℕ) → sums ≡ p ∷ q ∷ r ∷ s ∷ t ∷ u ∷ v ∷ w ∷ [] → (first ≡ map (λ n. cast_unsigned w32 (cast_signed w16 n)) (p ∷ q ∷ r ∷ s ∷ [])) × (second ≡ map (λ n. cast_unsigned w32 (cast_signed w16 n)) (t ∷ u ∷ v ∷ w ∷ [])))
        → (first ≡ map (cast_unsigned w32) (steps axes a b c d)) × (second ≡ map (cast_unsigned w32) (steps axes e f g h))
    go (p ∷ q ∷ r ∷ s ∷ t ∷ u ∷ v ∷ w ∷ []) eight means wide =
        let both = wide p q r s t u v w refl in (
          both.0 ∙ ap (λ (zs : List ℤ). map (cast_unsigned w32) (take 4 zs)) means ∙ ap (map (cast_unsigned w32)) (parts axes).0,
          both.1 ∙ ap (λ (zs : List ℤ). map (cast_unsigned w32) (drop 4 zs)) means ∙ ap (map (cast_unsigned w32)) (parts axes).1,
        )
    go [] eight means wide = absurd (omega (arith, eight))
    go (p ∷ []) eight means wide = absurd (omega (arith, eight))
    go (p ∷ q ∷ []) eight means wide = absurd (omega (arith, eight))
    go (p ∷ q ∷ r ∷ []) eight means wide = absurd (omega (arith, eight))
    go (p ∷ q ∷ r ∷ s ∷ []) eight means wide = absurd (omega (arith, eight))
    go (p ∷ q ∷ r ∷ s ∷ t ∷ []) eight means wide = absurd (omega (arith, eight))
    go (p ∷ q ∷ r ∷ s ∷ t ∷ u ∷ []) eight means wide = absurd (omega (arith, eight))
    go (p ∷ q ∷ r ∷ s ∷ t ∷ u ∷ v ∷ []) eight means wide = absurd (omega (arith, eight))
    go (p ∷ q ∷ r ∷ s ∷ t ∷ u ∷ v ∷ w ∷ x ∷ xs) eight means wide = absurd (omega (arith, eight))
