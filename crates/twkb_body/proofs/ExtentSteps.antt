-- Numbers that are taken, one after another or in lanes, and the extents of their points.
use Rattle.twkb_body.proofs.Prelude.{◌≡◌, ℕ, zero, suc, ◌+◌, ◌*◌, ◌%◌, ◌<◌, ◌≤◌, ◌==◌, List, [], ◌∷◌, ◌++◌, map, length, ℤ, pos, neg_ℤ, ◌+ℤ◌, ◌≤ℤ◌, Bool, nat_eq, true, false, Some, inl, inr, refl, sym, ap, ◌∙◌, subst, arith, slice_index, w32, if◌then◌else◌, All, ◌||◌, ◌⊎◌, eqb-true, eqb-false, ints, clamps, cast_signed, cast_unsigned, int_min, int_max, IsAxes, points_in, IsBrief, IsShort, append-nil, Span, Base, Lanes, Extents, span_of, joined, column, Stays, sum_fits, distance, lane_sum, last_place, steps, Sees, HaveRoom, axis_in, base_of, has_left, last_from, last_of, range_from, range_of, lane_range, lanes_range, no_lanes, IsLane, IsHeld, IsNearZero, Grows, AddsNumber, AddsToBase, HasAdded, GrowTo, Leaves, Took}
use Rattle.std.specs.Prelude.{Option, ◌-◌, take, drop, replicate}
use Rattle.twkb_body.specs.declared.extents.AxisExtent.{AxisExtent}
use Rattle.twkb_body.proofs.ExtentLanes.{none_in_lanes, zero_lane, grows_on, grows_after, ends_more, one_seen, two_seen, IsStep, IsMiddle, moved_lane}
use Rattle.twkb_body.proofs.NumberRuns.{column-append, column-same, column-other, append-Stays}
use Rattle.twkb_body.proofs.Reaches.{joined-none}

-- If it is the axis of a number, the number was added to it, or would have led out of 64 bits. Otherwise it is as before.
pub record AddsIf (is_axis : Bool) (number : ℤ) (old new : AxisExtent) (leaves : Bool) : Type 0 where
  pub fits : is_axis ≡ true → leaves ≡ false → sum_fits (old.last +ℤ number)
  pub leaves_64 : is_axis ≡ true → leaves ≡ true → sum_fits (old.last +ℤ number) → ⊥
  pub last : is_axis ≡ true → leaves ≡ false → new.last ≡ old.last +ℤ number
  pub range : is_axis ≡ true → leaves ≡ false → new.range ≡ joined old.range (span_of ((old.last +ℤ number) ∷ []))
  pub still : is_axis ≡ false → new ≡ old
  pub stays : is_axis ≡ false → leaves ≡ false

-- no points in lanes are lanes of 32 bits
no_lane : (i : ℕ) → i < 4 → IsLane no_lanes i
no_lane zero h = record { last = omega arith; least = omega arith; greatest = omega arith; empty = λ lt. (refl, refl) }
no_lane (suc zero) h = record { last = omega arith; least = omega arith; greatest = omega arith; empty = λ lt. (refl, refl) }
no_lane (suc (suc zero)) h = record { last = omega arith; least = omega arith; greatest = omega arith; empty = λ lt. (refl, refl) }
no_lane (suc (suc (suc zero))) h = record { last = omega arith; least = omega arith; greatest = omega arith; empty = λ lt. (refl, refl) }
no_lane (suc (suc (suc (suc i)))) h = absurd (omega (arith, h))

module _ (axes : ℕ) (b : Base) (four : axes ≤ 4) (k : ℕ) (few : k < axes) where
  -- without points in lanes the last coordinate is the base
  last_there : last_from b no_lanes k ≡ (axis_in b k).last
  last_there =
      let zero_there = zero_lane k (omega (arith, four, few)) in
      omega (arith, ints, zero_there)

  range_there : range_from axes b no_lanes k ≡ (axis_in b k).range
  range_there = ap (joined (axis_in b k).range) (none_in_lanes axes (axis_in b k).last k (omega (arith, four, few)) few) ∙ joined-none (axis_in b k).range

-- a base after a number of an axis
pub record AddsTo (axes axis : ℕ) (number : ℤ) (old new : Base) (leaves : ℕ → Bool) : Type 0 where
  pub few : axes ≤ 4
  pub fits : (k : ℕ) → k < axes → sum_fits (axis_in old k).last
  pub adds : (k : ℕ) → k < 4 → AddsIf (axis == k) number (axis_in old k) (axis_in new k) (leaves k)
  pub near : new.is_near ≡ true → (k : ℕ) → k < axes → IsNearZero (axis_in new k).last

-- an axis after a number
added_axis : (is : Bool) (number : ℤ) (old new : AxisExtent) → AddsIf is number old new false → sum_fits old.last
    → Grows old.last old.range (if is then number ∷ [] else []) new.last new.range × sum_fits new.last
added_axis true number old new a fits =
    let there : new.last ≡ old.last +ℤ number = a.last refl refl in
    let fit : sum_fits (old.last +ℤ number) = a.fits refl refl in
    (record { sum = there; reach = a.range refl refl; stays = (fit, tt) }, subst sum_fits (sym there) fit)
added_axis false number old new a fits =
    let same = a.still refl in
    let there : new.last ≡ old.last = ap (λ (e : AxisExtent). e.last) same in (
      record {
        sum = there;
        reach = ap (λ (e : AxisExtent). e.range) same ∙ sym (joined-none old.range);
        stays = tt;
      },
      subst sum_fits (sym there) fits,
    )

-- a base without points in lanes, as extents
abbrev pub alone : Base → Extents
alone b = record { lanes = no_lanes; base = Some b }

-- an axis grows as its base does, without points in lanes
grows_alone : (axes k : ℕ) (numbers : List ℤ) (old new : Base) → axes ≤ 4 → k < axes → Grows (axis_in old k).last (axis_in old k).range numbers (axis_in new k).last (axis_in new k).range
    → Grows (last_from old no_lanes k) (range_from axes old no_lanes k) numbers (last_from new no_lanes k) (range_from axes new no_lanes k)
grows_alone axes k numbers old new four few p =
    rw (last_there axes old four k few, last_there axes new four k few, range_there axes old four k few, range_there axes new four k few) p

module _ (axes axis : ℕ) (number : ℤ) (old new : Base) (leaves : ℕ → Bool) (p : AddsTo axes axis number old new leaves) (stay : (k : ℕ) → k < 4 → leaves k ≡ false) where
  added_at : (k : ℕ) → k < axes → Grows (axis_in old k).last (axis_in old k).range (if axis == k then number ∷ [] else []) (axis_in new k).last (axis_in new k).range × sum_fits (axis_in new k).last
  added_at k few =
      let four : k < 4 = omega (arith, few, p.few) in
      added_axis (axis == k) number (axis_in old k) (axis_in new k) (subst (AddsIf (axis == k) number (axis_in old k) (axis_in new k)) (stay k four) (p.adds k four)) (p.fits k few)

  pub added_stays : IsHeld axes (alone new) × HasAdded axes axis number (alone old) (alone new)
  added_stays = (
    record {
      fits = λ k few. (added_at k few).1;
      near = p.near;
      far = λ is. refl;
      each = no_lane;
      twice = λ two i few. zero_lane (2 + i) (omega (arith, few)) ∙ sym (zero_lane i (omega (arith, few)));
    },
    λ k few. grows_alone axes k _ old new p.few few (added_at k few).0,
  )

-- of four answers, one an axis, that of an axis
abbrev pub of_four : Bool → Bool → Bool → Bool → ℕ → Bool
of_four a b c d zero = a
of_four a b c d (suc zero) = b
of_four a b c d (suc (suc zero)) = c
of_four a b c d (suc (suc (suc k))) = d

-- no axis's sum leaves 64 bits, or some does
pub none_leaves : (a b c d : Bool) → ((a || b) || c) || d ≡ false → (k : ℕ) → of_four a b c d k ≡ false
none_leaves false false false false h zero = refl
none_leaves false false false false h (suc zero) = refl
none_leaves false false false false h (suc (suc zero)) = refl
none_leaves false false false false h (suc (suc (suc k))) = refl
none_leaves true b c d h k = absurd (cc (h))
none_leaves false true c d h k = absurd (cc (h))
none_leaves false false true d h k = absurd (cc (h))
none_leaves false false false true h k = absurd (cc (h))

pub some_leaves : (a b c d : Bool) → ((a || b) || c) || d ≡ true → (k : ℕ) × ((k < 4) × (of_four a b c d k ≡ true))
some_leaves true b c d h = (0, (omega arith, refl))
some_leaves false true c d h = (1, (omega arith, refl))
some_leaves false false true d h = (2, (omega arith, refl))
some_leaves false false false true h = (3, (omega arith, refl))
some_leaves false false false false h = absurd (cc (h))

-- an axis whose sum leaves 64 bits is that of the number
pub added_leaves : (axes axis : ℕ) (number : ℤ) (old new : Base) (leaves : ℕ → Bool) → AddsTo axes axis number old new leaves → axis < axes → (k : ℕ) → k < 4 → leaves k ≡ true → sum_fits (last_from old no_lanes axis +ℤ number) → ⊥
added_leaves axes axis number old new leaves p there k four is fits = go (axis == k) refl (subst (AddsIf (axis == k) number (axis_in old k) (axis_in new k)) is (p.adds k four))
  where
    go : (b : Bool) → (axis == k) ≡ b → AddsIf b number (axis_in old k) (axis_in new k) true → ⊥
    go false is' a = cc (a.stays refl)
    go true is' a =
        let same = eqb-true axis k is' in
        a.leaves_64 refl refl (subst (λ (i : ℕ). sum_fits ((axis_in old i).last +ℤ number)) same (subst (λ (l : ℤ). sum_fits (l +ℤ number)) (last_there axes old p.few axis there) fits))

-- what each of four axes adds
pub each_adds : (axis : ℕ) (number : ℤ) (old new : Base) (a b c d : Bool) → AddsIf (axis == 0) number old.x new.x a → AddsIf (axis == 1) number old.y new.y b → AddsIf (axis == 2) number old.third new.third c → AddsIf (axis == 3) number old.fourth new.fourth d
    → (k : ℕ) → k < 4 → AddsIf (axis == k) number (axis_in old k) (axis_in new k) (of_four a b c d k)
each_adds axis number old new a b c d p q r s zero four = p
each_adds axis number old new a b c d p q r s (suc zero) four = q
each_adds axis number old new a b c d p q r s (suc (suc zero)) four = r
each_adds axis number old new a b c d p q r s (suc (suc (suc zero))) four = s
each_adds axis number old new a b c d p q r s (suc (suc (suc (suc k)))) four = absurd (omega (arith, four))

-- a number that was added to a base with all points was added to the points
pub added_after : (axes axis : ℕ) (number : ℤ) (old : Extents) (mid new : Base) → axes ≤ 4 → axis < axes
    → ((k : ℕ) → k < axes → (axis_in mid k).last ≡ last_of old k) → ((k : ℕ) → k < axes → (axis_in mid k).range ≡ range_of axes old k)
    → AddsToBase axes axis number mid new → AddsNumber axes axis number old (alone new)
added_after axes axis number old mid new four there last range adds = (
  λ stays.
      let p = adds.0 stays in (
        p.0,
        λ k few.
            let last_is : last_from mid no_lanes k ≡ last_of old k = last_there axes mid four k few ∙ last k few in
            let range_is : range_from axes mid no_lanes k ≡ range_of axes old k = range_there axes mid four k few ∙ range k few in
            subst (λ (l : ℤ). Grows l (range_of axes old k) (if axis == k then number ∷ [] else []) (last_from new no_lanes k) (range_from axes new no_lanes k)) last_is
            (subst (λ (r : Option Span). Grows (last_from mid no_lanes k) r (if axis == k then number ∷ [] else []) (last_from new no_lanes k) (range_from axes new no_lanes k)) range_is (p.1 k few)),
      ),
  λ leaves fits. adds.1 leaves (subst (λ (l : ℤ). sum_fits (l +ℤ number)) (sym (last_there axes mid four axis there ∙ last axis there)) fits),
)

-- a sum has left 64 bits now, if one had before
pub left_now : (before now all : Bool) → before ≡ false → all ≡ before || now → now ≡ all
left_now false now all h is = sym is
left_now true now all h is = absurd (cc (h))

-- ---- numbers after numbers
column_one : (axes axis points k : ℕ) (before : List ℤ) (number : ℤ) → length before ≡ axes * points + axis → axis < axes → k < axes → column axes k (before ++ number ∷ []) ≡ column axes k before ++ (if axis == k then number ∷ [] else [])
column_one axes axis points k before number many there few = go (axis == k) refl
  where
    go : (b : Bool) → (axis == k) ≡ b → column axes k (before ++ number ∷ []) ≡ column axes k before ++ (if b then number ∷ [] else [])
    go true is = let same = eqb-true axis k is in column-same axes k points before number (omega (arith, many, same)) few
    go false is = column-other axes axis k points before number many there few (λ same. eqb-false axis k is (sym same)) ∙ sym (append-nil (column axes k before))

-- a sum that left 64 bits has left, whatever numbers come after
still_leaves : (axes k : ℕ) (first : Extents) (before all more : List ℤ) → column axes k all ≡ column axes k before ++ more → (Stays (last_of first k) (column axes k before) → ⊥) → Stays (last_of first k) (column axes k all) → ⊥
still_leaves axes k first before all more is leaves stays = leaves (append-Stays (last_of first k) (column axes k before) more (subst (Stays (last_of first k)) is stays)).0

pub took_one : (axes axis : ℕ) (number : ℤ) (old new : Extents) → axis < axes → (has_left old ≡ true → has_left new ≡ true) → (IsHeld axes old → has_left old ≡ false → AddsNumber axes axis number old new)
    → (first : Extents) (before : List ℤ) (points : ℕ) → Took axes first before old → length before ≡ axes * points + axis → Took axes first (before ++ number ∷ []) new
took_one axes axis number old new there left adds first before points took many = λ held stays. go held stays (has_left old) refl
  where
    all : List ℤ
    all = before ++ number ∷ []

    columns : (k : ℕ) → k < axes → column axes k all ≡ column axes k before ++ (if axis == k then number ∷ [] else [])
    columns k few = column_one axes axis points k before number many there few

    go : IsHeld axes first → has_left first ≡ false → (b : Bool) → has_left old ≡ b
        → (has_left new ≡ false → IsHeld axes new × GrowTo axes first all new) × (has_left new ≡ true → Leaves axes first all)
    go held stays false is =
        let p = (took held stays).0 is in
        let q = adds p.0 is in (
          λ now. let r = q.0 now in
              (r.0, λ k few. subst (λ (zs : List ℤ). Grows (last_of first k) (range_of axes first k) zs (last_of new k) (range_of axes new k)) (sym (columns k few)) (grows_on _ _ _ _ _ _ _ _ (p.1 k few) (r.1 k few))),
          λ now. (
            axis,
            there,
            λ s.
                let parts = append-Stays (last_of first axis) (column axes axis before) (number ∷ []) (subst (Stays (last_of first axis)) (column-same axes axis points before number many there) s) in
                q.1 now (subst (λ (l : ℤ). sum_fits (l +ℤ number)) (sym (p.1 axis there).sum) parts.1.0),
          ),
        )
    go held stays true is =
        let (k, few, leaves) = (took held stays).1 is in
        (λ now. absurd (cc (sym now ∙ left is)), λ now. (k, few, still_leaves axes k first before all _ (columns k few) leaves))

pub took_more : (axes : ℕ) (more : List ℤ) (old new : Extents) → has_left new ≡ has_left old → (IsHeld axes old → has_left old ≡ false → IsHeld axes new × GrowTo axes old more new)
    → (first : Extents) (before : List ℤ) (points : ℕ) → Took axes first before old → length before ≡ axes * points + 0 → Took axes first (before ++ more) new
took_more axes more old new left grow first before points took many = λ held stays. (
  λ now.
      let p = (took held stays).0 (sym left ∙ now) in
      let q = grow p.0 (sym left ∙ now) in
      (q.0, λ k few. subst (λ (zs : List ℤ). Grows (last_of first k) (range_of axes first k) zs (last_of new k) (range_of axes new k)) (sym (columns k few)) (grows_on _ _ _ _ _ _ _ _ (p.1 k few) (q.1 k few))),
  λ now.
      let (k, few, leaves) = (took held stays).1 (sym left ∙ now) in
      (k, few, still_leaves axes k first before (before ++ more) _ (columns k few) leaves),
)
  where
    columns : (k : ℕ) → k < axes → column axes k (before ++ more) ≡ column axes k before ++ column axes k more
    columns k few = column-append axes k points before more (omega (arith, many)) few

-- ---- lanes
-- each lane of the last point can be moved by a step
abbrev pub AreMiddle : Lanes → Type 0
AreMiddle lanes = (i : ℕ) → i < 4 → IsMiddle (slice_index lanes.last i)

pub room_middle : (lanes : Lanes) → HaveRoom lanes → AreMiddle lanes
room_middle lanes room i few = let at = room i few in (omega (arith, at.0), omega (arith, at.1))

module _ (axes : ℕ) (more : List ℕ) (old new : Lanes) (p : Sees axes more old new) where
  -- lanes that saw points are lanes
  pub seen_lane : (i : ℕ) → i < 4 → IsLane old i → IsLane new i
  seen_lane i few lane = record {
    last = rw (p.last i few) (omega arith);
    least = rw (p.least i few) (omega (arith, lane.least));
    greatest = rw (p.greatest i few) (omega (arith, lane.greatest));
    empty = rw (p.least i few, p.greatest i few) (ends_more (slice_index old.least i) (slice_index old.greatest i) (lane_sum (slice_index more i) (slice_index old.last i)) lane.empty);
  }

-- the extents with other lanes
abbrev pub with_lanes : Extents → Lanes → Extents
with_lanes e lanes = record { lanes = lanes; base = e.base }

twice_on : (more : List ℕ) (old new : Lanes) → Sees 2 more old new → (i : ℕ) → i < 2 → slice_index new.last (2 + i) ≡ slice_index new.last i
twice_on more old new p zero few = p.last 2 (omega arith) ∙ sym (p.last 0 (omega arith))
twice_on more old new p (suc zero) few = p.last 3 (omega arith) ∙ sym (p.last 1 (omega arith))
twice_on more old new p (suc (suc i)) few = absurd (omega (arith, few))

pub seen_held : (axes : ℕ) (more : List ℕ) (e : Extents) (new : Lanes) → Sees axes more e.lanes new → IsHeld axes e → (base_of e).is_near ≡ true → IsHeld axes (with_lanes e new)
seen_held axes more e new p held near = record {
  fits = held.fits;
  near = held.near;
  far = λ is. absurd (cc (sym is ∙ near));
  each = λ i few. seen_lane axes more e.lanes new p i few (held.each i few);
  twice = λ two i few. twice_on more e.lanes new (subst (λ (n : ℕ). Sees n more e.lanes new) two p) i few;
}

-- an axis of two axes, whose points are in two lanes
seen_two : (k : ℕ) → k < 2 → (base y z : ℤ) (more : List ℕ) (old new : Lanes) → Sees 2 more old new → IsNearZero base → slice_index more k ≡ cast_unsigned w32 y → slice_index more (2 + k) ≡ cast_unsigned w32 (z +ℤ y)
    → IsStep y → IsStep (z +ℤ y) → AreMiddle old → ((i : ℕ) → i < 4 → IsLane old i) → slice_index old.last (2 + k) ≡ slice_index old.last k → (last_place 2 k ≡ 2 + k)
    → Grows (base +ℤ distance (slice_index old.last k)) (lanes_range 2 base old k) (y ∷ z ∷ []) (base +ℤ distance (slice_index new.last k)) (lanes_range 2 base new k)
seen_two k few base y z more old new p near y_is z_is step step' middle each twice place =
    let four : k < 4 = omega (arith, few) in
    let four' : 2 + k < 4 = omega (arith, few) in
    let last : slice_index new.last k ≡ lane_sum (cast_unsigned w32 (z +ℤ y)) (slice_index old.last k) =
    p.last k four ∙ ap (λ (i : ℕ). lane_sum (slice_index more i) (slice_index old.last i)) place ∙ (λ j. lane_sum (z_is j) (twice j)) in
    let first : lane_sum (slice_index more k) (slice_index old.last k) ≡ lane_sum (cast_unsigned w32 y) (slice_index old.last k) = ap (λ (n : ℕ). lane_sum n (slice_index old.last k)) y_is in
    let second : lane_sum (slice_index more (2 + k)) (slice_index old.last (2 + k)) ≡ lane_sum (cast_unsigned w32 (z +ℤ y)) (slice_index old.last k) = (λ j. lane_sum (z_is j) (twice j)) in
    rw (last, p.least k four, p.greatest k four, p.least (2 + k) four', p.greatest (2 + k) four', first, second)
    (two_seen base y z (slice_index old.last k) _ _ _ _ _ _ near step step' (middle k four) (each k four).empty (each (2 + k) four').empty (each k four).least (each (2 + k) four').least refl refl)

-- an axis whose points are in one lane
seen_one : (axes k : ℕ) → k < 4 → (base z : ℤ) (more : List ℕ) (old new : Lanes) → Sees axes more old new → IsNearZero base → slice_index more k ≡ cast_unsigned w32 z → IsStep z → AreMiddle old → IsLane old k → last_place axes k ≡ k
    → Grows (base +ℤ distance (slice_index old.last k)) (lane_range base old k) (z ∷ []) (base +ℤ distance (slice_index new.last k)) (lane_range base new k)
seen_one axes k four base z more old new p near z_is step middle lane place =
    let here : lane_sum (slice_index more k) (slice_index old.last k) ≡ lane_sum (cast_unsigned w32 z) (slice_index old.last k) = ap (λ (n : ℕ). lane_sum n (slice_index old.last k)) z_is in
    let last : slice_index new.last k ≡ lane_sum (cast_unsigned w32 z) (slice_index old.last k) = p.last k four ∙ ap (λ (i : ℕ). lane_sum (slice_index more i) (slice_index old.last i)) place ∙ here in
    rw (last, p.least k four, p.greatest k four, here) (one_seen base z (slice_index old.last k) _ _ _ near step (middle k four) lane.empty lane.least refl)

-- a number of which lanes can add two
abbrev pub IsHalf : ℤ → Type 0
IsHalf z = (neg_ℤ (pos 268435456) ≤ℤ z) × (z ≤ℤ pos 268435456)

half_step : (z : ℤ) → IsHalf z → IsStep z
half_step z h = (omega (arith, ints, h.0), omega (arith, ints, h.1))

both_step : (y z : ℤ) → IsHalf y → IsHalf z → IsStep (z +ℤ y)
both_step y z h k = (omega (arith, ints, h.0, k.0), omega (arith, ints, h.1, k.1))

-- the numbers of points in four lanes
abbrev pub numbers_in_four : ℕ → ℤ → ℤ → ℤ → ℤ → List ℤ
numbers_in_four axes a b c d = if nat_eq axes 3 then a ∷ b ∷ c ∷ [] else a ∷ b ∷ c ∷ d ∷ []

-- four lanes were seen by extents, and the numbers are short enough
pub record SeesFour (axes : ℕ) (a b c d : ℤ) (e : Extents) (new : Lanes) : Type 0 where
  pub sees : Sees axes (map (cast_unsigned w32) (steps axes a b c d)) e.lanes new
  pub held : IsHeld axes e
  pub near : (base_of e).is_near ≡ true
  pub middle : AreMiddle e.lanes
  pub one : IsHalf a
  pub two : IsHalf b
  pub three : IsHalf c
  pub four : IsHalf d

two_grow : (a b c d : ℤ) (e : Extents) (new : Lanes) → SeesFour 2 a b c d e new → GrowTo 2 e (a ∷ b ∷ c ∷ d ∷ []) (with_lanes e new)
two_grow a b c d e new p zero few =
    grows_after _ _ (base_of e).x.range _ _ _ (seen_two 0 few (base_of e).x.last a c _ e.lanes new p.sees (p.held.near p.near 0 few) refl refl (half_step a p.one) (both_step a c p.one p.three) p.middle p.held.each (p.held.twice refl 0 few) refl)
two_grow a b c d e new p (suc zero) few =
    grows_after _ _ (base_of e).y.range _ _ _ (seen_two 1 few (base_of e).y.last b d _ e.lanes new p.sees (p.held.near p.near 1 few) refl refl (half_step b p.two) (both_step b d p.two p.four) p.middle p.held.each (p.held.twice refl 1 few) refl)
two_grow a b c d e new p (suc (suc k)) few = absurd (omega (arith, few))

three_grow : (a b c d : ℤ) (e : Extents) (new : Lanes) → SeesFour 3 a b c d e new → GrowTo 3 e (a ∷ b ∷ c ∷ []) (with_lanes e new)
three_grow a b c d e new p zero few =
    grows_after _ _ (base_of e).x.range _ _ _ (seen_one 3 0 (omega arith) (base_of e).x.last a _ e.lanes new p.sees (p.held.near p.near 0 few) refl (half_step a p.one) p.middle (p.held.each 0 (omega arith)) refl)
three_grow a b c d e new p (suc zero) few =
    grows_after _ _ (base_of e).y.range _ _ _ (seen_one 3 1 (omega arith) (base_of e).y.last b _ e.lanes new p.sees (p.held.near p.near 1 few) refl (half_step b p.two) p.middle (p.held.each 1 (omega arith)) refl)
three_grow a b c d e new p (suc (suc zero)) few =
    grows_after _ _ (base_of e).third.range _ _ _ (seen_one 3 2 (omega arith) (base_of e).third.last c _ e.lanes new p.sees (p.held.near p.near 2 few) refl (half_step c p.three) p.middle (p.held.each 2 (omega arith)) refl)
three_grow a b c d e new p (suc (suc (suc k))) few = absurd (omega (arith, few))

four_grow : (a b c d : ℤ) (e : Extents) (new : Lanes) → SeesFour 4 a b c d e new → GrowTo 4 e (a ∷ b ∷ c ∷ d ∷ []) (with_lanes e new)
four_grow a b c d e new p zero few =
    grows_after _ _ (base_of e).x.range _ _ _ (seen_one 4 0 (omega arith) (base_of e).x.last a _ e.lanes new p.sees (p.held.near p.near 0 few) refl (half_step a p.one) p.middle (p.held.each 0 (omega arith)) refl)
four_grow a b c d e new p (suc zero) few =
    grows_after _ _ (base_of e).y.range _ _ _ (seen_one 4 1 (omega arith) (base_of e).y.last b _ e.lanes new p.sees (p.held.near p.near 1 few) refl (half_step b p.two) p.middle (p.held.each 1 (omega arith)) refl)
four_grow a b c d e new p (suc (suc zero)) few =
    grows_after _ _ (base_of e).third.range _ _ _ (seen_one 4 2 (omega arith) (base_of e).third.last c _ e.lanes new p.sees (p.held.near p.near 2 few) refl (half_step c p.three) p.middle (p.held.each 2 (omega arith)) refl)
four_grow a b c d e new p (suc (suc (suc zero))) few =
    grows_after _ _ (base_of e).fourth.range _ _ _ (seen_one 4 3 (omega arith) (base_of e).fourth.last d _ e.lanes new p.sees (p.held.near p.near 3 few) refl (half_step d p.four) p.middle (p.held.each 3 (omega arith)) refl)
four_grow a b c d e new p (suc (suc (suc (suc k)))) few = absurd (omega (arith, few))

pub four_seen : (axes : ℕ) → IsAxes axes → (a b c d : ℤ) (e : Extents) (new : Lanes) → SeesFour axes a b c d e new → IsHeld axes (with_lanes e new) × GrowTo axes e (numbers_in_four axes a b c d) (with_lanes e new)
four_seen axes is a b c d e new p = (seen_held axes _ e new p.sees p.held p.near, grow is p)
  where
    Grow : ℕ → Type 0
    Grow n = SeesFour n a b c d e new → GrowTo n e (numbers_in_four n a b c d) (with_lanes e new)

    grow : IsAxes axes → Grow axes
    grow (inl two) = subst Grow (sym two) (two_grow a b c d e new)
    grow (inr (inl three)) = subst Grow (sym three) (three_grow a b c d e new)
    grow (inr (inr four)) = subst Grow (sym four) (four_grow a b c d e new)

-- numbers of whole points, and then more
pub grow_then : (axes points : ℕ) (e f g : Extents) (xs ys : List ℤ) → length xs ≡ axes * points → GrowTo axes e xs f → GrowTo axes f ys g → GrowTo axes e (xs ++ ys) g
grow_then axes points e f g xs ys many p q k few =
    subst (λ (zs : List ℤ). Grows (last_of e k) (range_of axes e k) zs (last_of g k) (range_of axes g k)) (sym (column-append axes k points xs ys many few)) (grows_on _ _ _ _ _ _ _ _ (p k few) (q k few))

-- a step of at most four numbers of two bytes
abbrev pub IsTiny : ℤ → Type 0
IsTiny z = (neg_ℤ (pos 32768) ≤ℤ z) × (z ≤ℤ pos 32768)

brief_tiny : (z : ℤ) → IsBrief z → IsTiny z
brief_tiny z h = (omega (arith, ints, h.0), omega (arith, ints, h.1))

two_tiny : (y z : ℤ) → IsBrief y → IsBrief z → IsTiny (z +ℤ y)
two_tiny y z h k = (omega (arith, ints, h.0, k.0), omega (arith, ints, h.1, k.1))

-- each step of four numbers of two bytes is tiny
tiny_step : (axes : ℕ) (a b c d : ℤ) → IsBrief a → IsBrief b → IsBrief c → IsBrief d → (i : ℕ) → i < 4 → (z : ℤ) × ((slice_index (map (cast_unsigned w32) (steps axes a b c d)) i ≡ cast_unsigned w32 z) × IsTiny z)
tiny_step axes a b c d p q r s i few = go (axes == 2) i few
  where
    go : (two : Bool) (i : ℕ) → i < 4 → (z : ℤ) × ((slice_index (map (cast_unsigned w32) (if two then a ∷ b ∷ (c +ℤ a) ∷ (d +ℤ b) ∷ [] else a ∷ b ∷ c ∷ d ∷ [])) i ≡ cast_unsigned w32 z) × IsTiny z)
    go true zero h = (a, (refl, brief_tiny a p))
    go true (suc zero) h = (b, (refl, brief_tiny b q))
    go true (suc (suc zero)) h = (c +ℤ a, (refl, two_tiny a c p r))
    go true (suc (suc (suc zero))) h = (d +ℤ b, (refl, two_tiny b d q s))
    go true (suc (suc (suc (suc i)))) h = absurd (omega (arith, h))
    go false zero h = (a, (refl, brief_tiny a p))
    go false (suc zero) h = (b, (refl, brief_tiny b q))
    go false (suc (suc zero)) h = (c, (refl, brief_tiny c r))
    go false (suc (suc (suc zero))) h = (d, (refl, brief_tiny d s))
    go false (suc (suc (suc (suc i)))) h = absurd (omega (arith, h))

place_few : (axes i : ℕ) → i < 4 → last_place axes i < 4
place_few axes i few = go (axes == 2)
  where
    go : (two : Bool) → (if two then 2 + i % 2 else i) < 4
    go true = omega arith
    go false = few

tiny_moved : (z : ℤ) (lane : ℕ) → IsTiny z → (1073741824 ≤ lane) × (lane < 3221225472) → IsMiddle (lane_sum (cast_unsigned w32 z) lane)
tiny_moved z lane tiny room =
    let step : IsStep z = (omega (arith, ints, tiny.0), omega (arith, ints, tiny.1)) in
    let middle : IsMiddle lane = (omega (arith, room.0), omega (arith, room.1)) in
    let moved = moved_lane z lane step middle in
    (omega (arith, ints, moved.0, tiny.0, room.0), omega (arith, ints, moved.0, tiny.1, room.1))

-- after four numbers of two bytes lanes can be moved by a step again
pub tiny_middle : (axes : ℕ) (a b c d : ℤ) (old new : Lanes) → Sees axes (map (cast_unsigned w32) (steps axes a b c d)) old new → HaveRoom old → IsBrief a → IsBrief b → IsBrief c → IsBrief d → AreMiddle new
tiny_middle axes a b c d old new p room one two three four i few =
    let place = place_few axes i few in
    let (z, (is, tiny)) = tiny_step axes a b c d one two three four (last_place axes i) place in
    subst IsMiddle (sym (p.last i few ∙ ap (λ (n : ℕ). lane_sum n (slice_index old.last (last_place axes i))) is)) (tiny_moved z (slice_index old.last (last_place axes i)) tiny (room (last_place axes i) place))

brief_half : (z : ℤ) → IsBrief z → IsHalf z
brief_half z h = (omega (arith, ints, h.0), omega (arith, ints, h.1))

short_half : (z : ℤ) → IsShort z → IsHalf z
short_half z h = (omega (arith, ints, h.0), omega (arith, ints, h.1))

-- eight lanes of 16 bits
pub eight_seen : (axes : ℕ) → IsAxes axes → (a b c d e f g h : ℤ) (old : Extents) (mid new : Lanes) → All IsBrief (a ∷ b ∷ c ∷ d ∷ e ∷ f ∷ g ∷ h ∷ [])
    → Sees axes (map (cast_unsigned w32) (steps axes a b c d)) old.lanes mid → Sees axes (map (cast_unsigned w32) (steps axes e f g h)) mid new → IsHeld axes old → (base_of old).is_near ≡ true → HaveRoom old.lanes
    → IsHeld axes (with_lanes old new) × GrowTo axes old (points_in axes (a ∷ b ∷ c ∷ d ∷ e ∷ f ∷ g ∷ h ∷ [])) (with_lanes old new)
eight_seen axes is a b c d e f g h old mid new brief first second held near room =
    let one : IsBrief a = brief 0 (pos 0) (omega arith) in
    let two : IsBrief b = brief 1 (pos 0) (omega arith) in
    let three : IsBrief c = brief 2 (pos 0) (omega arith) in
    let four : IsBrief d = brief 3 (pos 0) (omega arith) in
    let five : IsBrief e = brief 4 (pos 0) (omega arith) in
    let six : IsBrief f = brief 5 (pos 0) (omega arith) in
    let seven : IsBrief g = brief 6 (pos 0) (omega arith) in
    let eight : IsBrief h = brief 7 (pos 0) (omega arith) in
    let p = four_seen axes is a b c d old mid (record {
      sees = first;
      held = held;
      near = near;
      middle = room_middle old.lanes room;
      one = brief_half a one;
      two = brief_half b two;
      three = brief_half c three;
      four = brief_half d four;
    }) in
    let q = four_seen axes is e f g h (with_lanes old mid) new (record {
      sees = second;
      held = p.0;
      near = near;
      middle = tiny_middle axes a b c d old.lanes mid first room one two three four;
      one = brief_half e five;
      two = brief_half f six;
      three = brief_half g seven;
      four = brief_half h eight;
    }) in
    (q.0, both is p.1 q.1)
  where
    Both : ℕ → Type 0
    Both n = GrowTo n old (numbers_in_four n a b c d) (with_lanes old mid) → GrowTo n (with_lanes old mid) (numbers_in_four n e f g h) (with_lanes old new) → GrowTo n old (points_in n (a ∷ b ∷ c ∷ d ∷ e ∷ f ∷ g ∷ h ∷ [])) (with_lanes old new)

    both : IsAxes axes → Both axes
    both (inl two) = subst Both (sym two) (grow_then 2 2 old (with_lanes old mid) (with_lanes old new) (a ∷ b ∷ c ∷ d ∷ []) (e ∷ f ∷ g ∷ h ∷ []) refl)
    both (inr (inl three)) = subst Both (sym three) (grow_then 3 1 old (with_lanes old mid) (with_lanes old new) (a ∷ b ∷ c ∷ []) (e ∷ f ∷ g ∷ []) refl)
    both (inr (inr four)) = subst Both (sym four) (grow_then 4 1 old (with_lanes old mid) (with_lanes old new) (a ∷ b ∷ c ∷ d ∷ []) (e ∷ f ∷ g ∷ h ∷ []) refl)

-- a zero difference changes nothing
without_zero : (s s' z : ℤ) (r r' : Option Span) → Grows s r (z ∷ pos 0 ∷ []) s' r' → Grows s r (z ∷ []) s' r'
without_zero s s' z r r' p =
    let still : (s +ℤ z) +ℤ pos 0 ≡ s +ℤ z = omega (arith, ints) in
    let low : int_min (s +ℤ z) ((s +ℤ z) +ℤ pos 0) ≡ s +ℤ z = omega (arith, ints, clamps) in
    let high : int_max (s +ℤ z) ((s +ℤ z) +ℤ pos 0) ≡ s +ℤ z = omega (arith, ints, clamps) in
    record {
      sum = p.sum ∙ still;
      reach = p.reach ∙ ap (joined r) (λ j. Some (record { lo = low j; hi = high j }));
      stays = (p.stays.0, tt);
    }

one_point_alone : (a b c d : ℤ) (e f : Extents) → c ≡ pos 0 → d ≡ pos 0 → GrowTo 2 e (a ∷ b ∷ c ∷ d ∷ []) f → GrowTo 2 e (a ∷ b ∷ []) f
one_point_alone a b c d e f none none' p zero few = without_zero _ _ a _ _ (subst (λ (z : ℤ). Grows (last_of e 0) (range_of 2 e 0) (a ∷ z ∷ []) (last_of f 0) (range_of 2 f 0)) none (p 0 few))
one_point_alone a b c d e f none none' p (suc zero) few = without_zero _ _ b _ _ (subst (λ (z : ℤ). Grows (last_of e 1) (range_of 2 e 1) (b ∷ z ∷ []) (last_of f 1) (range_of 2 f 1)) none' (p 1 few))
one_point_alone a b c d e f none none' p (suc (suc k)) few = absurd (omega (arith, few))

-- up to four lanes of 32 bits
pub wide_seen : (axes many : ℕ) → IsAxes axes → (many ≡ axes) ⊎ ((axes ≡ 2) × (many ≡ 4)) → (a b c d : ℤ) (old : Extents) (new : Lanes) → All IsShort (a ∷ b ∷ c ∷ d ∷ []) → drop many (a ∷ b ∷ c ∷ d ∷ []) ≡ replicate (4 - many) (pos 0)
    → Sees axes (map (cast_unsigned w32) (steps axes a b c d)) old.lanes new → IsHeld axes old → (base_of old).is_near ≡ true → HaveRoom old.lanes
    → IsHeld axes (with_lanes old new) × GrowTo axes old (take many (a ∷ b ∷ c ∷ d ∷ [])) (with_lanes old new)
wide_seen axes many is whole a b c d old new short zeros sees held near room =
    let one : IsShort a = short 0 (pos 0) (omega arith) in
    let two : IsShort b = short 1 (pos 0) (omega arith) in
    let three : IsShort c = short 2 (pos 0) (omega arith) in
    let four : IsShort d = short 3 (pos 0) (omega arith) in
    let p = four_seen axes is a b c d old new (record {
      sees = sees;
      held = held;
      near = near;
      middle = room_middle old.lanes room;
      one = short_half a one;
      two = short_half b two;
      three = short_half c three;
      four = short_half d four;
    }) in
    (p.0, taken is whole zeros p.1)
  where
    Taken : ℕ → ℕ → Type 0
    Taken n m = drop m (a ∷ b ∷ c ∷ d ∷ []) ≡ replicate (4 - m) (pos 0) → GrowTo n old (numbers_in_four n a b c d) (with_lanes old new) → GrowTo n old (take m (a ∷ b ∷ c ∷ d ∷ [])) (with_lanes old new)

    same : (n : ℕ) → IsAxes n → Taken n n
    same n (inl two) = subst (λ (k : ℕ). Taken k k) (sym two) (λ none. one_point_alone a b c d old (with_lanes old new) (cc (none)) (cc (none)))
    same n (inr (inl three)) = subst (λ (k : ℕ). Taken k k) (sym three) (λ none p. p)
    same n (inr (inr four)) = subst (λ (k : ℕ). Taken k k) (sym four) (λ none p. p)

    taken : IsAxes axes → (many ≡ axes) ⊎ ((axes ≡ 2) × (many ≡ 4)) → Taken axes many
    taken is (inl one) = subst (Taken axes) (sym one) (same axes is)
    taken is (inr two) = subst (λ (n : ℕ). Taken n many) (sym two.0) (subst (Taken 2) (sym two.1) (λ none p. p))

-- lanes of zero mean zeros
pub zeros_mean : (many : ℕ) (numbers : List ℕ) (zs : List ℤ) → map (cast_signed w32) numbers ≡ zs → drop many numbers ≡ replicate (4 - many) 0 → drop many zs ≡ replicate (4 - many) (pos 0)
zeros_mean many numbers zs means zeros = ap (drop many) (sym means) ∙ drop-map many numbers ∙ ap (map (cast_signed w32)) zeros ∙ replicate-map (4 - many)
  where
    drop-map : (n : ℕ) (ks : List ℕ) → drop n (map (cast_signed w32) ks) ≡ map (cast_signed w32) (drop n ks)
    drop-map zero ks = refl
    drop-map (suc n) [] = refl
    drop-map (suc n) (k ∷ ks) = drop-map n ks

    replicate-map : (n : ℕ) → map (cast_signed w32) (replicate n 0) ≡ replicate n (pos 0)
    replicate-map zero = refl
    replicate-map (suc n) = ap (λ (zs : List ℤ). pos 0 ∷ zs) (replicate-map n)
