-- Boxes that are judged in raw coordinates: what a raw range holds, its span in units holds.
use Rattle.twkb_body.proofs.Prelude.{◌≡◌, ℕ, ◌<◌, ◌^◌, Bool, true, false, List, [], Ok, ℤ, pos, ◌-ℤ◌, ◌<ℤ◌, unsigned_abs, Option, Some, None, is_some, IfSome, refl, ap, ap₂, subst, ◌∙◌, arith, ◌&&◌, ints, one-le-pow, units_of, Reading, Span, BoxField, Fields, RawBox, RawRange, Header, axes_with, span_at, m_axis, ends_of, fields_box, head_said, raw_bounds, Reader, Extents, Ranges, Trail, PointValue, Reach, reach_of, IsCovered, range_of, range_if, raw_reach, HoldsPoints, box_judged, of_head, covers, hugs, hugs_if_both, first, false_at, is_within, is_tight, HasRead, range_at, span_in, scaled, reach_in_units, widened, IsHeldRaw, AreHeldRaw, in_units, ranges_reach, no_points, lasts_from, IsWalked}
use Rattle.std.specs.Prelude.{option_map}
use Rattle.twkb_body.proofs.Judging.{covers_decides, hugs_decides}
use Rattle.twkb_body.proofs.Scales.{times_le}
use Rattle.twkb_body.proofs.WalkReads.{beside, fold_beside, walked_apart}

-- a box that holds a reach, and in tight checking is tight, isn't refused
judged_none : (tight : Bool) (h : Header) (field : BoxField) (reach : Reach) → is_within reach field.bounds ≡ true → (tight ≡ true → is_tight h.xy h.z h.m field.bounds reach ≡ true) → box_judged tight h (Some field) reach ≡ None
judged_none false h field reach within hugged = ap (λ (b : Bool). first (false_at b field.offset 7) None) within
judged_none true h field reach within hugged = ap₂ (λ (a b : Bool). first (false_at a field.offset 7) (false_at b field.offset 9)) within (hugged refl)

-- ---- no points
-- a span covers no points
covers_none : (span : Option Span) → covers span None ≡ true
covers_none None = refl
covers_none (Some span) = refl

-- a span is tight round no points
hugs_none : (span : Option Span) (p : Option ℕ) → hugs_if_both span p None ≡ true
hugs_none None p = refl
hugs_none (Some span) None = refl
hugs_none (Some span) (Some p) = refl

-- no box refuses no points
pub nothing_judged : (tight : Bool) (h : Header) (box : Option BoxField) → box_judged tight h box (reach_of []) ≡ None
nothing_judged tight h None = refl
nothing_judged tight h (Some field) = judged_none tight h field (reach_of []) (ap₂ (λ (a b : Bool). a && b) (covers_none field.bounds.z) (covers_none field.bounds.m)) (λ t. ap₂ (λ (a b : Bool). a && b) (hugs_none field.bounds.z h.z) (hugs_none field.bounds.m h.m))

-- a header has a box in units if it has one in raw coordinates
pub box_there : (raw : Fields) → is_some raw.bounds ≡ is_some (head_said raw).bounds
box_there raw = go raw.bounds
  where
    go : (box : Option RawBox) → is_some box ≡ is_some (option_map (fields_box raw) box)
    go None = refl
    go (Some box) = refl

-- ---- the ranges of points
-- each axis that the header has is in its own range
pub settled_is : (h : Header) (axes : ℕ) (e : Extents) (ranges : Ranges) → axes ≡ axes_with h.z h.m → ((k : ℕ) → k < axes → k < 4 → range_at ranges k ≡ range_of axes e k)
    → in_units (record { xy = h.xy; z = h.z; m = h.m }) ranges ≡ reach_in_units h.xy h.z h.m (raw_reach h axes e)
settled_is h axes e ranges axes_are is = go h.z h.m axes_are
  where
    go : (z m : Option ℕ) → axes ≡ axes_with z m
        → reach_in_units h.xy z m (ranges_reach z ranges) ≡ reach_in_units h.xy z m (record { x = range_of axes e 0; y = range_of axes e 1; z = range_if z (range_of axes e 2); m = range_if m (range_of axes e (m_axis z)) })
    go None None a =
        let x = is 0 (omega (arith, a)) (omega arith) in
        let y = is 1 (omega (arith, a)) (omega arith) in
        (λ j. record { x = scaled h.xy (x j); y = scaled h.xy (y j); z = None; m = None })
    go (Some p) None a =
        let x = is 0 (omega (arith, a)) (omega arith) in
        let y = is 1 (omega (arith, a)) (omega arith) in
        let z = is 2 (omega (arith, a)) (omega arith) in
        (λ j. record { x = scaled h.xy (x j); y = scaled h.xy (y j); z = scaled (pos p) (z j); m = None })
    go None (Some q) a =
        let x = is 0 (omega (arith, a)) (omega arith) in
        let y = is 1 (omega (arith, a)) (omega arith) in
        let m = is 2 (omega (arith, a)) (omega arith) in
        (λ j. record { x = scaled h.xy (x j); y = scaled h.xy (y j); z = None; m = scaled (pos q) (m j) })
    go (Some p) (Some q) a =
        let x = is 0 (omega (arith, a)) (omega arith) in
        let y = is 1 (omega (arith, a)) (omega arith) in
        let z = is 2 (omega (arith, a)) (omega arith) in
        let m = is 3 (omega (arith, a)) (omega arith) in
        (λ j. record { x = scaled h.xy (x j); y = scaled h.xy (y j); z = scaled (pos p) (z j); m = scaled (pos q) (m j) })

-- ---- from raw coordinates to units
-- a raw range that holds a range holds it in units
covers_scaled : (p : ℤ) (range : RawRange) (reached : Option Span) → IsCovered (Some (span_in range)) reached → covers (Some (span_at p (ends_of range))) (scaled p reached) ≡ true
covers_scaled p range None held = refl
covers_scaled p range (Some r) held = (covers_decides (Some (span_at p (ends_of range))) (scaled p (Some r))).1 (times_le (10 ^ unsigned_abs (pos 7 -ℤ p)) _ _ held.0, times_le (10 ^ unsigned_abs (pos 7 -ℤ p)) _ _ held.1)

-- a step is above zero
above : (p a : ℤ) → (a -ℤ a) <ℤ units_of (pos 1) p
above p a = let some = one-le-pow (unsigned_abs (pos 7 -ℤ p)) 10 (omega arith) in omega (arith, ints)

-- a raw range that is the range itself is tight in units
hugs_scaled : (p : ℤ) (range : RawRange) (reached : Option Span) → IfSome reached (λ r. r ≡ span_in range) → hugs (span_at p (ends_of range)) (units_of (pos 1) p) (scaled p reached) ≡ true
hugs_scaled p range None same = refl
hugs_scaled p range (Some r) same =
    ap (λ (r : Span). hugs (span_at p (ends_of range)) (units_of (pos 1) p) (scaled p (Some r))) same
    ∙ (hugs_decides (span_at p (ends_of range)) (units_of (pos 1) p) (scaled p (Some (span_in range)))).1 (above p (units_of (span_in range).lo p), above p (units_of (span_in range).hi p))

-- a box that holds all points in raw coordinates isn't refused
pub held_judged : (tight : Bool) (raw : Fields) (box : RawBox) (ranges : Ranges) → raw.bounds ≡ Some box → AreHeldRaw tight raw.axes box ranges
    → box_judged tight (of_head (head_said raw)) (head_said raw).bounds (in_units raw.axes ranges) ≡ None
held_judged tight raw box ranges is held =
    ap (λ (o : Option RawBox). box_judged tight (of_head (head_said raw)) (option_map (fields_box raw) o) (in_units raw.axes ranges)) is
    ∙ judged_none tight (of_head (head_said raw)) (fields_box raw box) (in_units raw.axes ranges) (within raw.axes.z raw.axes.m held.third held.fourth) (λ t. hugged t raw.axes.z raw.axes.m held.third held.fourth)
  where
    xy : ℤ
    xy = raw.axes.xy

    within : (z m : Option ℕ) → (2 < axes_with z m → IsHeldRaw tight box.third ranges.third) → (3 < axes_with z m → IsHeldRaw tight box.fourth ranges.fourth)
        → is_within (reach_in_units xy z m (ranges_reach z ranges)) (raw_bounds xy z m box) ≡ true
    within None None third fourth = ap₂ (λ (p q : Bool). p && (q && true)) (covers_scaled xy box.x ranges.x held.x.held) (covers_scaled xy box.y ranges.y held.y.held)
    within (Some p) None third fourth =
        let z = covers_scaled (pos p) box.third ranges.third (third (omega arith)).held in
        (λ j. covers_scaled xy box.x ranges.x held.x.held j && (covers_scaled xy box.y ranges.y held.y.held j && (z j && true)))
    within None (Some q) third fourth =
        let m = covers_scaled (pos q) box.third ranges.third (third (omega arith)).held in
        (λ j. covers_scaled xy box.x ranges.x held.x.held j && (covers_scaled xy box.y ranges.y held.y.held j && m j))
    within (Some p) (Some q) third fourth =
        let z = covers_scaled (pos p) box.third ranges.third (third (omega arith)).held in
        let m = covers_scaled (pos q) box.fourth ranges.fourth (fourth (omega arith)).held in
        (λ j. covers_scaled xy box.x ranges.x held.x.held j && (covers_scaled xy box.y ranges.y held.y.held j && (z j && m j)))

    hugged : tight ≡ true → (z m : Option ℕ) → (2 < axes_with z m → IsHeldRaw tight box.third ranges.third) → (3 < axes_with z m → IsHeldRaw tight box.fourth ranges.fourth)
        → is_tight xy z m (raw_bounds xy z m box) (reach_in_units xy z m (ranges_reach z ranges)) ≡ true
    hugged t None None third fourth = ap₂ (λ (p q : Bool). p && (q && true)) (hugs_scaled xy box.x ranges.x (held.x.same t)) (hugs_scaled xy box.y ranges.y (held.y.same t))
    hugged t (Some p) None third fourth =
        let z = hugs_scaled (pos p) box.third ranges.third ((third (omega arith)).same t) in
        (λ j. hugs_scaled xy box.x ranges.x (held.x.same t) j && (hugs_scaled xy box.y ranges.y (held.y.same t) j && (z j && true)))
    hugged t None (Some q) third fourth =
        let m = hugs_scaled (pos q) box.third ranges.third ((third (omega arith)).same t) in
        (λ j. hugs_scaled xy box.x ranges.x (held.x.same t) j && (hugs_scaled xy box.y ranges.y (held.y.same t) j && m j))
    hugged t (Some p) (Some q) third fourth =
        let z = hugs_scaled (pos p) box.third ranges.third ((third (omega arith)).same t) in
        let m = hugs_scaled (pos q) box.fourth ranges.fourth ((fourth (omega arith)).same t) in
        (λ j. hugs_scaled xy box.x ranges.x (held.x.same t) j && (hugs_scaled xy box.y ranges.y (held.y.same t) j && (z j && m j)))

-- ---- points that were read
-- Points were read under a header: their number, and their reach in raw coordinates.
pub record IsExtentRead {A : Type 0} (each : PointValue → Reader A) (points_in : A → List PointValue) (h : Header) (axes : ℕ) (e : Extents) (points : ℕ) (from to : Reading) : Type 0 where
  pub value : A
  pub read : each no_points.last from ≡ (Ok value, to)
  pub trail : Trail
  pub walked : IsWalked (widened h) axes no_points trail (reach_of []) (raw_reach h axes e) from.place to.place (points_in value)
  pub many : trail.points ≡ points

-- an extent reader's result says that its points were read, and gives their number and their reach
pub extent_read : {A : Type 0} (each : PointValue → Reader A) (points_in : A → List PointValue) (h : Header) (axes : ℕ) (e : Extents) (points : ℕ) (from to : Reading)
    → HasRead each points_in (beside widened) (HoldsPoints axes e points) (record { axes = axes; trail = no_points; state = (h, reach_of []) }) from to → IsExtentRead each points_in h axes e points from to
extent_read each points_in h axes e points from to r =
    let same : r.state.0 ≡ h = ap (λ (s : Header × Reach). s.0) (r.walked.added ∙ fold_beside widened h (reach_of []) (lasts_from no_points.last (points_in r.value))) in
    let reach : r.state.1 ≡ raw_reach h axes e = r.there.reach ∙ ap (λ (h : Header). raw_reach h axes e) same in
    record {
      value = r.value;
      read = r.read;
      trail = r.trail;
      walked = subst (λ (t : Reach). IsWalked (widened h) axes no_points r.trail (reach_of []) t from.place to.place (points_in r.value)) reach
          (walked_apart widened h axes no_points r.trail (reach_of []) r.state.1 r.state.0 from.place to.place (points_in r.value) r.walked);
      many = r.there.many;
    }
