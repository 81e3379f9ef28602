-- A run of points that was taken, and its extents.
use Rattle.twkb_body.proofs.Prelude.{◌≡◌, ℕ, zero, suc, ◌+◌, ◌*◌, ◌<◌, ◌≤◌, List, [], ◌∷◌, map, length, fold, filter_map, ℤ, pos, ◌+ℤ◌, false, Option, Some, None, Ok, inl, inr, refl, sym, ap, ap₂, ◌∙◌, subst, arith, Reading, IsSound, IsAxes, ReadsNumbers, StopsAt, NumFault, Vertex, Header, axes_with, m_axis, Extents, Trail, Reach, reach_of, span_of, joined, PointValue, coordinate, sums, zeros, column, running, Stays, range_of, last_of, has_left, raw_reach, range_if, IsHeld, HoldsPoints, GrowTo, Leaves, Took, Stage, HasRead, points_at, raw_of, widened, lasts_from, IsWalked}
use Rattle.std.specs.Prelude.{option_map}
use Rattle.twkb_body.proofs.ExtentLanes.{grows_nothing}
use Rattle.twkb_body.proofs.NumberRuns.{rows, run_walked, run_leaves, run_ends_early, sums_column, lasts_column}
use Rattle.twkb_body.proofs.Scales.{widened_all}

-- the axes of a header are two, three or four
pub axes_known : (z m : Option ℕ) → IsAxes (axes_with z m)
axes_known None None = inl refl
axes_known (Some z) None = inr (inl refl)
axes_known None (Some m) = inr (inl refl)
axes_known (Some z) (Some m) = inr (inr refl)

pub took_nothing : (axes : ℕ) (e : Extents) → Took axes e [] e
took_nothing axes e = λ held stays. ((λ now. (held, λ k few. grows_nothing _ _)), λ now. absurd (cc (sym stays ∙ now)))

-- ---- ranges of points
none_there : (get : Vertex → Option ℤ) (raw : PointValue → Vertex) (ps : List PointValue) → ((p : PointValue) → get (raw p) ≡ None) → filter_map get (map raw ps) ≡ []
none_there get raw [] none = refl
none_there get raw (p ∷ ps) none = rw (none p) (none_there get raw ps none)

all_there : (get : Vertex → Option ℤ) (c : PointValue → ℤ) (raw : PointValue → Vertex) (ps : List PointValue) → ((p : PointValue) → get (raw p) ≡ Some (c p)) → filter_map get (map raw ps) ≡ map c ps
all_there get c raw [] some = refl
all_there get c raw (p ∷ ps) some = rw (some p) (ap (λ (l : List ℤ). c p ∷ l) (all_there get c raw ps some))

pub two_few : (axes k : ℕ) → IsAxes axes → k < 2 → k < axes
two_few axes k (inl two) few = omega (arith, two, few)
two_few axes k (inr (inl three)) few = omega (arith, three, few)
two_few axes k (inr (inr four)) few = omega (arith, four, few)

-- the axes of Z and of M are there, if the header has them
z_few : (axes : ℕ) (z m : Option ℕ) (p : ℕ) → axes ≡ axes_with z m → z ≡ Some p → 2 < axes
z_few axes (Some z) None p is some = omega (arith, is)
z_few axes (Some z) (Some m) p is some = omega (arith, is)
z_few axes None m p is some = absurd (cc (some))

m_few : (axes : ℕ) (z m : Option ℕ) (p : ℕ) → axes ≡ axes_with z m → m ≡ Some p → m_axis z < axes
m_few axes None (Some m) p is some = omega (arith, is)
m_few axes (Some z) (Some m) p is some = omega (arith, is)
m_few axes z None p is some = absurd (cc (some))

module _ (h : Header) (axes n : ℕ) (axes_are : axes ≡ axes_with h.z h.m) (last : PointValue) (zs : List ℤ) (many : length zs ≡ axes * n) (old new : Extents) (grow : GrowTo axes old zs new) (lasts : (k : ℕ) → k < axes → coordinate last k ≡ last_of old k) where
  abbrev pub points : List PointValue
  points = lasts_from last (rows axes n zs)

  -- the range of an axis is joined with that of its coordinates
  axis_range : (k : ℕ) → k < axes → range_of axes new k ≡ joined (range_of axes old k) (span_of (map (λ (p : PointValue). coordinate p k) points))
  axis_range k few =
      (grow k few).reach ∙ ap (λ (cs : List ℤ). joined (range_of axes old k) (span_of cs))
      (ap (λ (s : ℤ). running s (column axes k zs)) (sym (lasts k few)) ∙ sym (lasts_column axes n k last zs many few))

  -- an axis that every point has
  flat_range : (k : ℕ) → k < 2 → (get : Vertex → ℤ) → ((p : PointValue) → get (raw_of h p) ≡ coordinate p k) → range_of axes new k ≡ joined (range_of axes old k) (span_of (map get (map (raw_of h) points)))
  flat_range k few get is =
      axis_range k (two_few axes k (subst IsAxes (sym axes_are) (axes_known h.z h.m)) few) ∙ ap (λ (cs : List ℤ). joined (range_of axes old k) (span_of cs)) (sym (each points))
    where
      each : (ps : List PointValue) → map get (map (raw_of h) ps) ≡ map (λ (p : PointValue). coordinate p k) ps
      each [] = refl
      each (p ∷ ps) = ap₂ (λ (c : ℤ) (cs : List ℤ). c ∷ cs) (is p) (each ps)

  -- an axis that the header has or not
  further_range : (precision : Option ℕ) (k : ℕ) (get : Vertex → Option ℤ) → ((p : PointValue) → get (raw_of h p) ≡ option_map (λ q. coordinate p k) precision) → ((q : ℕ) → precision ≡ Some q → k < axes)
      → range_if precision (range_of axes new k) ≡ joined (range_if precision (range_of axes old k)) (span_of (filter_map get (map (raw_of h) points)))
  further_range None k get is few = ap (λ (cs : List ℤ). joined None (span_of cs)) (sym (none_there get (raw_of h) points is))
  further_range (Some q) k get is few =
      axis_range k (few q refl) ∙ ap (λ (cs : List ℤ). joined (range_of axes old k) (span_of cs)) (sym (all_there get (λ p. coordinate p k) (raw_of h) points is))

  pub reach_grows : raw_reach h axes new ≡ fold (widened h) (raw_reach h axes old) points
  reach_grows =
      let x = flat_range 0 (omega arith) (λ v. v.x) (λ p. refl) in
      let y = flat_range 1 (omega arith) (λ v. v.y) (λ p. refl) in
      let z = further_range h.z 2 (λ v. v.z) (λ p. refl) (λ q some. z_few axes h.z h.m q axes_are some) in
      let m = further_range h.m (m_axis h.z) (λ v. v.m) (λ p. refl) (λ q some. m_few axes h.z h.m q axes_are some) in
      (λ j. record { x = x j; y = y j; z = z j; m = m j }) ∙ sym (widened_all h (raw_reach h axes old) points)

-- the state of points under one header
pub state_grows : (h : Header) (reach : Reach) (points : List PointValue) → fold (λ (s : Header × Reach) point. (s.0, widened s.0 s.1 point)) (h, reach) points ≡ (h, fold (widened h) reach points)
state_grows h reach [] = refl
state_grows h reach (p ∷ ps) = state_grows h (widened h reach p) ps

-- before the first point every coordinate is zero, and there is no range
pub no_coordinate : (k : ℕ) → coordinate zeros k ≡ pos 0
no_coordinate zero = refl
no_coordinate (suc zero) = refl
no_coordinate (suc (suc zero)) = refl
no_coordinate (suc (suc (suc zero))) = refl
no_coordinate (suc (suc (suc (suc k)))) = refl

pub none_reach : (h : Header) (axes : ℕ) (e : Extents) → axes ≡ axes_with h.z h.m → ((k : ℕ) → k < axes → range_of axes e k ≡ None) → reach_of [] ≡ raw_reach h axes e
none_reach h axes e axes_are none =
    let is = subst IsAxes (sym axes_are) (axes_known h.z h.m) in
    let x = none 0 (two_few axes 0 is (omega arith)) in
    let y = none 1 (two_few axes 1 is (omega arith)) in
    let z = further h.z 2 (λ q some. z_few axes h.z h.m q axes_are some) in
    let m = further h.m (m_axis h.z) (λ q some. m_few axes h.z h.m q axes_are some) in
    sym (λ j. record { x = x j; y = y j; z = z j; m = m j })
  where
    further : (precision : Option ℕ) (k : ℕ) → ((q : ℕ) → precision ≡ Some q → k < axes) → range_if precision (range_of axes e k) ≡ None
    further None k few = refl
    further (Some q) k few = none k (few q refl)

-- ---- what a reader has read
-- numbers that were taken lead to the stage after their points
pub run_read : (axes n : ℕ) (old new : Extents) (count : ℕ) (at : Stage (Header × Reach)) (a b : Reading) (zs : List ℤ) → HoldsPoints axes old count at → IsSound a → ReadsNumbers a b zs → length zs ≡ axes * n → IsHeld axes new → has_left new ≡ false → GrowTo axes old zs new
    → HasRead (points_at n at.axes) (λ points. points) (λ (s : Header × Reach) point. (s.0, widened s.0 s.1 point)) (HoldsPoints axes new (count + n)) at a b
run_read axes n old new count at a b zs holds sound reads many held stays grow =
    let h = at.state.0 in
    let last = at.trail.last in
    let axes_are = holds.axes_are in
    let after : Trail = record { last = sums last (rows axes n zs); points = at.trail.points + n } in
    let state : Header × Reach = (h, raw_reach h axes new) in
    let some : 1 ≤ axes = two_few axes 0 (subst IsAxes (sym axes_are) (axes_known h.z h.m)) (omega arith) in
    let all_stay = λ (k : ℕ) (few : k < axes). subst (λ (s : ℤ). Stays s (column axes k zs)) (sym (holds.lasts k few)) (grow k few).stays in
    let reach : raw_reach h axes new ≡ fold (widened h) at.state.1 (lasts_from last (rows axes n zs)) = reach_grows h axes n axes_are last zs many old new grow holds.lasts ∙ ap (λ (r : Reach). fold (widened h) r (lasts_from last (rows axes n zs))) (sym holds.reach) in
    let run = run_walked (λ (s : Header × Reach) point. (s.0, widened s.0 s.1 point)) axes n at.trail after at.state state a b zs some sound reads many all_stay refl refl ((λ j. (h, reach j)) ∙ sym (state_grows h at.state.1 (lasts_from last (rows axes n zs)))) in
    subst (λ (m : ℕ). HasRead (points_at n m) (λ points. points) (λ (s : Header × Reach) point. (s.0, widened s.0 s.1 point)) (HoldsPoints axes new (count + n)) at a b) (sym holds.same) (record {
      value = run.numbers;
      read = run.read;
      trail = after;
      state = state;
      there = record {
        axes_are = axes_are;
        same = holds.same;
        many = ap (λ (k : ℕ). k + n) holds.many;
        held = held;
        stays = stays;
        lasts = λ k few. sums_column axes n k last zs many few ∙ ap (λ (s : ℤ). fold ◌+ℤ◌ s (column axes k zs)) (holds.lasts k few) ∙ sym (grow k few).sum;
        reach = refl;
      };
      walked = subst (λ (m : ℕ). IsWalked (λ (s : Header × Reach) point. (s.0, widened s.0 s.1 point)) m at.trail after at.state state a.place b.place run.numbers) (sym holds.same) run.walked;
    })

-- numbers that can't be read, or that lead out of 64 bits, are no points
pub run_stops : (axes n : ℕ) (old : Extents) (count : ℕ) (at : Stage (Header × Reach)) (a b c : Reading) (zs : List ℤ) (fault : NumFault) → HoldsPoints axes old count at → IsSound a → ReadsNumbers a b zs → length zs < axes * n → StopsAt b c fault
    → (ps : List PointValue) (stop : Reading) → points_at n at.axes at.trail.last a ≡ (Ok ps, stop) → ⊥
run_stops axes n old count at a b c zs fault holds sound reads fewer stops ps stop e =
    run_ends_early axes n at.trail.last a b c zs fault sound reads fewer stops ps stop (subst (λ (m : ℕ). points_at n m at.trail.last a ≡ (Ok ps, stop)) holds.same e)

pub run_leaving : (axes n : ℕ) (old : Extents) (count : ℕ) (at : Stage (Header × Reach)) (a b : Reading) (zs : List ℤ) → HoldsPoints axes old count at → IsSound a → ReadsNumbers a b zs → length zs ≡ axes * n → Leaves axes old zs
    → (ps : List PointValue) (stop : Reading) → points_at n at.axes at.trail.last a ≡ (Ok ps, stop) → ⊥
run_leaving axes n old count at a b zs holds sound reads many (k, few, leaves) ps stop e =
    run_leaves axes n k at.trail.last a b zs sound reads many few (λ s. leaves (subst (λ (l : ℤ). Stays l (column axes k zs)) (holds.lasts k few) s)) ps stop (subst (λ (m : ℕ). points_at n m at.trail.last a ≡ (Ok ps, stop)) holds.same e)
