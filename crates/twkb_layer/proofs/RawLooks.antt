-- Boxes and points judged by raw integers.
use Rattle.twkb_layer.proofs.Prelude.{◌≡◌, ℕ, ℤ, pos, ◌||◌, ◌&&◌, Bool, not, true, false, [], ◌∷◌, Option, Some, None, option_map, refl, ap, sym, subst, ◌∙◌, arith, ints, units_of, span_at, m_axis, Axes, PointValue, coordinate, vertex_at, ends_of, IsNear, HasNearRanges, RawBox, Bounds, Span, RawWindow, AreInner, IsInner, IsRawWindow, raw_box_misses, in_span, in_bound, is_inside, box_misses, lie_apart}
use Rattle.twkb_head.specs.declared.raw.RawRange.{RawRange}
use Rattle.twkb_layer.proofs.RawWindows.{misses_raw}

-- the ends of a near range are neither the least nor the greatest number of 64 bits
pub inner : (range : RawRange) → IsNear range → AreInner (ends_of range)
inner range near = record {
  first = record { low = omega (arith, ints, near.low); high = omega (arith, ints, near.high) };
  second = record { low = omega (arith, ints, near.low, near.least); high = omega (arith, ints, near.high, near.greatest) };
}

-- a box of near ranges lies apart in X or in Y exactly if its raw ends do
pub box_judged : (xy : ℤ) (w : Bounds) (raw : RawWindow) (box : RawBox) (p : ℤ) (misses : Bool) → IsRawWindow p w raw → HasNearRanges box → p ≡ xy
    → misses ≡ raw_box_misses raw (ends_of box.x) (ends_of box.y)
    → misses ≡ (lie_apart (span_at xy (ends_of box.x)) w.x || lie_apart (span_at xy (ends_of box.y)) w.y)
box_judged xy w raw box p misses is near p_is missed =
    missed ∙ misses_raw xy w raw (subst (λ (q : ℤ). IsRawWindow q w raw) p_is is) (ends_of box.x) (ends_of box.y) (inner box.x near.x) (inner box.y near.y)

-- a box in X and Y alone misses the window in units exactly if its raw ends do
pub short_judged : (w : Bounds) (raw : RawWindow) (p : ℤ) (x y : ℤ × ℤ) → IsRawWindow p w raw → AreInner x → AreInner y
    → raw_box_misses raw x y ≡ box_misses w (record { x = span_at p x; y = span_at p y; z = None; m = None })
short_judged w raw p x y is x_inner y_inner =
    misses_raw p w raw is x y x_inner y_inner ∙ ap (λ (b : Bool). lie_apart (span_at p x) w.x || b) (or_nothing (lie_apart (span_at p y) w.y))
  where
    or_nothing : (b : Bool) → b ≡ (b || false)
    or_nothing true = refl
    or_nothing false = refl

pub or_true : (a b c d : Bool) → a ≡ (b || c) → a ≡ true → (b || (c || d)) ≡ true
or_true a true c d same h = refl
or_true a false true d same h = refl
or_true a false false d same h = absurd (cc (same, h))

pub or_false : (a b c d : Bool) → a ≡ (b || c) → a ≡ false → (b || (c || d)) ≡ d
or_false a true c d same h = absurd (cc (same, h))
or_false a false true d same h = absurd (cc (same, h))
or_false a false false d same h = refl

-- a value is in a range exactly if the range of the value alone doesn't lie apart
in_or_apart : (range : Span) (v : ℤ) → in_span range v ≡ not (lie_apart (record { lo = v; hi = v }) range)
in_or_apart range v = grind (arith, ints)

join : (a b c : Bool) → (not (a || b) && c) ≡ (not a && (not b && c))
join true b c = refl
join false b c = refl

-- a point is inside in X and in Y exactly if the box of the point alone doesn't miss the window
point_judged : (p : ℤ) (w : Bounds) (raw : RawWindow) (x y x_bits y_bits : ℤ) (misses rest : Bool) → x_bits ≡ x → y_bits ≡ y → IsRawWindow p w raw → IsInner x → IsInner y
    → misses ≡ raw_box_misses raw (x_bits, x_bits) (y_bits, y_bits)
    → (not misses && rest) ≡ (in_span w.x (units_of x p) && (in_span w.y (units_of y p) && rest))
point_judged p w raw x y x_bits y_bits misses rest x_is y_is is x_inner y_inner missed =
    let bits = missed ∙ (λ j. raw_box_misses raw (x_is j, x_is j) (y_is j, y_is j)) in
    let same = bits ∙ misses_raw p w raw is (x, x) (y, y) (record { first = x_inner; second = x_inner }) (record { first = y_inner; second = y_inner }) in
    (λ j. not (same j) && rest) ∙ join (lie_apart (span_at p (x, x)) w.x) (lie_apart (span_at p (y, y)) w.y) rest
    ∙ (λ j. sym (in_or_apart w.x (units_of x p)) j && (sym (in_or_apart w.y (units_of y p)) j && rest))

-- a window that bounds neither Z nor M holds any values in Z and M
pub flat_holds : (z m : Option Span) (v u : Option ℤ) → (in_bound z None && in_bound m None) ≡ true → (in_bound z v && in_bound m u) ≡ true
flat_holds None None v u e = refl
flat_holds None (Some s) v u e = absurd (cc (e))
flat_holds (Some s) m v u e = absurd (cc (e))

-- a point's vertex depends only on its first four coordinates
four_coordinates : (axes : Axes) (point : PointValue) (x y third fourth : ℤ) → coordinate point 0 ≡ x → coordinate point 1 ≡ y → coordinate point 2 ≡ third → coordinate point 3 ≡ fourth
    → vertex_at axes point ≡ vertex_at axes (x ∷ y ∷ third ∷ fourth ∷ [])
four_coordinates axes point x y third fourth a b c d = λ j. record {
  x = units_of (a j) axes.xy;
  y = units_of (b j) axes.xy;
  z = option_map (λ p. units_of (c j) (pos p)) axes.z;
  m = option_map (λ p. units_of (last axes.z j) (pos p)) axes.m;
}
  where
    last : (z : Option ℕ) → coordinate point (m_axis z) ≡ coordinate (x ∷ y ∷ third ∷ fourth ∷ []) (m_axis z)
    last None = c
    last (Some p) = d

-- a vertex is inside exactly if its raw numbers in X and Y, none an end of 64 bits, don't miss the window, and Z and M are
-- inside
pub point_inside : (axes : Axes) (w : Bounds) (raw : RawWindow) (point : PointValue) (p x_bits y_bits : ℤ) (misses : Bool) → IsRawWindow p w raw → IsInner x_bits → IsInner y_bits
    → misses ≡ raw_box_misses raw (x_bits, x_bits) (y_bits, y_bits)
    → p ≡ axes.xy → x_bits ≡ coordinate point 0 → y_bits ≡ coordinate point 1
    → (not misses && (in_bound w.z (vertex_at axes point).z && in_bound w.m (vertex_at axes point).m)) ≡ is_inside w (vertex_at axes point)
point_inside axes w raw point p x_bits y_bits misses is x_inner y_inner missed p_is x_is y_is =
    point_judged axes.xy w raw (coordinate point 0) (coordinate point 1) x_bits y_bits misses _ x_is y_is (subst (λ (q : ℤ). IsRawWindow q w raw) p_is is)
    (subst IsInner x_is x_inner) (subst IsInner y_is y_inner) missed

-- an answer about the four coordinates of a point is an answer about the point
pub inside_by_four : (axes : Axes) (w : Bounds) (point : PointValue) (x y third fourth : ℤ) (answer : Bool) → answer ≡ is_inside w (vertex_at axes (x ∷ y ∷ third ∷ fourth ∷ []))
    → coordinate point 0 ≡ x → coordinate point 1 ≡ y → coordinate point 2 ≡ third → coordinate point 3 ≡ fourth → answer ≡ is_inside w (vertex_at axes point)
inside_by_four axes w point x y third fourth answer is a b c d = is ∙ ap (is_inside w) (sym (four_coordinates axes point x y third fourth a b c d))
