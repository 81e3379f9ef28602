-- Sums of numbers: carried from point to point, and from the start.
use Rattle.twkb_body.proofs.Prelude.{◌≡◌, ℕ, zero, suc, true, List, [], ◌∷◌, ◌++◌, length, map, take, flat_map, slice_get, ℤ, pos, negsuc, ◌+ℤ◌, FitsSigned, Option, Some, unwrap_or, refl, sym, ap, ap₂, subst, ◌∙◌, arith, ltb-true, lt-ltb, ints, flat_map-append, fits, FitAll, after_all, PointValue, Ring, PolygonValue, points_of, coordinate, SumsFit, total, Accumulates, SameForm, zeros, first_of, behind, add, sums, ring_sums, place, map_from, absolute}
use Rattle.std.proofs.Common.{w64}

-- the points of a part, ring after ring
abbrev pub part_points : PolygonValue → List PointValue
part_points part = flat_map (λ ring. ring) part

-- the numbers of a point, of points, of rings and of polygons have sums that fit 64 bits
abbrev pub FitNumber : PointValue → ℤ → Type 0
FitNumber s z = fits (first_of s +ℤ z) ≡ true

abbrev pub FitPoint : PointValue → PointValue → Type 0
FitPoint = FitAll (λ s z. behind s) FitNumber

abbrev pub FitPoints : PointValue → List PointValue → Type 0
FitPoints = FitAll add FitPoint

abbrev pub FitRings : PointValue → List Ring → Type 0
FitRings = FitAll sums FitPoints

abbrev pub FitPolygons : PointValue → List PolygonValue → Type 0
FitPolygons = FitAll ring_sums FitRings

pub sums-append : (s : PointValue) (a b : List PointValue) → sums s (a ++ b) ≡ sums (sums s a) b
sums-append s [] b = refl
sums-append s (p ∷ a) b = sums-append (add s p) a b

pub FitPoints-append : (s : PointValue) (a b : List PointValue) → FitPoints s a → FitPoints (sums s a) b → FitPoints s (a ++ b)
FitPoints-append s [] b f g = g
FitPoints-append s (p ∷ a) b f g = (f.0, FitPoints-append (add s p) a b f.1 g)

pub append-FitPoints : (s : PointValue) (a b : List PointValue) → FitPoints s (a ++ b) → FitPoints s a × FitPoints (sums s a) b
append-FitPoints s [] b f = (tt, f)
append-FitPoints s (p ∷ a) b f = let more = append-FitPoints (add s p) a b f.1 in ((f.0, more.0), more.1)

pub rings_sums_flat : (s : PointValue) (rings : List Ring) → ring_sums s rings ≡ sums s (flat_map (λ ring. ring) rings)
rings_sums_flat s [] = refl
rings_sums_flat s (r ∷ rings) = rings_sums_flat (sums s r) rings ∙ sym (sums-append s r (flat_map (λ ring. ring) rings))

pub rings_fit : (s : PointValue) (rings : List Ring) → FitRings s rings → FitPoints s (flat_map (λ ring. ring) rings)
rings_fit s [] f = tt
rings_fit s (r ∷ rings) f = FitPoints-append s r (flat_map (λ ring. ring) rings) f.0 (rings_fit (sums s r) rings f.1)

pub fit_rings : (s : PointValue) (rings : List Ring) → FitPoints s (flat_map (λ ring. ring) rings) → FitRings s rings
fit_rings s [] f = tt
fit_rings s (r ∷ rings) f = let t = append-FitPoints s r (flat_map (λ ring. ring) rings) f in (t.0, fit_rings (sums s r) rings t.1)

pub polygons_fit : (s : PointValue) (ps : List PolygonValue) → FitPolygons s ps → FitPoints s (points_of ps)
polygons_fit s [] f = tt
polygons_fit s (p ∷ ps) f = FitPoints-append s (flat_map (λ ring. ring) p) (points_of ps) (rings_fit s p f.0)
    (subst (λ (z : PointValue). FitPoints z (points_of ps)) (rings_sums_flat s p) (polygons_fit (ring_sums s p) ps f.1))

pub fit_polygons : (s : PointValue) (ps : List PolygonValue) → FitPoints s (points_of ps) → FitPolygons s ps
fit_polygons s [] f = tt
fit_polygons s (p ∷ ps) f =
    let t = append-FitPoints s (flat_map (λ ring. ring) p) (points_of ps) f in
    (fit_rings s p t.0, fit_polygons (ring_sums s p) ps (subst (λ (z : PointValue). FitPoints z (points_of ps)) (sym (rings_sums_flat s p)) t.1))

-- the state after all points, rings or polygons is their sums
pub after_points : (s : PointValue) (ps : List PointValue) → after_all add s ps ≡ sums s ps
after_points s [] = refl
after_points s (p ∷ ps) = after_points (add s p) ps

pub after_rings : (s : PointValue) (rings : List Ring) → after_all sums s rings ≡ sums s (flat_map (λ ring. ring) rings)
after_rings s [] = refl
after_rings s (r ∷ rings) = after_rings (sums s r) rings ∙ sym (sums-append s r (flat_map (λ ring. ring) rings))

pub after_polygons : (s : PointValue) (ps : List PolygonValue) → after_all ring_sums s ps ≡ sums s (points_of ps)
after_polygons s [] = refl
after_polygons s (p ∷ ps) = after_polygons (ring_sums s p) ps ∙ ap (λ (z : PointValue). sums z (points_of ps)) (rings_sums_flat s p)
    ∙ sym (sums-append s (flat_map (λ ring. ring) p) (points_of ps))

-- sums from the start
int_assoc : (a b c : ℤ) → (a +ℤ b) +ℤ c ≡ a +ℤ (b +ℤ c)
int_assoc a b c = omega (arith, ints)

int_nil : (a : ℤ) → a +ℤ pos 0 ≡ a
int_nil a = omega (arith, ints)

nil_int : (a : ℤ) → pos 0 +ℤ a ≡ a
nil_int a = omega (arith, ints)

-- the coordinates of `zeros`, to which all sums are added
zeros_at : (axis : ℕ) → coordinate zeros axis ≡ pos 0
zeros_at zero = refl
zeros_at (suc zero) = refl
zeros_at (suc (suc zero)) = refl
zeros_at (suc (suc (suc zero))) = refl
zeros_at (suc (suc (suc (suc axis)))) = refl

from_zeros : (axis : ℕ) (a : ℤ) → coordinate zeros axis +ℤ a ≡ a
from_zeros axis a = ap (λ (z : ℤ). z +ℤ a) (zeros_at axis) ∙ nil_int a

first_is : (s : PointValue) → coordinate s 0 ≡ first_of s
first_is [] = refl
first_is (c ∷ s) = refl

behind_is : (s : PointValue) (axis : ℕ) → coordinate s (suc axis) ≡ coordinate (behind s) axis
behind_is [] axis = refl
behind_is (c ∷ s) axis = refl

add_is : (s p : PointValue) (axis : ℕ) → coordinate (add s p) axis ≡ coordinate s axis +ℤ coordinate p axis
add_is s [] axis = sym (int_nil (coordinate s axis))
add_is [] (n ∷ p) axis = sym (nil_int (coordinate (n ∷ p) axis))
add_is (c ∷ s) (n ∷ p) zero = refl
add_is (c ∷ s) (n ∷ p) (suc axis) = add_is s p axis

pub fits_signed : (z : ℤ) → fits z ≡ true → FitsSigned w64 z
fits_signed (pos n) e = record { sfits = ltb-true n 9223372036854775808 e }
fits_signed (negsuc n) e = record { sfits = ltb-true n 9223372036854775808 e }

signed_fits : (z : ℤ) → FitsSigned w64 z → fits z ≡ true
signed_fits (pos n) f = lt-ltb n 9223372036854775808 f.sfits
signed_fits (negsuc n) f = lt-ltb n 9223372036854775808 f.sfits

some_same : {A : Type 0} (x y : A) → Some x ≡ Some y → x ≡ y
some_same x y e = cc

point_fit : (s p : PointValue) → FitPoint s p → (axis : ℕ) (z : ℤ) → slice_get p axis ≡ Some z → fits (coordinate s axis +ℤ z) ≡ true
point_fit s [] f axis z e = absurd (cc (e))
point_fit s (n ∷ p) f zero z e = ap₂ (λ (a b : ℤ). fits (a +ℤ b)) (first_is s) (sym (some_same n z e)) ∙ f.0
point_fit s (n ∷ p) f (suc axis) z e = ap (λ (a : ℤ). fits (a +ℤ z)) (behind_is s axis) ∙ point_fit (behind s) p f.1 axis z e

fit_point : (s p : PointValue) → ((axis : ℕ) (z : ℤ) → slice_get p axis ≡ Some z → fits (coordinate s axis +ℤ z) ≡ true) → FitPoint s p
fit_point s [] f = tt
fit_point s (n ∷ p) f = (
  ap (λ (a : ℤ). fits (a +ℤ n)) (sym (first_is s)) ∙ f 0 n refl,
  fit_point (behind s) p (λ axis z e. ap (λ (a : ℤ). fits (a +ℤ z)) (sym (behind_is s axis)) ∙ f (suc axis) z e),
)

-- the sums from s on fit 64 bits
SumsFitFrom : PointValue → List PointValue → Type 0
SumsFitFrom s ps = (i axis : ℕ) (point : PointValue) (z : ℤ) → slice_get ps i ≡ Some point → slice_get point axis ≡ Some z
    → fits (coordinate s axis +ℤ total axis (take (suc i) ps)) ≡ true

get_is : (p : PointValue) (axis : ℕ) (z : ℤ) → slice_get p axis ≡ Some z → coordinate p axis ≡ z
get_is p axis z e = ap (λ (o : Option ℤ). unwrap_or o (pos 0)) e

shift : (s p : PointValue) (axis : ℕ) (t : ℤ) → coordinate (add s p) axis +ℤ t ≡ coordinate s axis +ℤ (coordinate p axis +ℤ t)
shift s p axis t = ap (λ (a : ℤ). a +ℤ t) (add_is s p axis) ∙ int_assoc (coordinate s axis) (coordinate p axis) t

one : (s p : PointValue) (axis : ℕ) (z : ℤ) → slice_get p axis ≡ Some z → coordinate s axis +ℤ total axis (p ∷ []) ≡ coordinate s axis +ℤ z
one s p axis z e = ap (λ (a : ℤ). coordinate s axis +ℤ a) (int_nil (coordinate p axis) ∙ get_is p axis z e)

points_fit : (s : PointValue) (ps : List PointValue) → FitPoints s ps → SumsFitFrom s ps
unfolding SumsFitFrom
points_fit s [] f i axis point z e h = absurd (cc (e))
points_fit s (p ∷ ps) f zero axis point z e h =
    let h' : slice_get p axis ≡ Some z = ap (λ (q : PointValue). slice_get q axis) (some_same p point e) ∙ h in
    ap fits (one s p axis z h') ∙ point_fit s p f.0 axis z h'
points_fit s (p ∷ ps) f (suc i) axis point z e h =
    ap fits (sym (shift s p axis (total axis (take (suc i) ps)))) ∙ points_fit (add s p) ps f.1 i axis point z e h

fit_points : (s : PointValue) (ps : List PointValue) → SumsFitFrom s ps → FitPoints s ps
unfolding SumsFitFrom
fit_points s [] f = tt
fit_points s (p ∷ ps) f = (
  fit_point s p (λ axis z h. ap fits (sym (one s p axis z h)) ∙ f 0 axis p z refl h),
  fit_points (add s p) ps (λ i axis point z e h. ap fits (shift s p axis (total axis (take (suc i) ps))) ∙ f (suc i) axis point z e h),
)

pub sums_fit : (ps : List PointValue) → FitPoints zeros ps → SumsFit ps
unfolding SumsFitFrom
sums_fit ps f i axis point z e h =
    fits_signed (total axis (take (suc i) ps)) (ap fits (sym (from_zeros axis (total axis (take (suc i) ps)))) ∙ points_fit zeros ps f i axis point z e h)

pub fit_sums : (ps : List PointValue) → SumsFit ps → FitPoints zeros ps
unfolding SumsFitFrom
fit_sums ps f = fit_points zeros ps (λ i axis point z e h.
    ap fits (from_zeros axis (total axis (take (suc i) ps))) ∙ signed_fits (total axis (take (suc i) ps)) (f i axis point z e h))

-- ---- polygons with the coordinates that their numbers sum up to
pub length-place : (s p : PointValue) → length (place s p) ≡ length p
length-place s [] = refl
length-place s (n ∷ p) = ap suc (length-place (behind s) p)

length-map_from : {A B S : Type 0} (after : S → A → S) (f : S → A → B) (s : S) (xs : List A) → length (map_from after f s xs) ≡ length xs
length-map_from after f s [] = refl
length-map_from after f s (x ∷ xs) = ap suc (length-map_from after f (after s x) xs)

lengths-map_from : {A B S : Type 0} (after : S → List A → S) (f : S → List A → List B) → ((s : S) (x : List A) → length (f s x) ≡ length x) → (s : S) (xs : List (List A))
    → map length (map_from after f s xs) ≡ map length xs
lengths-map_from after f same s [] = refl
lengths-map_from after f same s (x ∷ xs) = ap₂ (λ (n : ℕ) (ns : List ℕ). n ∷ ns) (same s x) (lengths-map_from after f same (after s x) xs)

pub map_from-append : {A B S : Type 0} (after : S → A → S) (f : S → A → B) (s : S) (a b : List A)
    → map_from after f s (a ++ b) ≡ map_from after f s a ++ map_from after f (after_all after s a) b
map_from-append after f s [] b = refl
map_from-append after f s (x ∷ a) b = ap (λ (ys : List _). f s x ∷ ys) (map_from-append after f (after s x) a b)

flat_map_from : {A B S : Type 0} (after : S → A → S) (f : S → A → B) (after' : S → List A → S) → ((s : S) (xs : List A) → after_all after s xs ≡ after' s xs)
    → (s : S) (xss : List (List A)) → flat_map (λ x. x) (map_from after' (map_from after f) s xss) ≡ map_from after f s (flat_map (λ x. x) xss)
flat_map_from after f after' same s [] = refl
flat_map_from {A} {B} {S} after f after' same s (xs ∷ xss) =
    ap (λ (ys : List B). map_from after f s xs ++ ys) (flat_map_from after f after' same (after' s xs) xss
    ∙ ap (λ (z : S). map_from after f z (flat_map (λ x. x) xss)) (sym (same s xs)))
    ∙ sym (map_from-append after f s xs (flat_map (λ x. x) xss))

points_flat : (ps : List PolygonValue) → points_of ps ≡ flat_map (λ ring. ring) (flat_map (λ polygon. polygon) ps)
points_flat [] = refl
points_flat (p ∷ ps) = ap (λ (ys : List PointValue). flat_map (λ ring. ring) p ++ ys) (points_flat ps) ∙ sym (flat_map-append (λ ring. ring) p (flat_map (λ polygon. polygon) ps))

all_rings : (s : PointValue) (rings : List Ring) → after_all sums s rings ≡ ring_sums s rings
all_rings s [] = refl
all_rings s (r ∷ rings) = all_rings (sums s r) rings

rings_absolute : (ps : List PolygonValue) → flat_map (λ polygon. polygon) (absolute ps) ≡ map_from sums (map_from add place) zeros (flat_map (λ polygon. polygon) ps)
rings_absolute ps = flat_map_from sums (map_from add place) ring_sums all_rings zeros ps

pub points_absolute : (ps : List PolygonValue) → points_of (absolute ps) ≡ map_from add place zeros (points_of ps)
points_absolute ps =
    points_flat (absolute ps) ∙ ap (flat_map (λ (ring : Ring). ring)) (rings_absolute ps)
    ∙ flat_map_from add place sums after_points zeros (flat_map (λ polygon. polygon) ps)
    ∙ ap (map_from add place zeros) (sym (points_flat ps))

form_absolute : (ps : List PolygonValue) → SameForm (absolute ps) ps
form_absolute ps = record {
  polygons = lengths-map_from ring_sums (map_from sums (map_from add place)) (λ s x. length-map_from sums (map_from add place) s x) zeros ps;
  rings = ap (map length) (rings_absolute ps) ∙ lengths-map_from sums (map_from add place) (λ s x. length-map_from add place s x) zeros (flat_map (λ polygon. polygon) ps);
  points = ap (map length) (points_absolute ps) ∙ lengths-map_from add place length-place zeros (points_of ps);
}

-- a coordinate of a point is the sum before it plus its number
place_get : (s p : PointValue) (axis : ℕ) (c : ℤ) → slice_get (place s p) axis ≡ Some c → c ≡ coordinate s axis +ℤ coordinate p axis
place_get s [] axis c e = absurd (cc (e))
place_get s (n ∷ p) zero c e = sym (some_same _ c e) ∙ ap (λ (a : ℤ). a +ℤ n) (sym (first_is s))
place_get s (n ∷ p) (suc axis) c e = place_get (behind s) p axis c e ∙ ap (λ (a : ℤ). a +ℤ coordinate p axis) (sym (behind_is s axis))

place_is : (s p n : PointValue) → length p ≡ length n → ((axis : ℕ) (c : ℤ) → slice_get p axis ≡ Some c → c ≡ coordinate s axis +ℤ coordinate n axis) → p ≡ place s n
place_is s [] [] e h = refl
place_is s [] (z ∷ n) e h = absurd (omega (arith, e))
place_is s (c ∷ p) [] e h = absurd (omega (arith, e))
place_is s (c ∷ p) (z ∷ n) e h =
    ap₂ (λ (x : ℤ) (y : PointValue). x ∷ y) (h 0 c refl ∙ ap (λ (a : ℤ). a +ℤ z) (first_is s))
    (place_is (behind s) p n (omega (arith, e)) (λ axis d g. h (suc axis) d g ∙ ap (λ (a : ℤ). a +ℤ coordinate n axis) (behind_is s axis)))

AccumulatesFrom : PointValue → List PointValue → List PointValue → Type 0
AccumulatesFrom s points numbers = (i axis : ℕ) (point : PointValue) (c : ℤ) → slice_get points i ≡ Some point → slice_get point axis ≡ Some c
    → c ≡ coordinate s axis +ℤ total axis (take (suc i) numbers)

one_total : (s n : PointValue) (axis : ℕ) → coordinate s axis +ℤ total axis (n ∷ []) ≡ coordinate s axis +ℤ coordinate n axis
one_total s n axis = ap (λ (a : ℤ). coordinate s axis +ℤ a) (int_nil (coordinate n axis))

accumulates_from : (s : PointValue) (ns : List PointValue) → AccumulatesFrom s (map_from add place s ns) ns
unfolding AccumulatesFrom
accumulates_from s [] i axis point c e h = absurd (cc (e))
accumulates_from s (n ∷ ns) zero axis point c e h =
    place_get s n axis c (ap (λ (q : PointValue). slice_get q axis) (some_same _ point e) ∙ h) ∙ sym (one_total s n axis)
accumulates_from s (n ∷ ns) (suc i) axis point c e h = accumulates_from (add s n) ns i axis point c e h ∙ shift s n axis (total axis (take (suc i) ns))

cons_same : {A : Type 0} (x y : A) (xs ys : List A) → x ∷ xs ≡ y ∷ ys → (x ≡ y) × (xs ≡ ys)
cons_same x y xs ys e = (cc, cc)

placed : (s : PointValue) (ps ns : List PointValue) → map length ps ≡ map length ns → AccumulatesFrom s ps ns → ps ≡ map_from add place s ns
unfolding AccumulatesFrom
placed s [] [] e h = refl
placed s [] (n ∷ ns) e h = absurd (cc (e))
placed s (p ∷ ps) [] e h = absurd (cc (e))
placed s (p ∷ ps) (n ∷ ns) e h =
    let l = cons_same (length p) (length n) (map length ps) (map length ns) e in
    ap₂ (λ (x : PointValue) (y : List PointValue). x ∷ y)
    (place_is s p n l.0 (λ axis c g. h 0 axis p c refl g ∙ one_total s n axis))
    (placed (add s n) ps ns l.1 (λ i axis point c g g'. h (suc i) axis point c g g' ∙ sym (shift s n axis (total axis (take (suc i) ns)))))

append_same : {A : Type 0} (a b x y : List A) → length a ≡ length b → a ++ x ≡ b ++ y → (a ≡ b) × (x ≡ y)
append_same [] [] x y l e = (refl, e)
append_same [] (c ∷ b) x y l e = absurd (omega (arith, l))
append_same (c ∷ a) [] x y l e = absurd (omega (arith, l))
append_same {A} (c ∷ a) (d ∷ b) x y l e =
    let h = cons_same c d (a ++ x) (b ++ y) e in
    let t = append_same a b x y (omega (arith, l)) h.1 in
    (ap₂ (λ (z : A) (zs : List A). z ∷ zs) h.0 t.0, t.1)

flat_same : {A : Type 0} (a b : List (List A)) → map length a ≡ map length b → flat_map (λ x. x) a ≡ flat_map (λ x. x) b → a ≡ b
flat_same [] [] l e = refl
flat_same [] (y ∷ b) l e = absurd (cc (l))
flat_same (x ∷ a) [] l e = absurd (cc (l))
flat_same {A} (x ∷ a) (y ∷ b) l e =
    let h = cons_same (length x) (length y) (map length a) (map length b) l in
    let t = append_same x y (flat_map (λ x. x) a) (flat_map (λ x. x) b) h.0 e in
    ap₂ (λ (z : List A) (zs : List (List A)). z ∷ zs) t.0 (flat_same a b h.1 t.1)

-- the coordinates of points are the sums of numbers
abbrev pub AreSums : List PointValue → List PointValue → Type 0
AreSums points numbers = (i axis : ℕ) (point : PointValue) (c : ℤ) → slice_get points i ≡ Some point
    → slice_get point axis ≡ Some c → c ≡ total axis (take (suc i) numbers)

-- polygons with summed coordinates are the polygons of the definition
pub absolute_is : (ps : List PolygonValue) → SameForm (absolute ps) ps × AreSums (points_of (absolute ps)) (points_of ps)
unfolding AccumulatesFrom
absolute_is ps = (
  form_absolute ps,
  λ i axis point c e h.
      accumulates_from zeros (points_of ps) i axis point c (ap (λ (qs : List PointValue). slice_get qs i) (sym (points_absolute ps)) ∙ e) h
      ∙ from_zeros axis (total axis (take (suc i) (points_of ps))),
)

pub is_absolute : (a ps : List PolygonValue) → SameForm a ps → AreSums (points_of a) (points_of ps) → a ≡ absolute ps
unfolding AccumulatesFrom
is_absolute a ps same acc =
    let form = form_absolute ps in
    let flat : points_of a ≡ points_of (absolute ps) =
    placed zeros (points_of a) (points_of ps) same.points (λ i axis point c e h. acc i axis point c e h ∙ sym (from_zeros axis (total axis (take (suc i) (points_of ps)))))
    ∙ sym (points_absolute ps) in
    let rings : flat_map (λ (p : PolygonValue). p) a ≡ flat_map (λ (p : PolygonValue). p) (absolute ps) =
    flat_same (flat_map (λ p. p) a) (flat_map (λ p. p) (absolute ps)) (same.rings ∙ sym form.rings)
    (sym (points_flat a) ∙ flat ∙ points_flat (absolute ps)) in
    flat_same a (absolute ps) (same.polygons ∙ sym form.polygons) rings

-- ---- sums that fit 64 bits

-- of two points of one length, the second has a number on each axis on which the first has one
same_axis : (p q : PointValue) (axis : ℕ) (c : ℤ) → length p ≡ length q → slice_get p axis ≡ Some c
    → (d : ℤ) × (slice_get q axis ≡ Some d)
same_axis [] q axis c l e = absurd (cc (e))
same_axis (a ∷ p) [] axis c l e = absurd (omega (arith, l))
same_axis (a ∷ p) (b ∷ q) zero c l e = (b, refl)
same_axis (a ∷ p) (b ∷ q) (suc axis) c l e = same_axis p q axis c (omega (arith, l)) e

-- of two lists of points of equal lengths, the second has a number wherever the first has one
same_place : (ps qs : List PointValue) (i axis : ℕ) (point : PointValue) (c : ℤ) → map length ps ≡ map length qs
    → slice_get ps i ≡ Some point → slice_get point axis ≡ Some c
    → (other : PointValue) × (d : ℤ) × (slice_get qs i ≡ Some other) × (slice_get other axis ≡ Some d)
same_place [] qs i axis point c l e h = absurd (cc (e))
same_place (p ∷ ps) [] i axis point c l e h = absurd (cc (l))
same_place (p ∷ ps) (q ∷ qs) zero axis point c l e h =
    let lengths = cons_same (length p) (length q) (map length ps) (map length qs) l in
    let there = same_axis p q axis c lengths.0 (ap (λ (x : PointValue). slice_get x axis) (some_same p point e) ∙ h) in
    (q, there.0, refl, there.1)
same_place (p ∷ ps) (q ∷ qs) (suc i) axis point c l e h =
    same_place ps qs i axis point c (cons_same (length p) (length q) (map length ps) (map length qs) l).1 e h

pub sums_accumulate : (points numbers : List PointValue) → map length points ≡ map length numbers → AreSums points numbers
    → SumsFit numbers → Accumulates points numbers
sums_accumulate points numbers same sums fit i axis point c e h =
    let there = same_place points numbers i axis point c same e h in
    let is = sums i axis point c e h in
    (is, subst (λ (z : ℤ). FitsSigned w64 z) (sym is) (fit i axis there.0 there.1 there.2 there.3))

pub accumulated_fit : (points numbers : List PointValue) → map length points ≡ map length numbers
    → Accumulates points numbers → SumsFit numbers
accumulated_fit points numbers same sums i axis point z e h =
    let there = same_place numbers points i axis point z (sym same) e h in
    let is = sums i axis there.0 there.1 there.2 there.3 in
    subst (λ (z : ℤ). FitsSigned w64 z) is.0 is.1
