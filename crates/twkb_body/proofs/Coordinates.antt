-- Points as sums, coordinate by coordinate: the loop over axes.
use Rattle.twkb_body.proofs.Prelude.{◌≡◌, ℕ, zero, suc, ◌+◌, ◌<◌, ◌≤◌, Bool, true, false, cond, List, [], ◌∷◌, ◌++◌, length, drop, set, map, slice_index_or, ℤ, pos, ◌+ℤ◌, Option, Some, None, is_some, option_map, Result, Ok, Err, refl, sym, ap, ap₂, subst, ◌∙◌, arith, length-append, ints, Reading, rest, units_of, zigzag_value, sum_of_groups, Vertex, Malformed, Why, Range, coordinate_field, IsField, Header, axes_of, m_axis, cut_field, fits, judge, done, Answer, read_judged, read_field, read, signed_at, coordinate_at, Fails, field_takes, ok_not_err, one_answer, coordinate_no_signed, coordinate_ok, coordinate_refused, IsLoop, loop_goes_on, loop_fails, loop_ends, Trail, PointValue, coordinate, vertex_of, first_of, behind, add, place, map_from, point_at, raw_of, HaveAxes, lasts_from, IsWalked}
use Rattle.twkb_head.specs.Shared.Plan.{coordinate as coordinate_request}

-- Z and M are among the axes if they have a precision
z_among : (z m : Option ℕ) → is_some z ≡ true → 2 < 2 + cond (is_some z) 1 0 + cond (is_some m) 1 0
z_among None m e = absurd (cc (e))
z_among (Some p) m e = omega arith

m_among : (z m : Option ℕ) → is_some m ≡ true → m_axis z < 2 + cond (is_some z) 1 0 + cond (is_some m) 1 0
m_among z None e = absurd (cc (e))
m_among z (Some p) e = omega arith

-- the coordinates of points of differences, by the sums from s on
abbrev pub placed_from : PointValue → List PointValue → List PointValue
placed_from s numbers = map_from add place s numbers

-- a coordinate that is read takes at least a byte
pub coordinate_ahead : (before z : ℤ) (r new : Reading) → coordinate_at before r ≡ (Ok z, new) → r.place < new.place
unfolding coordinate_at
coordinate_ahead before z r new e = go (cut_field coordinate_field (rest r)) refl e
  where
    whole : (x : List ℕ × List ℕ) → IsField coordinate_field x.0 → (j : Option Why)
        → read_judged {A = ℤ} j (length x.0) (read (done (zigzag_value (sum_of_groups 0 x.0)))) r ≡ (Ok z, new) → r.place < new.place
    whole x (n, spells) None e = let at : r.place + length x.0 ≡ new.place = ap (λ (a : Answer ℤ). a.1.place) e in omega (arith, at, spells.some)
    whole x field (Some w) e = absurd (ok_not_err z _ new _ (sym e))

    go : (c : Result (List ℕ × List ℕ) Why) → cut_field coordinate_field (rest r) ≡ c
        → read_field {A = ℤ} (coordinate_request before) c (λ (field : List ℕ). read (done (zigzag_value (sum_of_groups 0 field)))) r ≡ (Ok z, new) → r.place < new.place
    go (Ok x) cut e = whole x (field_takes coordinate_field (rest r) x cut).1 (judge (coordinate_request before) x.0) e
    go (Err w) cut e = absurd (ok_not_err z _ new _ (sym e))

-- a coordinate that is read is a signed number that is read
pub signed_back : (before : ℤ) (r stop : Reading) (z : ℤ) → coordinate_at before r ≡ (Ok z, stop) → signed_at r ≡ (Ok z, stop)
signed_back before r stop z e = go (signed_at r) refl
  where
    fitting : (n : ℤ) (q : Reading) → signed_at r ≡ (Ok n, q) → (f : Bool) → fits (before +ℤ n) ≡ f → signed_at r ≡ (Ok z, stop)
    fitting n q is true fit =
        let same = one_answer (coordinate_at before r) n z q stop (coordinate_ok before r q n fit is) e in
        is ∙ ap₂ (λ (m : ℤ) (s : Reading). (Ok m, s)) same.0 same.1
    fitting n q is false fit = absurd (ok_not_err z _ stop _ (sym e ∙ coordinate_refused before r q n (record { offset = r.place; why = Range }) (record q { place = r.place }) fit refl refl refl is))

    go : (a : Answer ℤ) → signed_at r ≡ a → signed_at r ≡ (Ok z, stop)
    go (Err m, q) is = absurd (ok_not_err z m stop q (sym e ∙ coordinate_no_signed before r q m is))
    go (Ok n, q) is = fitting n q is (fits (before +ℤ n)) refl

-- the first of the coordinates from i on is the coordinate at i
pub first_of-drop : (s : PointValue) (i : ℕ) → first_of (drop i s) ≡ slice_index_or s i (pos 0)
first_of-drop [] zero = refl
first_of-drop [] (suc i) = refl
first_of-drop (c ∷ s) zero = refl
first_of-drop (c ∷ s) (suc i) = first_of-drop s i

pub behind-drop : (s : PointValue) (i : ℕ) → behind (drop i s) ≡ drop (suc i) s
behind-drop [] zero = refl
behind-drop [] (suc i) = refl
behind-drop (c ∷ s) zero = refl
behind-drop (c ∷ s) (suc i) = behind-drop s i

-- a coordinate to which nothing was added yet is as before
pub add-at : (s front : PointValue) → length front < length s → slice_index_or (add s front) (length front) (pos 0) ≡ slice_index_or s (length front) (pos 0)
add-at s [] h = refl
add-at [] (n ∷ front) h = absurd (omega (arith, h))
add-at (c ∷ s) (n ∷ front) h = add-at s front (omega (arith, h))

-- after one more number, the coordinate at its axis is greater by the number
pub add-more : (s front : PointValue) (z : ℤ) → length front < length s
    → add s (front ++ z ∷ []) ≡ set (add s front) (length front) (slice_index_or s (length front) (pos 0) +ℤ z)
add-more [] front z h = absurd (omega (arith, h))
add-more (c ∷ []) [] z h = refl
add-more (c ∷ d ∷ s) [] z h = refl
add-more (c ∷ s) (n ∷ front) z h = ap (λ (t : PointValue). (c +ℤ n) ∷ t) (add-more s front z (omega (arith, h)))

-- A loop over the axes: i numbers were read and added.
module _ (axes : ℕ) (start : Trail) (from : Reading) where
  pub record IsPointLoop (i : ℕ) (now : Trail) (r : Reading) : Type 0 where
    pub front : PointValue
    pub read : IsLoop (λ s z. behind s) (λ s. coordinate_at (first_of s)) axes (point_at axes start.last from) front i (drop i start.last) r
    pub number : length front ≡ i
    pub sum : now.last ≡ add start.last front
    pub points : now.points ≡ start.points
    pub ahead : i + from.place ≤ r.place

  -- the coordinate to which the next number is added is the one of the trail
  next_is : (i : ℕ) (now : Trail) (r : Reading) → i < length start.last → (l : IsPointLoop i now r) → first_of (drop i start.last) ≡ slice_index_or now.last i (pos 0)
  next_is i now r lt l =
      let at : slice_index_or (add start.last l.front) i (pos 0) ≡ slice_index_or start.last i (pos 0) =
      ap (λ (k : ℕ). slice_index_or (add start.last l.front) k (pos 0)) (sym l.number) ∙ add-at start.last l.front (omega (arith, l.number, lt))
      ∙ ap (λ (k : ℕ). slice_index_or start.last k (pos 0)) l.number in
      first_of-drop start.last i ∙ sym at ∙ ap (λ (s : PointValue). slice_index_or s i (pos 0)) (sym l.sum)

  pub point_goes_on : (i : ℕ) (now after : Trail) (r new : Reading) (z c : ℤ) → i < axes → i < length start.last
      → coordinate_at (slice_index_or now.last i (pos 0)) r ≡ (Ok z, new) → c ≡ slice_index_or now.last i (pos 0) +ℤ z
      → after.last ≡ set now.last i c → after.points ≡ now.points → IsPointLoop i now r → IsPointLoop (i + 1) after new
  point_goes_on i now after r new z c lt within e sum is points l =
      let next = next_is i now r within l in
      let one : suc i ≡ i + 1 = omega arith in
      let here : first_of (drop i start.last) ≡ slice_index_or start.last (length l.front) (pos 0) =
      first_of-drop start.last i ∙ ap (λ (k : ℕ). slice_index_or start.last k (pos 0)) (sym l.number) in
      record {
        front = l.front ++ z ∷ [];
        read = subst (λ (s : PointValue). IsLoop (λ s z. behind s) (λ s. coordinate_at (first_of s)) axes (point_at axes start.last from) (l.front ++ z ∷ []) (i + 1) s new)
            (behind-drop start.last i ∙ ap (λ (k : ℕ). drop k start.last) one)
            (loop_goes_on (λ s z. behind s) (λ s. coordinate_at (first_of s)) axes (point_at axes start.last from) l.front i (drop i start.last) r new z lt
            (ap (λ (c : ℤ). coordinate_at c r) next ∙ e) l.read);
        number = length-append l.front (z ∷ []) ∙ ap (λ (k : ℕ). k + 1) l.number;
        sum = is ∙ ap₂ (λ (s : PointValue) (d : ℤ). set s i d) l.sum (sum ∙ ap (λ (b : ℤ). b +ℤ z) (sym next ∙ here))
            ∙ ap (λ (k : ℕ). set (add start.last l.front) k (slice_index_or start.last (length l.front) (pos 0) +ℤ z)) (sym l.number)
            ∙ sym (add-more start.last l.front z (omega (arith, l.number, within)));
        points = points ∙ l.points;
        ahead = let a = coordinate_ahead (slice_index_or now.last i (pos 0)) z r new e in omega (arith, a, l.ahead);
      }

  pub point_fails : (i : ℕ) (now : Trail) (r new : Reading) (m : Malformed) → i < axes → i < length start.last
      → Fails (coordinate_at (slice_index_or now.last i (pos 0)) r) m new → IsPointLoop i now r → Fails (point_at axes start.last from) m new
  point_fails i now r new m lt within e l =
      loop_fails (λ s z. behind s) (λ s. coordinate_at (first_of s)) axes (point_at axes start.last from) l.front i (drop i start.last) r new m lt
      (subst (λ (c : ℤ). Fails (coordinate_at c r) m new) (sym (next_is i now r within l)) e) l.read

  pub point_ends : {S : Type 0} (step : S → PointValue → S) (state state' : S) (i : ℕ) (now after : Trail) (r : Reading) → 1 ≤ axes → i ≡ axes
      → after ≡ record now { points = now.points + 1 } → state' ≡ step state after.last → IsPointLoop i now r
      → (numbers : PointValue) × (point_at axes start.last from ≡ (Ok numbers, r)) × IsWalked step axes start after state state' from.place r.place (numbers ∷ [])
  point_ends step state state' i now after r some end is stepped l = (
    l.front,
    loop_ends (λ s z. behind s) (λ s. coordinate_at (first_of s)) axes (point_at axes start.last from) l.front i (drop i start.last) r (omega (arith, end)) l.read,
    record {
      last = ap (λ (t : Trail). t.last) is ∙ l.sum;
      points = ap (λ (t : Trail). t.points) is ∙ ap (λ (n : ℕ). n + 1) l.points;
      added = stepped ∙ ap (step state) (ap (λ (t : Trail). t.last) is ∙ l.sum);
      have = (l.number ∙ end, tt);
      ahead = omega (arith, l.ahead, some, end);
    },
  )

-- ---- a point has the axes of its header, in all four as in its own
add-nil : (ns : PointValue) → add [] ns ≡ ns
add-nil [] = refl
add-nil (n ∷ ns) = refl

coordinates_same : (s ns : PointValue) (k : ℕ) → k < length ns → coordinate (add s ns) k ≡ coordinate (place s ns) k
coordinates_same s [] k lt = absurd (omega (arith, lt))
coordinates_same [] (n ∷ ns) zero lt = omega (arith, ints)
coordinates_same [] (n ∷ ns) (suc k) lt = ap (λ (p : PointValue). coordinate p k) (sym (add-nil ns)) ∙ coordinates_same [] ns k (omega (arith, lt))
coordinates_same (c ∷ s) (n ∷ ns) zero lt = refl
coordinates_same (c ∷ s) (n ∷ ns) (suc k) lt = coordinates_same s ns k (omega (arith, lt))

if_there : {A : Type 0} (f : ℕ → ℤ → A) (o : Option ℕ) (a b : ℤ) → (is_some o ≡ true → a ≡ b) → option_map (λ p. f p a) o ≡ option_map (λ p. f p b) o
if_there f None a b e = refl
if_there f (Some p) a b e = ap (λ (c : ℤ). Some (f p c)) (e refl)

module _ (h : Header) where
  module _ (s ns : PointValue) (all : length ns ≡ axes_of h) where
    x_same : coordinate (add s ns) 0 ≡ coordinate (place s ns) 0
    x_same = coordinates_same s ns 0 (omega (arith, all))

    y_same : coordinate (add s ns) 1 ≡ coordinate (place s ns) 1
    y_same = coordinates_same s ns 1 (omega (arith, all))

    z_same : (f : ℕ → ℤ → ℤ) → option_map (λ p. f p (coordinate (add s ns) 2)) h.z ≡ option_map (λ p. f p (coordinate (place s ns) 2)) h.z
    z_same f = if_there f h.z (coordinate (add s ns) 2) (coordinate (place s ns) 2) (λ e. coordinates_same s ns 2 (let t = z_among h.z h.m e in omega (arith, all, t)))

    m_same : (f : ℕ → ℤ → ℤ) → option_map (λ p. f p (coordinate (add s ns) (m_axis h.z))) h.m ≡ option_map (λ p. f p (coordinate (place s ns) (m_axis h.z))) h.m
    m_same f = if_there f h.m (coordinate (add s ns) (m_axis h.z)) (coordinate (place s ns) (m_axis h.z)) (λ e. coordinates_same s ns (m_axis h.z) (let t = m_among h.z h.m e in omega (arith, all, t)))

  each_same : (of : PointValue → Vertex) → ((s ns : PointValue) → length ns ≡ axes_of h → of (add s ns) ≡ of (place s ns)) → (s : PointValue) (numbers : List PointValue) → HaveAxes (axes_of h) numbers
      → map of (lasts_from s numbers) ≡ map of (placed_from s numbers)
  each_same of same s [] have = refl
  each_same of same s (n ∷ ns) have = ap₂ (λ (v : Vertex) (vs : List Vertex). v ∷ vs) (same s n have.0) (each_same of same (add s n) ns have.1)

  pub raws_same : (s : PointValue) (numbers : List PointValue) → HaveAxes (axes_of h) numbers → map (raw_of h) (lasts_from s numbers) ≡ map (raw_of h) (placed_from s numbers)
  raws_same = each_same (raw_of h) (λ s ns all j. record { x = x_same s ns all j; y = y_same s ns all j; z = z_same s ns all (λ p c. c) j; m = m_same s ns all (λ p c. c) j })

  pub vertices_same : (s : PointValue) (numbers : List PointValue) → HaveAxes (axes_of h) numbers → map (vertex_of h) (lasts_from s numbers) ≡ map (vertex_of h) (placed_from s numbers)
  vertices_same = each_same (vertex_of h) (λ s ns all j. record {
    x = units_of (x_same s ns all j) h.xy;
    y = units_of (y_same s ns all j) h.xy;
    z = z_same s ns all (λ p c. units_of c (pos p)) j;
    m = m_same s ns all (λ p c. units_of c (pos p)) j;
  })
