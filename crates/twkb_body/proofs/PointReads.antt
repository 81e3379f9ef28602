-- What readers of points read, or can read: counts, rings, polygons and parts, from what they read of each part.
use Rattle.twkb_body.proofs.Prelude.{◌≡◌, ℕ, zero, suc, ◌+◌, ◌-◌, ◌<◌, List, [], ◌∷◌, ◌++◌, fold, flat_map, map, replicate, Ok, Err, Option, Some, None, inl, inr, refl, sym, ap, subst, ◌∙◌, arith, flat_map-append, append-nil, map-id, fold-append, IfOk-weaker, IfErr-weaker, ◌⊎◌, Reading, Kind, Point, LineString, Polygon, MultiPoint, MultiLineString, MultiPolygon, GeometryCollection, Malformed, Answer, Reader, ◌>>=◌, viewed, number_at, many_at, Fails, first_fails, then_fails, ok_not_err, Trail, PointValue, Ring, PolygonValue, points_of, add, sums, ring_sums, point_at, prefixed_at, ring_at, polygon_at, part_at, many_parts_at, Stage, IsBefore, IsReady, HasRead, Leads, EndsEarly, ReadsAll, ReadsOrEnds, points_at, lasts_from, IsWalked}
use Rattle.std.specs.Prelude.{IfSome, Bool, false, Result}
use Rattle.twkb_body.proofs.Keeping.{keeps_points, read_keeps}
use Rattle.twkb_body.proofs.Sums.{part_points, rings_sums_flat}
use Rattle.twkb_body.proofs.Tracing.{viewed_back, many_back}
use Rattle.twkb_body.proofs.Walks.{number_ahead, walked_from, IsWalkLoop, lasts_from-append}

-- a fault is kept where f is applied to the value of an answer
viewed_fails : {A B : Type 0} (f : A → B) (a : Answer A) (m : Malformed) (new : Reading) → Fails a m new → Fails (viewed f a) m new
viewed_fails {A} f a m new fails = record { left = fails.left; is = ap (λ (a : Answer A). viewed f a) fails.is; bytes = fails.bytes }

-- the part that a point is: one line, of one point
abbrev pub point_part : PointValue → PolygonValue
point_part p = (p ∷ []) ∷ []

-- the part that a line is: one ring
abbrev pub line_part : List PointValue → PolygonValue
line_part line = line ∷ []

-- ---- the parts of a kind
is_points : (kind : Kind) (axes : ℕ) → (kind ≡ Point) ⊎ (kind ≡ MultiPoint) → part_at kind axes ≡ (λ (s : PointValue) (r : Reading). viewed point_part (point_at axes s r))
is_points kind axes (inl e) = ap (λ (k : Kind). part_at k axes) e
is_points kind axes (inr e) = ap (λ (k : Kind). part_at k axes) e

is_lines : (kind : Kind) (axes : ℕ) → (kind ≡ LineString) ⊎ (kind ≡ MultiLineString) → part_at kind axes ≡ (λ (s : PointValue) (r : Reading). viewed line_part (ring_at axes s r))
is_lines kind axes (inl e) = ap (λ (k : Kind). part_at k axes) e
is_lines kind axes (inr e) = ap (λ (k : Kind). part_at k axes) e

is_polygons : (kind : Kind) (axes : ℕ) → (kind ≡ Polygon) ⊎ (kind ≡ MultiPolygon) → part_at kind axes ≡ polygon_at axes
is_polygons kind axes (inl e) = ap (λ (k : Kind). part_at k axes) e
is_polygons kind axes (inr e) = ap (λ (k : Kind). part_at k axes) e

-- to read values and make another of each is to read the others
module _ {A B : Type 0} (f : A → B) (after : PointValue → A → PointValue) (after_f : PointValue → B → PointValue) (each : PointValue → Reader A) (same : (s : PointValue) (x : A) → after s x ≡ after_f s (f x)) where
  abbrev made : PointValue → Reader B
  made s r = viewed f (each s r)

  each_made : (n : ℕ) (s : PointValue) (r : Reading) → viewed (map f) (many_at n after each s r) ≡ many_at n after_f made s r
  each_made zero s r = refl
  each_made (suc n) s r = go (λ t q. each_made n t q) (each s r)
    where
      first : (x : A) (a : Answer (List A)) → viewed (map f) (viewed (λ xs. x ∷ xs) a) ≡ viewed (λ ys. f x ∷ ys) (viewed (map f) a)
      first x (Ok xs, q) = refl
      first x (Err m, q) = refl

      go : (rest : (t : PointValue) (q : Reading) → viewed (map f) (many_at n after each t q) ≡ many_at n after_f made t q) (a : Answer A)
          → viewed (map f) (a >>= λ x q. viewed (λ xs. x ∷ xs) (many_at n after each (after s x) q)) ≡ (viewed f a >>= λ y q. viewed (λ ys. y ∷ ys) (many_at n after_f made (after_f s y) q))
      go rest (Ok x, q) = first x (many_at n after each (after s x) q) ∙ ap (viewed (λ ys. f x ∷ ys)) (rest (after s x) q ∙ ap (λ (t : PointValue). many_at n after_f made t q) (same s x))
      go rest (Err m, q) = refl

  pub all_made : (n : ℕ) → (λ (s : PointValue) (r : Reading). viewed (map f) (many_at n after each s r)) ≡ many_at n after_f made
  all_made n j s r = each_made n s r j

-- Values are the parts of a kind, if f makes a part of each: to read them is to read these parts, which have their points.
pub record AreParts {A : Type 0} (kind : Kind) (f : A → PolygonValue) (after : PointValue → A → PointValue) (each : ℕ → PointValue → Reader A) (points_in : List A → List PointValue) : Type 0 where
  pub read : (axes n : ℕ) → (λ (s : PointValue) (r : Reading). viewed (map f) (many_at n after (each axes) s r)) ≡ many_parts_at kind n axes
  pub points : (xs : List A) → points_in xs ≡ points_of (map f xs)

pub points_are_parts : (kind : Kind) → (kind ≡ Point) ⊎ (kind ≡ MultiPoint) → AreParts kind point_part add point_at (λ points. points)
points_are_parts kind is = record {
  read = λ axes n. all_made point_part add ring_sums (point_at axes) (λ s p. refl) n ∙ ap (λ (each : PointValue → Reader PolygonValue). many_at n ring_sums each) (sym (is_points kind axes is));
  points = points_alone;
}
  where
    points_alone : (ps : List PointValue) → ps ≡ points_of (map point_part ps)
    points_alone [] = refl
    points_alone (p ∷ ps) = ap (λ (xs : List PointValue). p ∷ xs) (points_alone ps)

pub lines_are_parts : (kind : Kind) → (kind ≡ LineString) ⊎ (kind ≡ MultiLineString) → AreParts kind line_part sums ring_at part_points
lines_are_parts kind is = record {
  read = λ axes n. all_made line_part sums ring_sums (ring_at axes) (λ s line. refl) n ∙ ap (λ (each : PointValue → Reader PolygonValue). many_at n ring_sums each) (sym (is_lines kind axes is));
  points = lines_alone;
}
  where
    lines_alone : (lines : List Ring) → part_points lines ≡ points_of (map line_part lines)
    lines_alone [] = refl
    lines_alone (line ∷ lines) = (λ j. sym (append-nil line) j ++ lines_alone lines j)

pub polygons_are_parts : (kind : Kind) → (kind ≡ Polygon) ⊎ (kind ≡ MultiPolygon) → AreParts kind (λ polygon. polygon) (λ s polygon. sums s (part_points polygon)) polygon_at points_of
polygons_are_parts kind is = record {
  read = λ axes n. all_made (λ polygon. polygon) (λ s polygon. sums s (part_points polygon)) ring_sums (polygon_at axes) (λ s polygon. sym (rings_sums_flat s polygon)) n
      ∙ ap (λ (each : PointValue → Reader PolygonValue). many_at n ring_sums each) ((λ j s r. as_it_is (polygon_at axes s r) j) ∙ sym (is_polygons kind axes is));
  points = λ polygons. ap points_of (sym (map-id polygons));
}
  where
    as_it_is : (a : Answer PolygonValue) → viewed (λ polygon. polygon) a ≡ a
    as_it_is (Ok polygon, r) = refl
    as_it_is (Err m, r) = refl

-- ---- reading values that are parts is reading the parts
module _ {A S : Type 0} {kind : Kind} {f : A → PolygonValue} {after : PointValue → A → PointValue} {each : ℕ → PointValue → Reader A} {points_in : List A → List PointValue} (are : AreParts kind f after each points_in) (count : ℕ) where
  -- parts that can be read are made of values that can be read
  values_in : (at : Stage S) (from stop : Reading) (parts : List PolygonValue) → many_parts_at kind count at.axes at.trail.last from ≡ (Ok parts, stop) → (xs : List A) × (many_at count after (each at.axes) at.trail.last from ≡ (Ok xs, stop)) × (map f xs ≡ parts)
  values_in at from stop parts e = viewed_back (map f) (many_at count after (each at.axes) at.trail.last from) parts stop ((λ j. are.read at.axes count j at.trail.last from) ∙ e)

  -- if parts can be read, so can the values that they are made of
  pub parts_before : {stands : Stage S → Type 0} {trusts : Bool} {from : Reading} {at : Stage S} → IsBefore stands trusts (many_parts_at kind count) from at → IsBefore stands trusts (λ axes. many_at count after (each axes)) from at
  parts_before {from = from} {at = at} before = record {
    there = before.there;
    counted = before.counted;
    readable = λ t. let (parts, stop, e) = before.readable t in let x = values_in at from stop parts e in (x.0, stop, x.1);
  }

  pub parts_ready : {stands : Stage S → Type 0} {trusts : Bool} {from : Reading} → IsReady stands trusts (many_parts_at kind count) from → IsReady stands trusts (λ axes. many_at count after (each axes)) from
  parts_ready ready = (ready.0, parts_before ready.1)

  -- if the values were read, so were the parts
  parts_read : {step : S → PointValue → S} {stands : Stage S → Type 0} {at : Stage S} {from to : Reading}
      → HasRead (many_at count after (each at.axes)) points_in step stands at from to → HasRead (many_parts_at kind count at.axes) points_of step stands at from to
  parts_read {step} {stands} {at} {from} {to} h = record {
    value = map f h.value;
    read = sym (λ j. are.read at.axes count j at.trail.last from) ∙ ap (viewed (map f)) h.read;
    trail = h.trail;
    state = h.state;
    there = h.there;
    walked = subst (IsWalked step at.axes at.trail h.trail at.state h.state from.place to.place) (are.points h.value) h.walked;
  }

  -- if reading the values ended early, so did reading the parts
  parts_end : (step : S → PointValue → S) (ends : S → Type 0) (told : Option Malformed) (at : Stage S) (from to : Reading)
      → EndsEarly (many_at count after (each at.axes)) points_in step ends told at from to → EndsEarly (many_parts_at kind count at.axes) points_of step ends told at from to
  parts_end step ends (Some m) at from to fails =
      subst (λ (parts : PointValue → Reader (List PolygonValue)). Fails (parts at.trail.last from) m to) (are.read at.axes count) (viewed_fails (map f) (many_at count after (each at.axes) at.trail.last from) m to fails)
  parts_end step ends None at from to leads = λ parts stop e.
      let x = values_in at from stop parts e in
      subst (λ (parts : List PolygonValue). ends (fold step at.state (lasts_from at.trail.last (points_of parts)))) x.2
      (subst (λ (ps : List PointValue). ends (fold step at.state (lasts_from at.trail.last ps))) (are.points x.0) (leads x.0 stop x.1))

  -- what a reader of the values did is what a reader of the parts does
  pub parts_read_or_end : {T F : Type 0} {step : S → PointValue → S} {trusts : Bool} {ends : S → Type 0} {tells : F → Option Malformed} {old new : Stage S → Type 0} {result : Result T F} {from to : Reading}
      → ReadsOrEnds (λ axes. many_at count after (each axes)) points_in step trusts ends tells old new result from to → ReadsOrEnds (many_parts_at kind count) points_of step trusts ends tells old new result from to
  parts_read_or_end {step} {trusts} {ends} {tells} {old} {new} {result} {from} {to} done = record {
    read = IfOk-weaker result _ _ (λ _ read at before. parts_read (read at (parts_before before))) done.read;
    ended = IfErr-weaker result _ _ (λ fault ended at before. parts_end step ends (tells fault) at from to (ended at (parts_before before))) done.ended;
    bytes = done.bytes;
  }

-- a reader has read some points: the bytes stay as they are
pub points_read : {S T F : Type 0} {step : S → PointValue → S} {trusts : Bool} {ends : S → Type 0} {tells : F → Option Malformed} {old new : Stage S → Type 0} {result : T} {from to : Reading} (count : ℕ)
    → IsReady old trusts (points_at count) from → ReadsAll (points_at count) (λ points. points) step trusts old new from to → ReadsOrEnds (points_at count) (λ points. points) step trusts ends tells old new (Ok result) from to
points_read {from = from} {to = to} count (at, before) read =
    let one = read at before in
    record { read = read; ended = tt; bytes = read_keeps (points_at count at.axes at.trail.last) from to one.value (keeps_points at.axes count at.trail.last) one.read }

-- before its first point, a reader that doesn't trust the bytes is before any value
pub none_yet : {A S : Type 0} {stands : Stage S → Type 0} {each : ℕ → PointValue → Reader A} {r : Reading} {at : Stage S} → stands at → at.trail.points ≡ 0 → IsBefore stands false each r at
none_yet there none = record { there = there; counted = omega (arith, none); readable = λ t. absurd (cc (t)) }

-- a collection has no parts of its own: to read some of them reads nothing
pub nothing_read : (axes n : ℕ) (s : PointValue) (r : Reading) → many_parts_at GeometryCollection n axes s r ≡ (Ok (replicate n []), r)
nothing_read axes zero s r = refl
nothing_read axes (suc n) s r = ap (viewed (λ xs. [] ∷ xs)) (nothing_read axes n s r)

pub nothing_has : (n : ℕ) → points_of (replicate n []) ≡ []
nothing_has zero = refl
nothing_has (suc n) = nothing_has n

module _ {S : Type 0} (step : S → PointValue → S) (at : Stage S) where
  -- ---- what is read, at whatever stage the reader is after it
  module _ (stands : Stage S → Type 0) where
    pub counted_read : {A : Type 0} (after : PointValue → A → PointValue) (each : PointValue → Reader A) (points_in : List A → List PointValue) (old from to : Reading) (count : ℕ) → number_at old ≡ (Ok count, from)
        → HasRead (many_at count after each) points_in step stands at from to → HasRead (prefixed_at after each) points_in step stands at old to
    counted_read after each points_in old from to count counted h = record {
      value = h.value;
      read = ap (λ (a : Answer ℕ). a >>= λ n. many_at n after each at.trail.last) counted ∙ h.read;
      trail = h.trail;
      state = h.state;
      there = h.there;
      walked = walked_from step at.axes at.trail h.trail at.state h.state from.place to.place old.place (points_in h.value) (number_ahead count old from counted) h.walked;
    }

  -- ---- early ends
  module _ (ends : S → Type 0) where
    pub counted_ends : {A : Type 0} (told : Option Malformed) (after : PointValue → A → PointValue) (each : PointValue → Reader A) (points_in : List A → List PointValue) (old from to : Reading) (count : ℕ) → number_at old ≡ (Ok count, from)
        → EndsEarly (many_at count after each) points_in step ends told at from to → EndsEarly (prefixed_at after each) points_in step ends told at old to
    counted_ends (Some m) after each points_in old from to count counted fails = then_fails (number_at old) (λ n. many_at n after each at.trail.last) count from m to counted fails
    counted_ends None after each points_in old from to count counted leads = λ xs stop e. leads xs stop (sym (ap (λ (a : Answer ℕ). a >>= λ n. many_at n after each at.trail.last) counted) ∙ e)

    pub uncounted_ends : {A : Type 0} (told : Option Malformed) (after : PointValue → A → PointValue) (each : PointValue → Reader A) (points_in : List A → List PointValue) (old from : Reading) (m : Malformed) → number_at old ≡ (Err m, from) → IfSome told (λ t. t ≡ m)
        → EndsEarly (prefixed_at after each) points_in step ends told at old from
    uncounted_ends told after each points_in old from m failed same = go told same
      where
        fails : Fails (prefixed_at after each at.trail.last old) m from
        fails = first_fails (number_at old) (λ n. many_at n after each at.trail.last) m from (record { left = from; is = failed; bytes = refl })

        go : (told : Option Malformed) → IfSome told (λ t. t ≡ m) → EndsEarly (prefixed_at after each) points_in step ends told at old from
        go (Some t) same = subst (λ (m : Malformed). Fails (prefixed_at after each at.trail.last old) m from) (sym same) fails
        go None same = λ xs stop e. absurd (ok_not_err xs m stop fails.left (sym e ∙ fails.is))

  -- ---- loops
  module _ {A : Type 0} (after : PointValue → A → PointValue) (each : PointValue → Reader A) (points_in : A → List PointValue)
      (after_is : (s : PointValue) (x : A) → after s x ≡ sums s (points_in x)) (count : ℕ) (from : Reading) where
    abbrev pub Loop : ℕ → Trail → S → Reading → Type 0
    Loop = IsWalkLoop step at.axes after each points_in after_is count at.trail at.state from

    abbrev all_points : List A → List PointValue
    all_points xs = flat_map points_in xs

    -- the values after those of a loop, if all can be read
    module _ (i : ℕ) (now : Trail) (t : S) (r : Reading) (l : Loop i now t r) where
      abbrev all_from : S → PointValue → List A → S
      all_from s last xs = fold step s (lasts_from last (flat_map points_in xs))

      others : (xs : List A) (stop : Reading) → many_at count after each at.trail.last from ≡ (Ok xs, stop)
          → (ys : List A) × (many_at (count - i) after each now.last r ≡ (Ok ys, stop)) × (all_from at.state at.trail.last xs ≡ all_from t now.last ys)
      others xs stop e =
          let o = viewed_back (λ ys. l.front ++ ys) (many_at (count - i) after each now.last r) xs stop (l.read.is ∙ e) in
          let ys = o.0 in
          let front = flat_map points_in l.front in (
            ys,
            o.1,
            ap (all_from at.state at.trail.last) (sym o.2)
                ∙ ap (λ (ps : List PointValue). fold step at.state (lasts_from at.trail.last ps)) (flat_map-append points_in l.front ys)
                ∙ ap (fold step at.state) (lasts_from-append at.trail.last front (flat_map points_in ys))
                ∙ fold-append step at.state (lasts_from at.trail.last front) (lasts_from (sums at.trail.last front) (flat_map points_in ys))
                ∙ (λ j. fold step (sym l.walked.added j) (lasts_from (sym l.walked.last j) (flat_map points_in ys))),
          )

      module _ (ends : S → Type 0) (lasts : (s : S) (p : PointValue) → ends s → ends (step s p)) where
        ends_on : (s : S) (points : List PointValue) → ends s → ends (fold step s points)
        ends_on s [] end = end
        ends_on s (p ∷ points) end = ends_on (step s p) points (lasts s p end)

        -- if the next value leads to an end, all do
        pub next_leads : i < count → Leads each points_in step ends now.last t r → Leads (many_at count after each) all_points step ends at.trail.last at.state from
        next_leads lt leads xs stop e =
            let o = others xs stop e in
            let k : count - i ≡ suc (count - (i + 1)) = omega arith in
            let b = many_back after each (count - (i + 1)) now.last r stop o.0 (ap (λ (n : ℕ). many_at n after each now.last r) (sym k) ∙ o.1) in
            subst ends (sym o.2) (subst (λ (zs : List A). ends (all_from t now.last zs)) b.all (first b.first b.middle b.one b.others))
          where
            first : (x : A) (mid : Reading) → each now.last r ≡ (Ok x, mid) → (zs : List A) → ends (all_from t now.last (x ∷ zs))
            first x mid one zs =
                let all : all_from t now.last (x ∷ zs) ≡ fold step (fold step t (lasts_from now.last (points_in x))) (lasts_from (sums now.last (points_in x)) (flat_map points_in zs)) =
                ap (fold step t) (lasts_from-append now.last (points_in x) (flat_map points_in zs))
                ∙ fold-append step t (lasts_from now.last (points_in x)) (lasts_from (sums now.last (points_in x)) (flat_map points_in zs)) in
                subst ends (sym all) (ends_on (fold step t (lasts_from now.last (points_in x))) (lasts_from (sums now.last (points_in x)) (flat_map points_in zs)) (leads x mid one))
