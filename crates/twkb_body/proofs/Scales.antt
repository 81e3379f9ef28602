-- Ranges commute with the scale, which is positive.
use Rattle.twkb_body.proofs.Prelude.{◌≡◌, ℕ, zero, suc, ◌^◌, ℤ, pos, ◌≤ℤ◌, ◌+ℤ◌, ◌-ℤ◌, ◌*ℤ◌, unsigned_abs, List, [], ◌∷◌, map, fold, filter_map, Option, Some, None, refl, sym, ap, ap₂, ◌∙◌, arith, ints, clamps, by_lt_z, int_min, int_max, cons_option, units_of, Span, Vertex, Header, m_axis, PointValue, coordinate, vertex_of, Reach, reach_of, span_of, both, joined, scaled, scaled_if, raw_of, widened, reach_in_units}
use Rattle.std.proofs.Math.IntN.{suc_ℤ-*ℤ, *ℤ_comm, *ℤ-zero}
use Rattle.std.specs.Prelude.{option_map}
use Rattle.twkb_body.proofs.Reaches.{reach_of-append, both-assoc, both-none}

pub times_suc : (a : ℤ) (k : ℕ) → a *ℤ pos (suc k) ≡ a *ℤ pos k +ℤ a
times_suc a k = *ℤ_comm a (pos (suc k)) ∙ suc_ℤ-*ℤ (pos k) a ∙ ap (λ (z : ℤ). z +ℤ a) (*ℤ_comm (pos k) a)

pub times_le : (k : ℕ) (a b : ℤ) → a ≤ℤ b → (a *ℤ pos k) ≤ℤ (b *ℤ pos k)
times_le zero a b h = rw (*ℤ-zero a, *ℤ-zero b) (omega (arith, ints))
times_le (suc k) a b h = rw (times_suc a k, times_suc b k) (let less = times_le k a b h in omega (arith, ints))

min_left : (a b : ℤ) → a ≤ℤ b → int_min a b ≡ a
min_left a b h = omega (arith, ints, clamps)

min_right : (a b : ℤ) → b ≤ℤ a → int_min a b ≡ b
min_right a b h = omega (arith, ints, clamps)

max_left : (a b : ℤ) → b ≤ℤ a → int_max a b ≡ a
max_left a b h = omega (arith, ints, clamps)

max_right : (a b : ℤ) → a ≤ℤ b → int_max a b ≡ b
max_right a b h = omega (arith, ints, clamps)

min_times : (k : ℕ) (a b : ℤ) → int_min (a *ℤ pos k) (b *ℤ pos k) ≡ int_min a b *ℤ pos k
min_times k a b =
    by_lt_z {P = int_min (a *ℤ pos k) (b *ℤ pos k) ≡ int_min a b *ℤ pos k} a b
    (λ h. let le : a ≤ℤ b = omega (arith, ints) in min_left (a *ℤ pos k) (b *ℤ pos k) (times_le k a b le) ∙ ap (λ (z : ℤ). z *ℤ pos k) (sym (min_left a b le)))
    (λ h. min_right (a *ℤ pos k) (b *ℤ pos k) (times_le k b a h) ∙ ap (λ (z : ℤ). z *ℤ pos k) (sym (min_right a b h)))

max_times : (k : ℕ) (a b : ℤ) → int_max (a *ℤ pos k) (b *ℤ pos k) ≡ int_max a b *ℤ pos k
max_times k a b =
    by_lt_z {P = int_max (a *ℤ pos k) (b *ℤ pos k) ≡ int_max a b *ℤ pos k} a b
    (λ h. let le : a ≤ℤ b = omega (arith, ints) in max_right (a *ℤ pos k) (b *ℤ pos k) (times_le k a b le) ∙ ap (λ (z : ℤ). z *ℤ pos k) (sym (max_right a b le)))
    (λ h. max_left (a *ℤ pos k) (b *ℤ pos k) (times_le k b a h) ∙ ap (λ (z : ℤ). z *ℤ pos k) (sym (max_left a b h)))

fold_min_times : (k : ℕ) (c : ℤ) (cs : List ℤ) → fold int_min (c *ℤ pos k) (map (λ a. a *ℤ pos k) cs) ≡ fold int_min c cs *ℤ pos k
fold_min_times k c [] = refl
fold_min_times k c (b ∷ cs) = ap (λ (z : ℤ). fold int_min z (map (λ a. a *ℤ pos k) cs)) (min_times k c b) ∙ fold_min_times k (int_min c b) cs

fold_max_times : (k : ℕ) (c : ℤ) (cs : List ℤ) → fold int_max (c *ℤ pos k) (map (λ a. a *ℤ pos k) cs) ≡ fold int_max c cs *ℤ pos k
fold_max_times k c [] = refl
fold_max_times k c (b ∷ cs) = ap (λ (z : ℤ). fold int_max z (map (λ a. a *ℤ pos k) cs)) (max_times k c b) ∙ fold_max_times k (int_max c b) cs

span_times : (p : ℤ) (cs : List ℤ) → span_of (map (λ c. units_of c p) cs) ≡ scaled p (span_of cs)
span_times p [] = refl
span_times p (c ∷ cs) =
    let least = fold_min_times (10 ^ unsigned_abs (pos 7 -ℤ p)) c cs in
    let greatest = fold_max_times (10 ^ unsigned_abs (pos 7 -ℤ p)) c cs in
    cc

-- joining two ranges and scaling the whole is scaling both and joining them
pub scaled_joined : (p : ℤ) (a b : Option Span) → scaled p (joined a b) ≡ joined (scaled p a) (scaled p b)
scaled_joined p None b = refl
scaled_joined p (Some a) None = refl
scaled_joined p (Some a) (Some b) =
    let least = min_times (10 ^ unsigned_abs (pos 7 -ℤ p)) a.lo b.lo in
    let greatest = max_times (10 ^ unsigned_abs (pos 7 -ℤ p)) a.hi b.hi in
    cc

-- `scaled_joined` for an axis that may have no precision
pub scaled_if_joined : (p : Option ℕ) (a b : Option Span) → scaled_if p (joined a b) ≡ joined (scaled_if p a) (scaled_if p b)
scaled_if_joined None a b = refl
scaled_if_joined (Some p) a b = scaled_joined (pos p) a b

-- ---- the points under one header
module _ (h : Header) where
  every : (get : Vertex → ℤ) (p : ℤ) → ((point : PointValue) → get (vertex_of h point) ≡ units_of (get (raw_of h point)) p) → (points : List PointValue)
      → map get (map (vertex_of h) points) ≡ map (λ c. units_of c p) (map get (map (raw_of h) points))
  every get p is [] = refl
  every get p is (point ∷ points) = ap₂ (λ (z : ℤ) (zs : List ℤ). z ∷ zs) (is point) (every get p is points)

  some : (get : Vertex → Option ℤ) (precision : Option ℕ) (axis : ℕ) → ((point : PointValue) → get (vertex_of h point) ≡ option_map (λ p. units_of (coordinate point axis) (pos p)) precision)
      → ((point : PointValue) → get (raw_of h point) ≡ option_map (λ p. coordinate point axis) precision) → (points : List PointValue)
      → span_of (filter_map get (map (vertex_of h) points)) ≡ scaled_if precision (span_of (filter_map get (map (raw_of h) points)))
  some get None axis is raw points = ap span_of (no points)
    where
      no : (ps : List PointValue) → filter_map get (map (vertex_of h) ps) ≡ []
      no [] = refl
      no (point ∷ ps) = ap (λ (z : Option ℤ). cons_option z (filter_map get (map (vertex_of h) ps))) (is point) ∙ no ps
  some get (Some p) axis is raw points = ap span_of (all points) ∙ span_times (pos p) (filter_map get (map (raw_of h) points))
    where
      all : (ps : List PointValue) → filter_map get (map (vertex_of h) ps) ≡ map (λ c. units_of c (pos p)) (filter_map get (map (raw_of h) ps))
      all [] = refl
      all (point ∷ ps) =
          ap (λ (z : Option ℤ). cons_option z (filter_map get (map (vertex_of h) ps))) (is point)
          ∙ ap (λ (zs : List ℤ). units_of (coordinate point axis) (pos p) ∷ zs) (all ps)
          ∙ ap (λ (o : Option ℤ). map (λ c. units_of c (pos p)) (cons_option o (filter_map get (map (raw_of h) ps)))) (sym (raw point))

  -- the reach of the points in raw numbers, scaled once, is the reach of the vertices
  pub scaled_once : (points : List PointValue) → reach_in_units h.xy h.z h.m (reach_of (map (raw_of h) points)) ≡ reach_of (map (vertex_of h) points)
  scaled_once points =
      let x : span_of (map (λ (v : Vertex). v.x) (map (vertex_of h) points)) ≡ scaled h.xy (span_of (map (λ (v : Vertex). v.x) (map (raw_of h) points))) =
      ap span_of (every (λ v. v.x) h.xy (λ point. refl) points) ∙ span_times h.xy (map (λ (v : Vertex). v.x) (map (raw_of h) points)) in
      let y : span_of (map (λ (v : Vertex). v.y) (map (vertex_of h) points)) ≡ scaled h.xy (span_of (map (λ (v : Vertex). v.y) (map (raw_of h) points))) =
      ap span_of (every (λ v. v.y) h.xy (λ point. refl) points) ∙ span_times h.xy (map (λ (v : Vertex). v.y) (map (raw_of h) points)) in
      let z : span_of (filter_map (λ (v : Vertex). v.z) (map (vertex_of h) points)) ≡ scaled_if h.z (span_of (filter_map (λ (v : Vertex). v.z) (map (raw_of h) points))) =
      some (λ v. v.z) h.z 2 (λ point. refl) (λ point. refl) points in
      let m : span_of (filter_map (λ (v : Vertex). v.m) (map (vertex_of h) points)) ≡ scaled_if h.m (span_of (filter_map (λ (v : Vertex). v.m) (map (raw_of h) points))) =
      some (λ v. v.m) h.m (m_axis h.z) (λ point. refl) (λ point. refl) points in
      (λ j. record { x = sym x j; y = sym y j; z = sym z j; m = sym m j })

  -- adding points one after another is adding all of them at once
  pub widened_all : (reach : Reach) (points : List PointValue) → fold (widened h) reach points ≡ both reach (reach_of (map (raw_of h) points))
  widened_all reach [] = sym (both-none reach)
  widened_all reach (point ∷ points) =
      widened_all (widened h reach point) points ∙ both-assoc reach (reach_of (raw_of h point ∷ [])) (reach_of (map (raw_of h) points))
      ∙ ap (both reach) (sym (reach_of-append (raw_of h point ∷ []) (map (raw_of h) points)))
