-- Ranges of lists, joined and compared with boxes.
use Rattle.twkb_body.proofs.Prelude.{◌≡◌, ℤ, ◌≤ℤ◌, List, [], ◌∷◌, ◌++◌, map, fold, filter_map, Option, Some, None, refl, sym, ap, ◌∙◌, subst, arith, append-nil, map-append, fold-append, All-nil, All-cons, All-head, All-tail, filter_map-append, ints, clamps, int_min, int_max, Vertex, Bounds, Span, Holds, span_of, joined, Reach, reach_of, both, IsCovered, IsReachWithin, cons_option}
use Rattle.std.proofs.Common.{All}
use Rattle.twkb_head.specs.Devices.Holds.{IsWithinBoth}

int_min-assoc : (a b c : ℤ) → int_min (int_min a b) c ≡ int_min a (int_min b c)
int_min-assoc a b c = omega (arith, ints, clamps)

int_max-assoc : (a b c : ℤ) → int_max (int_max a b) c ≡ int_max a (int_max b c)
int_max-assoc a b c = omega (arith, ints, clamps)

fold_min : (a b : ℤ) (cs : List ℤ) → fold int_min (int_min a b) cs ≡ int_min a (fold int_min b cs)
fold_min a b [] = refl
fold_min a b (c ∷ cs) = rw (int_min-assoc a b c) (fold_min a (int_min b c) cs)

fold_max : (a b : ℤ) (cs : List ℤ) → fold int_max (int_max a b) cs ≡ int_max a (fold int_max b cs)
fold_max a b [] = refl
fold_max a b (c ∷ cs) = rw (int_max-assoc a b c) (fold_max a (int_max b c) cs)

pub span_of-append : (xs ys : List ℤ) → span_of (xs ++ ys) ≡ joined (span_of xs) (span_of ys)
span_of-append [] ys = refl
span_of-append (x ∷ xs) [] = ap span_of (append-nil (x ∷ xs))
span_of-append (x ∷ xs) (y ∷ ys) =
    let least : fold int_min x (xs ++ y ∷ ys) ≡ int_min (fold int_min x xs) (fold int_min y ys) =
    fold-append int_min x xs (y ∷ ys) ∙ fold_min (fold int_min x xs) y ys in
    let greatest : fold int_max x (xs ++ y ∷ ys) ≡ int_max (fold int_max x xs) (fold int_max y ys) =
    fold-append int_max x xs (y ∷ ys) ∙ fold_max (fold int_max x xs) y ys in
    cc

pub joined-assoc : (a b c : Option Span) → joined (joined a b) c ≡ joined a (joined b c)
joined-assoc None b c = refl
joined-assoc (Some a) None c = refl
joined-assoc (Some a) (Some b) None = refl
joined-assoc (Some a) (Some b) (Some c) =
    let least = int_min-assoc a.lo b.lo c.lo in
    let greatest = int_max-assoc a.hi b.hi c.hi in
    cc

pub reach_of-append : (vs ws : List Vertex) → reach_of (vs ++ ws) ≡ both (reach_of vs) (reach_of ws)
reach_of-append vs ws =
    let x : span_of (map (λ v. v.x) (vs ++ ws)) ≡ joined (span_of (map (λ v. v.x) vs)) (span_of (map (λ v. v.x) ws)) =
    ap span_of (map-append (λ (v : Vertex). v.x) vs ws) ∙ span_of-append _ _ in
    let y : span_of (map (λ v. v.y) (vs ++ ws)) ≡ joined (span_of (map (λ v. v.y) vs)) (span_of (map (λ v. v.y) ws)) =
    ap span_of (map-append (λ (v : Vertex). v.y) vs ws) ∙ span_of-append _ _ in
    let z : span_of (filter_map (λ v. v.z) (vs ++ ws)) ≡ joined (span_of (filter_map (λ v. v.z) vs)) (span_of (filter_map (λ v. v.z) ws)) =
    ap span_of (filter_map-append (λ (v : Vertex). v.z) vs ws) ∙ span_of-append _ _ in
    let m : span_of (filter_map (λ v. v.m) (vs ++ ws)) ≡ joined (span_of (filter_map (λ v. v.m) vs)) (span_of (filter_map (λ v. v.m) ws)) =
    ap span_of (filter_map-append (λ (v : Vertex). v.m) vs ws) ∙ span_of-append _ _ in
    rw (x, y, z, m)

pub both-assoc : (a b c : Reach) → both (both a b) c ≡ both a (both b c)
both-assoc a b c = rw (joined-assoc a.x b.x c.x, joined-assoc a.y b.y c.y, joined-assoc a.z b.z c.z, joined-assoc a.m b.m c.m)

pub joined-none : (a : Option Span) → joined a None ≡ a
joined-none None = refl
joined-none (Some a) = refl

pub both-none : (r : Reach) → both r (reach_of []) ≡ r
both-none r = λ j. record { x = joined-none r.x j; y = joined-none r.y j; z = joined-none r.z j; m = joined-none r.m j }

-- the lesser of two numbers doesn't depend on their order
int_min-comm : (a b : ℤ) → int_min a b ≡ int_min b a
int_min-comm a b = omega (arith, ints, clamps)

-- the greater of two numbers doesn't depend on their order
int_max-comm : (a b : ℤ) → int_max a b ≡ int_max b a
int_max-comm a b = omega (arith, ints, clamps)

-- two ranges joined don't depend on their order
swapped : (a b : Option Span) → joined a b ≡ joined b a
swapped None None = refl
swapped None (Some b) = refl
swapped (Some a) None = refl
swapped (Some a) (Some b) = (λ j. Some (record { lo = int_min-comm a.lo b.lo j; hi = int_max-comm a.hi b.hi j }))

-- the reach of both doesn't depend on their order
pub both-comm : (a b : Reach) → both a b ≡ both b a
both-comm a b = (λ j. record { x = swapped a.x b.x j; y = swapped a.y b.y j; z = swapped a.z b.z j; m = swapped a.m b.m j })

-- ---- boxes
least_above : (a b low : ℤ) → (low ≤ℤ int_min a b → (low ≤ℤ a) × (low ≤ℤ b))
least_above a b low h = (omega (arith, ints, clamps), omega (arith, ints, clamps))

greatest_below : (a b high : ℤ) → (int_max a b ≤ℤ high → (a ≤ℤ high) × (b ≤ℤ high))
greatest_below a b high h = (omega (arith, ints, clamps), omega (arith, ints, clamps))

covered_joined : (span : Option Span) (a b : Option Span) → IsCovered span (joined a b) → IsCovered span a × IsCovered span b
covered_joined None a b h = (tt, tt)
covered_joined (Some s) None b h = (tt, h)
covered_joined (Some s) (Some a) None h = (h, tt)
covered_joined (Some s) (Some a) (Some b) h =
    let low = least_above a.lo b.lo s.lo h.0 in
    let high = greatest_below a.hi b.hi s.hi h.1 in
    ((low.0, high.0), (low.1, high.1))

joined_covered : (span : Option Span) (a b : Option Span) → IsCovered span a → IsCovered span b → IsCovered span (joined a b)
joined_covered None a b h k = tt
joined_covered (Some s) None b h k = k
joined_covered (Some s) (Some a) None h k = h
joined_covered (Some s) (Some a) (Some b) h k = (omega (arith, ints, clamps), omega (arith, ints, clamps))

-- the range of a list of coordinates lies in a span that holds each of them
covered_from : (span : Option Span) (cs : List ℤ) → All (λ c. IsWithinBoth span (Some c)) cs → IsCovered span (span_of cs)
covered_from None cs h = tt
covered_from (Some s) [] h = tt
covered_from (Some s) (c ∷ cs) h =
    let P = λ (e : ℤ). IsWithinBoth (Some s) (Some e) in
    let one = All-head P c cs h in
    subst (IsCovered (Some s)) (sym (span_of-append (c ∷ []) cs))
    (joined_covered (Some s) (span_of (c ∷ [])) (span_of cs) one (covered_from (Some s) cs (All-tail P c cs h)))

from_covered : (span : Option Span) (cs : List ℤ) → IsCovered span (span_of cs) → All (λ c. IsWithinBoth span (Some c)) cs
from_covered None cs h = λ k d lt. tt
from_covered (Some s) [] h = All-nil _
from_covered (Some s) (c ∷ cs) h =
    let P = λ (e : ℤ). IsWithinBoth (Some s) (Some e) in
    let parts = covered_joined (Some s) (span_of (c ∷ [])) (span_of cs) (subst (IsCovered (Some s)) (span_of-append (c ∷ []) cs) h) in
    All-cons P c cs parts.0 (from_covered (Some s) cs parts.1)

module _ (span : Option Span) (get : Vertex → ℤ) where
  each_covered : (vs : List Vertex) → All (λ v. IsWithinBoth span (Some (get v))) vs → IsCovered span (span_of (map get vs))
  each_covered [] h = covered_from span [] (All-nil _)
  each_covered (v ∷ vs) h =
      let P = λ (w : Vertex). IsWithinBoth span (Some (get w)) in
      subst (IsCovered span) (sym (span_of-append (get v ∷ []) (map get vs)))
      (joined_covered span (span_of (get v ∷ [])) (span_of (map get vs))
      (covered_from span (get v ∷ []) (All-cons (λ c. IsWithinBoth span (Some c)) (get v) [] (All-head P v vs h) (All-nil _)))
      (each_covered vs (All-tail P v vs h)))

  covered_each : (vs : List Vertex) → IsCovered span (span_of (map get vs)) → All (λ v. IsWithinBoth span (Some (get v))) vs
  covered_each [] h = All-nil _
  covered_each (v ∷ vs) h =
      let P = λ (w : Vertex). IsWithinBoth span (Some (get w)) in
      let parts = covered_joined span (span_of (get v ∷ [])) (span_of (map get vs)) (subst (IsCovered span) (span_of-append (get v ∷ []) (map get vs)) h) in
      All-cons P v vs (All-head (λ c. IsWithinBoth span (Some c)) (get v) [] (from_covered span (get v ∷ []) parts.0)) (covered_each vs parts.1)

module _ (span : Option Span) (get : Vertex → Option ℤ) where
  step_covered : (c : Option ℤ) (cs : List ℤ) → IsWithinBoth span c → IsCovered span (span_of cs) → IsCovered span (span_of (cons_option c cs))
  step_covered None cs h k = k
  step_covered (Some c) cs h k =
      subst (IsCovered span) (sym (span_of-append (c ∷ []) cs))
      (joined_covered span (span_of (c ∷ [])) (span_of cs) (covered_from span (c ∷ []) (All-cons (λ e. IsWithinBoth span (Some e)) c [] h (All-nil _))) k)

  covered_step : (c : Option ℤ) (cs : List ℤ) → IsCovered span (span_of (cons_option c cs)) → IsWithinBoth span c × IsCovered span (span_of cs)
  covered_step None cs k = (any_missing span, k)
    where
      any_missing : (s : Option Span) → IsWithinBoth s None
      any_missing None = tt
      any_missing (Some s) = tt
  covered_step (Some c) cs k =
      let parts = covered_joined span (span_of (c ∷ [])) (span_of cs) (subst (IsCovered span) (span_of-append (c ∷ []) cs) k) in
      (All-head (λ e. IsWithinBoth span (Some e)) c [] (from_covered span (c ∷ []) parts.0), parts.1)

  none_covered : IsCovered span None
  none_covered = covered_from span [] (All-nil _)

  there_covered : (vs : List Vertex) → All (λ v. IsWithinBoth span (get v)) vs → IsCovered span (span_of (filter_map get vs))
  there_covered [] h = none_covered
  there_covered (v ∷ vs) h = step_covered (get v) (filter_map get vs) (All-head (λ w. IsWithinBoth span (get w)) v vs h) (there_covered vs (All-tail (λ w. IsWithinBoth span (get w)) v vs h))

  covered_there : (vs : List Vertex) → IsCovered span (span_of (filter_map get vs)) → All (λ v. IsWithinBoth span (get v)) vs
  covered_there [] h = All-nil _
  covered_there (v ∷ vs) h =
      let parts = covered_step (get v) (filter_map get vs) h in
      All-cons (λ w. IsWithinBoth span (get w)) v vs parts.0 (covered_there vs parts.1)

-- if a box holds each vertex, it holds their reach
pub within_from_all : (box : Bounds) (vs : List Vertex) → All (Holds box) vs → IsReachWithin (reach_of vs) box
within_from_all box vs h = record {
  x = each_covered (Some box.x) (λ v. v.x) vs (λ k d lt. (h k d lt).x);
  y = each_covered (Some box.y) (λ v. v.y) vs (λ k d lt. (h k d lt).y);
  z = there_covered box.z (λ v. v.z) vs (λ k d lt. (h k d lt).z);
  m = there_covered box.m (λ v. v.m) vs (λ k d lt. (h k d lt).m);
}

pub all_from_within : (box : Bounds) (vs : List Vertex) → IsReachWithin (reach_of vs) box → All (Holds box) vs
all_from_within box vs w k d lt = record {
  x = covered_each (Some box.x) (λ v. v.x) vs w.x k d lt;
  y = covered_each (Some box.y) (λ v. v.y) vs w.y k d lt;
  z = covered_there box.z (λ v. v.z) vs w.z k d lt;
  m = covered_there box.m (λ v. v.m) vs w.m k d lt;
}
