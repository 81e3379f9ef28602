-- The steps of reading a geometry: its header, its body, and the judging of its claims.
use Rattle.twkb_body.proofs.Prelude.{◌≡◌, ℕ, zero, suc, ◌+◌, ◌-◌, ◌≤◌, ◌==◌, Bool, true, false, cond, List, [], length, map, ℤ, Option, Some, None, option_map, Ok, refl, sym, ap, ap₂, subst, ◌∙◌, arith, Reading, passed, IsMoved, Head, BoxField, Malformed, Header, is_multi, is_collection, bounds_of, head_of, IsHeadAt, HeadValue, head_plan, Answer, Reader, ◌>>=◌, viewed, read, Fails, Geometry, Members, Lengths, points_of, vertex_of, vertices, Reach, reach_of, both, Body, no_body, geometry_from, spanned, shape_at, body_at, parts_at, geometry_by, geometry_at, members_under, NamesFirstOf, MemberSums, Sums, first, false_at, is_within, is_tight, ids_refused, Found, size_judged, box_judged, IsFound, Inside, of_head, first_inside, IsInside}
use Rattle.twkb_body.proofs.TreeSums.{nothing, over, size_refused, box_refused}
use Rattle.twkb_body.proofs.Passes.{over_sums, none_sums}

geometry_is : (levels : ℕ) (r : Reading) → geometry_at levels r ≡ geometry_by levels (members_under levels) r
unfolding geometry_at
geometry_is zero r = refl
geometry_is (suc levels) r = refl

module _ (levels : ℕ) (r : Reading) where
  pub header_fails : (m : Malformed) (new : Reading) → Fails (read (head_plan levels) r) m new → Fails (geometry_at levels r) m new
  unfolding parts_at
  header_fails m new f = record {
    left = f.left;
    is = geometry_is levels r ∙ ap (λ (a : Answer HeadValue). viewed (λ x. geometry_from x.0 x.1) (spanned r (spanned r a >>= λ head a.
        viewed (λ body. (head, body)) (body_at (head.0).header.empty (is_collection (head.0).header.kind) (head.0).header (members_under levels) a)))) f.is;
    bytes = f.bytes;
  }

  -- reading a geometry after its header
  module _ (a : Reading) (x : HeadValue) (headed : read (head_plan levels) r ≡ (Ok x, a)) where
    abbrev pub body_read : Answer Body
    body_read = body_at x.header.empty (is_collection x.header.kind) x.header (members_under levels) a

    behind_header : geometry_at levels r ≡ viewed (λ x. geometry_from x.0 x.1) (spanned r (viewed (λ body. ((x, a.place - r.place), body)) body_read))
    unfolding parts_at
    behind_header = geometry_is levels r ∙ ap (λ (a : Answer HeadValue). viewed (λ x. geometry_from x.0 x.1) (spanned r (spanned r a >>= λ head a.
        viewed (λ body. (head, body)) (body_at (head.0).header.empty (is_collection (head.0).header.kind) (head.0).header (members_under levels) a)))) headed

    pub body_gives : (b : Body) (new : Reading) → body_read ≡ (Ok b, new) → geometry_at levels r ≡ (Ok (geometry_from ((x, a.place - r.place), b) (new.place - r.place)), new)
    body_gives b new e = behind_header ∙ ap (λ (y : Answer Body). viewed (λ x. geometry_from x.0 x.1) (spanned r (viewed (λ body. ((x, a.place - r.place), body)) y))) e

    pub body_fails : (m : Malformed) (new : Reading) → Fails body_read m new → Fails (geometry_at levels r) m new
    body_fails m new f = record {
      left = f.left;
      is = behind_header ∙ ap (λ (y : Answer Body). viewed (λ x. geometry_from x.0 x.1) (spanned r (viewed (λ body. ((x, a.place - r.place), body)) y))) f.is;
      bytes = f.bytes;
    }

-- ---- bodies of each sort
module _ (h : Header) (members : ℕ → Reader Members) (a : Reading) where
  pub empty_body : h.empty ≡ true → body_at h.empty (is_collection h.kind) h members a ≡ (Ok no_body, a)
  unfolding body_at
  empty_body e = ap (λ (b : Bool). body_at b (is_collection h.kind) h members a) e

  pub shape_body : h.empty ≡ false → is_collection h.kind ≡ false → body_at h.empty (is_collection h.kind) h members a ≡ shape_at (is_multi h.kind) h a
  unfolding body_at
  shape_body e k = ap₂ (λ (b c : Bool). body_at b c h members a) e k

-- a shape depends on its header only by what the head says
pub shape_of_head : (head : Head) (h : Header) (start size_place box_place stop : ℕ) → head ≡ head_of h start size_place box_place stop → (r : Reading)
    → shape_at (is_multi head.kind) (of_head head) r ≡ shape_at (is_multi h.kind) h r
unfolding shape_at
shape_of_head head h start size_place box_place stop e r = ap (λ (x : Head). shape_at (is_multi x.kind) (of_head x) r) e ∙ same (is_multi h.kind)
  where
    same : (multi : Bool) → shape_at multi (of_head (head_of h start size_place box_place stop)) r ≡ shape_at multi h r
    same false = refl
    same true = refl

-- a body depends on its header only by what the head says
pub body_of_head : (head : Head) (h : Header) (start size_place box_place stop : ℕ) → head ≡ head_of h start size_place box_place stop → (members : ℕ → Reader Members) (r : Reading)
    → body_at head.empty (is_collection head.kind) (of_head head) members r ≡ body_at h.empty (is_collection h.kind) h members r
unfolding body_at shape_at
body_of_head head h start size_place box_place stop e members r =
    ap (λ (x : Head). body_at x.empty (is_collection x.kind) (of_head x) members r) e ∙ same h.empty (is_collection h.kind)
  where
    shape : (multi : Bool) → shape_at multi (of_head (head_of h start size_place box_place stop)) r ≡ shape_at multi h r
    shape false = refl
    shape true = refl

    same : (empty collection : Bool) → body_at empty collection (of_head (head_of h start size_place box_place stop)) members r ≡ body_at empty collection h members r
    same true collection = refl
    same false true = refl
    same false false = shape (is_multi h.kind)

-- nothing is found in an empty body
abbrev pub nothing_found : Inside
nothing_found = record { found = record { vertices = 0; refused = None }; boxed = None; ids = None }

-- nothing is found in an empty body, where no vertices were seen
pub nothing_inside : (tight : Bool) (h : Header) (bounds : Option BoxField) (place : ℕ) (Saw : Reach → Type 0) → Saw (reach_of []) → None ≡ box_judged tight h bounds (reach_of [])
    → IsInside tight h bounds no_body place place Saw nothing_found
nothing_inside tight h bounds place Saw saw boxed = record {
  below = nothing;
  members = none_sums tight (place + 0);
  vertices = refl;
  boxed = boxed;
  seen = saw;
  refused = refl;
  ids = refl;
  few = omega arith;
}

-- ---- the geometry, judged
module _ (tight : Bool) (head : Head) (depth : ℕ) (r a new : Reading) (at : IsHeadAt head depth r.place (passed r a)) (moved : IsMoved r a) where
  pub size_same : (l : Lengths) → l.before ≡ 2 + length at.is.extended_bytes → l.size ≡ length at.is.size_bytes → l.whole ≡ new.place - r.place
      → size_judged head.size new.place ≡ size_refused r.place l at.header.size
  size_same l before size whole = ap (λ (h : Head). size_judged h.size new.place) at.fields ∙ go at.header.size
    where
      go : (o : Option ℕ) → size_judged (option_map (λ n. record { value = n; offset = r.place + 2 + length at.is.extended_bytes; after = r.place + 2 + length at.is.extended_bytes + length at.is.size_bytes }) o) new.place
          ≡ size_refused r.place l o
      go None = refl
      go (Some n) =
          let long : new.place - (r.place + 2 + length at.is.extended_bytes + length at.is.size_bytes) ≡ l.whole - (l.before + l.size) = omega (arith, before, size, whole) in
          let place : r.place + 2 + length at.is.extended_bytes ≡ r.place + l.before = omega (arith, before) in
          ap₂ (λ (k p : ℕ). false_at (n == k) p 6) long place

  box_same : (l : Lengths) (reach reach' : Reach) → l.before ≡ 2 + length at.is.extended_bytes → l.size ≡ length at.is.size_bytes → reach ≡ reach'
      → box_judged tight (of_head head) head.bounds reach ≡ box_refused tight (r.place + l.before + l.size) at.header reach' at.header.box
  box_same l reach reach' before size e = ap (λ (h : Head). box_judged tight (of_head h) h.bounds reach) at.fields ∙ go at.header.box
    where
      go : (o : Option (List (ℤ × ℤ))) → box_judged tight (of_head (head_of at.header 0 0 0 0)) (option_map (λ ranges. record { bounds = bounds_of at.header.xy at.header.z at.header.m ranges; offset = r.place + 2 + length at.is.extended_bytes + length at.is.size_bytes }) o) reach
          ≡ box_refused tight (r.place + l.before + l.size) at.header reach' o
      go None = refl
      go (Some ranges) =
          let place : r.place + 2 + length at.is.extended_bytes + length at.is.size_bytes ≡ r.place + l.before + l.size = omega (arith, before, size) in
          let box = bounds_of at.header.xy at.header.z at.header.m ranges in
          ap₂ (λ (x : Reach) (p : ℕ). first (false_at (is_within x box) p 7) (cond tight (false_at (is_tight at.header.xy at.header.z at.header.m box x) p 9) None)) e place

  pub geometry_found : a.place ≤ new.place → (b : Body) (inside : Inside) (Saw : Reach → Type 0) (judged : Found) → IsInside tight (of_head head) head.bounds b a.place new.place Saw inside
      → judged.vertices ≡ inside.found.vertices
      → judged.refused ≡ first (size_judged head.size new.place) (first_inside inside)
      → IsFound tight (geometry_from ((record { header = at.header; before = 2 + length at.is.extended_bytes; size = length at.is.size_bytes }, a.place - r.place), b) (new.place - r.place)) r.place new.place judged
      × Saw (reach_of (vertices (geometry_from ((record { header = at.header; before = 2 + length at.is.extended_bytes; size = length at.is.size_bytes }, a.place - r.place), b) (new.place - r.place))))
  geometry_found ahead b inside Saw judged i counted refused =
      let g : Geometry = geometry_from ((record { header = at.header; before = 2 + length at.is.extended_bytes; size = length at.is.size_bytes }, a.place - r.place), b) (new.place - r.place) in
      let l : Lengths = record { before = 2 + length at.is.extended_bytes; size = length at.is.size_bytes; header = a.place - r.place; count = b.count; list = b.list; whole = new.place - r.place } in
      let own = reach_of (map (vertex_of at.header) (points_of b.polygons)) in
      let body : a.place ≡ r.place + l.header = omega (arith, moved.ahead) in
      let below : MemberSums tight b.members (r.place + l.header + l.list) i.below = subst (λ (p : ℕ). MemberSums tight b.members (p + b.list) i.below) body i.members in
      let same : both (reach_of (map (vertex_of (of_head head)) (points_of b.polygons))) i.below.reach ≡ both own i.below.reach =
      ap (λ (h : Head). both (reach_of (map (vertex_of (of_head h)) (points_of b.polygons))) i.below.reach) at.fields in
      let named_first : judged.refused ≡ (over tight at.header l b.ids r.place (length (points_of b.polygons)) own i.below).refused =
      refused ∙ (λ j. first (size_same l refl refl refl j) (first ((i.boxed ∙ box_same l _ (both own i.below.reach) refl refl same) j)
      (first ((i.ids ∙ ap (λ (p : ℕ). ids_refused (p + b.count) b.ids) body) j) (i.refused j)))) in
      let all : Sums tight g r.place (over tight at.header l b.ids r.place (length (points_of b.polygons)) own i.below) = over_sums tight at.header l b.ids b.polygons b.members r.place i.below below in (
        record {
          sums = record {
            count = counted ∙ i.vertices ∙ all.count;
            reach = refl;
            refused = subst (NamesFirstOf tight g r.place) (sym named_first) all.refused;
          };
          stop_is = omega (arith, moved.ahead, ahead);
          few = omega (arith, counted, i.few, moved.ahead);
        },
        subst Saw (same ∙ all.reach) i.seen,
      )
