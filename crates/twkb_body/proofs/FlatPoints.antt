-- A point of X and Y without a box: two numbers after a header are its body, and it is certified exactly if its size is true.
use Rattle.twkb_body.proofs.Prelude.{◌≡◌, ◌==◌, ◌+◌, ◌/◌, ◌%◌, ◌≤◌, ◌-◌, pos, neg_ℤ, ◌++◌, [], ◌∷◌, ℕ, ℤ, Bool, true, false, List, Option, Some, None, Ok, length, length-append, refl, sym, ap, subst, ◌∙◌, arith, common_steps, ints, IsSigned, SFits, w64, Reading, passed, rest, IsMoved, IsSound, ReadsNumbers, Head, Point, deepest, is_collection, BoxField, IsHeadAt, head_value, FalseClaim, Geometry, Blob, Reach, Body, geometry_at, members_under, Found, named, size_judged, box_judged, IsFound, Inside, of_head, reach_with, IsInside, Refused, first, IsCertifiedBy}
use Rattle.std.proofs.Common.{if◌then◌else◌}
use Rattle.twkb_body.specs.Devices.FlatPoint.{IsOnePoint}
use Rattle.twkb_body.proofs.AuditFacts.{not_certified}
use Rattle.twkb_body.proofs.GeometrySteps.{shape_body, body_gives, body_of_head, geometry_found}
use Rattle.twkb_body.proofs.NumberRuns.{has_64_bits}
use Rattle.twkb_body.proofs.Passes.{none_sums}
use Rattle.twkb_body.proofs.TreeSums.{nothing}
use Rattle.twkb_body.proofs.PointShapes.{point_body, point_shape}

-- no box above asks for the vertices
abbrev Unseen : Reach → Type 0
Unseen reach = Unit {0}

abbrev inside_point : Inside
inside_point = record { found = record { vertices = 1; refused = None }; boxed = None; ids = None }

-- a number that was read fits 64 bits
fits_of : (z : ℤ) (bytes : List ℕ) → IsSigned z bytes → SFits w64 z
fits_of z bytes (n, spells, is) = subst (SFits w64) is (go (n % 2 == 0))
  where
    go : (even : Bool) → SFits w64 (if even then pos (n / 2) else neg_ℤ (pos ((n + 1) / 2)))
    go true = has_64_bits _ (omega (arith, ints, spells.fits)) (omega (arith, ints, spells.fits))
    go false = has_64_bits _ (omega (arith, ints, spells.fits)) (omega (arith, ints, spells.fits))

module _ (tight : Bool) (before a new : Reading) (sound : IsSound before) (head : Head) (at : IsHeadAt head 1 before.place (passed before a)) (moved : IsMoved before a) (sound_there : IsSound a)
    (point : head.kind ≡ Point) (flat : head.z ≡ None) (flat_m : head.m ≡ None) (no_box : head.bounds ≡ None) (full : head.empty ≡ false)
    (x y : ℤ) (read : ReadsNumbers a new (x ∷ y ∷ [])) where
  abbrev found : Found
  found = record { vertices = 1; refused = size_judged head.size new.place }

  -- what was read is a point, of which the size alone may be refused
  point_found : (g : Geometry) × (geometry_at (deepest - 1) before ≡ (Ok g, new)) × IsFound tight g before.place new.place found
  point_found =
      let members = members_under (deepest - 1) in
      let single : is_collection head.kind ≡ false = ap is_collection point in
      let body : Body = point_body x y in
      let inside : IsInside tight (of_head head) head.bounds body a.place new.place Unseen inside_point = record {
        below = nothing;
        members = none_sums tight (a.place + body.list);
        vertices = refl;
        boxed = ap (λ (o : Option BoxField). box_judged tight (of_head head) o (reach_with (of_head head) body nothing.reach)) (sym no_box);
        seen = tt;
        refused = refl;
        ids = refl;
        few = omega (arith, ahead);
      } in
      let shape = point_shape head a point flat flat_m new x y sound_there read (fits_of x read.spelled.0 read.spelled.3) (fits_of y read.spelled.4.0 read.spelled.4.3) in
      let body_read = shape_body (of_head head) members a full single ∙ shape in
      let headed = head_value 1 (omega arith) (omega arith) before a head sound at moved in (
        _,
        body_gives (deepest - 1) before a _ headed body new (sym (body_of_head head at.header _ _ _ _ at.fields members a) ∙ body_read),
        (geometry_found tight head 1 before a new at moved (omega (arith, ahead)) body inside_point Unseen found inside refl (unjudged (size_judged head.size new.place))).0,
      )
    where
      unjudged : (r : Refused) → r ≡ first r (first None (first None None))
      unjudged None = refl
      unjudged (Some claim) = refl

      ahead : a.place + 1 ≤ new.place
      ahead =
          let (front, behind, whole, first, others) = read.spelled in
          let long : length (passed a new) ≡ new.place - a.place = grind (arith, common_steps, read.moved.within) in
          omega (arith, long, ap length whole, length-append front behind, first.1.some, read.moved.ahead)

  -- if the size is true, the point is certified
  pub point_certified : size_judged head.size new.place ≡ None → IsOnePoint tight before new
  point_certified true_size = record {
    whole = point_found.0;
    read = point_found.1;
    found = subst (λ (r : Refused). IsFound tight point_found.0 before.place new.place (record { vertices = 1; refused = r })) true_size point_found.2;
  }

  -- if it is false, no certified blob is there
  pub point_refused : (claim : FalseClaim) (judged : Option FalseClaim) → judged ≡ Some claim → named judged ≡ size_judged head.size new.place
      → (h : Geometry) (front behind : List ℕ) → rest before ≡ front ++ behind → Blob h front 1 → IsCertifiedBy tight h → ⊥
  point_refused claim judged is same = not_certified before new sound tight point_found.0 found point_found.1 point_found.2 claim judged is same
