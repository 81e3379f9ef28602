-- Points, rings, polygons and parts: the laws of the plans that read them.
use Rattle.twkb_body.proofs.Prelude.{◌≡◌, ℕ, ◌<◌, false, List, [], ◌∷◌, ◌++◌, length, flat_map, ℤ, None, inl, inr, refl, sym, ap, subst, ◌∙◌, Kind, Point, LineString, Polygon, MultiPoint, MultiLineString, MultiPolygon, GeometryCollection, Spells, IsSigned, Sequence, Counted, is_collection, Field, number_field, coordinate_field, Plan, bind, many, number_plan, PlanLaws, restated, Chain, chained, BegunChain, bind_laws, done_laws, FitAll, after_all, AreAll, BegunMany, many_laws, IsDue, IsNumber, number_laws, coordinate_laws, fewer, fewer_back, PointValue, Ring, IsRing, IsPart, IsBegunPoint, IsBegunList, count_due, id_due, member_due, IsBegunRing, IsBegunPart, first_of, behind, add, sums, ring_sums}
use Rattle.twkb_body.specs.Encoding.{IsPoint}
use Rattle.twkb_body.proofs.GeometryPlan.{point_plan, ring_plan, part_plan}
use Rattle.twkb_body.proofs.Sums.{FitNumber, FitPoint, FitPoints, FitRings, FitPoints-append, append-FitPoints, rings_fit, fit_rings, polygons_fit, fit_polygons, after_points, after_rings, after_polygons}

-- points are begun, and their sums fit after the sums that they start from
abbrev pub BegunFrom : (List PointValue → List ℕ → Field → Type 0) → PointValue → List ℕ → Field → Type 0
BegunFrom Begun s p due = (points : List PointValue) × Begun points p due × FitPoints s points

-- fewer than n members are whole, and one is begun; the points are the points of all of them
pub record BegunMembers {A : Type 0} (n : ℕ) (Q : A → List ℕ → Type 0) (points_in : A → List PointValue) (B : List PointValue → List ℕ → Field → Type 0)
    (points : List PointValue) (p : List ℕ) (due : Field) : Type 0 where
  pub xs : List A
  pub last : List PointValue
  pub wholes : List ℕ
  pub rest : List ℕ
  pub fewer : length xs < n
  pub whole : Sequence Q xs wholes
  pub begun : B last rest due
  pub all : points ≡ flat_map points_in xs ++ last
  pub parts : p ≡ wholes ++ rest

-- the laws of the plan of each member of a list, and how the points of members fit and add up
pub record MemberLaws {A : Type 0} (after : PointValue → A → PointValue) (plan : PointValue → Plan A) (Q : A → List ℕ → Type 0)
    (Fit : PointValue → A → Type 0) (points_in : A → List PointValue) (B : List PointValue → List ℕ → Field → Type 0) : Type 0 where
  pub each : (s : PointValue) → PlanLaws (plan s) (λ x bytes. Q x bytes × Fit s x) (BegunFrom B s)
  pub fit : (s : PointValue) (xs : List A) → FitAll after Fit s xs → FitPoints s (flat_map points_in xs)
  pub fit_back : (s : PointValue) (xs : List A) → FitPoints s (flat_map points_in xs) → FitAll after Fit s xs
  pub after_is : (s : PointValue) (xs : List A) → after_all after s xs ≡ sums s (flat_map points_in xs)

module _ {A : Type 0} {after : PointValue → A → PointValue} {plan : PointValue → Plan A} {Q : A → List ℕ → Type 0}
    {Fit : PointValue → A → Type 0} {points_in : A → List PointValue} {B : List PointValue → List ℕ → Field → Type 0} (m : MemberLaws after plan Q Fit points_in B) where
  pub members_laws : (n : ℕ) (s : PointValue) → PlanLaws (many n after plan s) (AreAll after Q Fit n s) (BegunFrom (BegunMembers n Q points_in B) s)
  members_laws n s = restated (many_laws m.each n s) (λ xs bytes h. h) (λ xs bytes h. h) begun begun_back
    where
      begun : (p : List ℕ) (due : Field) → BegunMany n after Q Fit (BegunFrom B) s p due → BegunFrom (BegunMembers n Q points_in B) s p due
      begun p due b =
          let last = b.begun in (
            flat_map points_in b.xs ++ last.0,
            record { xs = b.xs; last = last.0; wholes = b.wholes; rest = b.rest; fewer = b.fewer; whole = b.whole; begun = last.1; all = refl; parts = b.parts },
            FitPoints-append s (flat_map points_in b.xs) last.0 (m.fit s b.xs b.fit) (subst (λ (z : PointValue). FitPoints z last.0) (m.after_is s b.xs) last.2),
          )

      begun_back : (p : List ℕ) (due : Field) → BegunFrom (BegunMembers n Q points_in B) s p due → BegunMany n after Q Fit (BegunFrom B) s p due
      begun_back p due (points, b, fit) =
          let f = append-FitPoints s (flat_map points_in b.xs) b.last (subst (FitPoints s) b.all fit) in
          record {
            xs = b.xs;
            wholes = b.wholes;
            rest = b.rest;
            fewer = b.fewer;
            whole = b.whole;
            fit = m.fit_back s b.xs f.0;
            begun = (b.last, b.begun, subst (λ (z : PointValue). FitPoints z b.last) (sym (m.after_is s b.xs)) f.1);
            parts = b.parts;
          }

  -- a count and the members
  pub counted_laws : (s : PointValue) → PlanLaws (bind number_plan (λ n. many n after plan s)) (λ xs bytes. Counted Q xs bytes × FitAll after Fit s xs)
      (BegunFrom (IsBegunList false Q points_in B) s)
  counted_laws s = restated (bind_laws number_laws (λ n. members_laws n s)) whole back begun begun_back
    where
      whole : (xs : List A) (bytes : List ℕ) → Chain IsNumber (λ n. AreAll after Q Fit n s) xs bytes → Counted Q xs bytes × FitAll after Fit s xs
      whole xs bytes (n, (count, rest, parts, spells, (number, all, fit))) = ((count, rest, parts, subst (Spells count) (sym number) spells, all), fit)

      back : (xs : List A) (bytes : List ℕ) → Counted Q xs bytes × FitAll after Fit s xs → Chain IsNumber (λ n. AreAll after Q Fit n s) xs bytes
      back xs bytes ((count, rest, parts, spells, all), fit) = (length xs, (count, rest, parts, spells, (refl, all, fit)))

      IsBegun : List ℕ → Field → Type 0
      IsBegun = BegunChain (IsDue number_field) IsNumber (λ n. BegunFrom (BegunMembers n Q points_in B) s)

      begun : (p : List ℕ) (due : Field) → IsBegun p due → BegunFrom (IsBegunList false Q points_in B) s p due
      begun p due (inl (nil, is)) = ([], count_due refl nil is, tt)
      begun p due (inr (n, (count, rest, parts, spells, (points, b, fit)))) = (
        points,
        member_due n count [] b.wholes b.rest None b.xs b.last spells (refl, refl) b.fewer b.whole b.begun b.all (parts ∙ ap (λ (z : List ℕ). count ++ z) b.parts),
        fit,
      )

      begun_back : (p : List ℕ) (due : Field) → BegunFrom (IsBegunList false Q points_in B) s p due → IsBegun p due
      begun_back p due (points, count_due e nil is, fit) = inl (nil, is)
      begun_back p due (points, id_due n count id_list list ids spells few e parts is, fit) = absurd (cc (ids))
      begun_back p due (points, member_due n count id_list wholes rest list xs last spells none few whole begun all parts, fit) =
          inr (chained n count (wholes ++ rest) (parts ∙ ap (λ (z : List ℕ). count ++ (z ++ (wholes ++ rest))) none.1) spells
          (points, record { xs = xs; last = last; wholes = wholes; rest = rest; fewer = few; whole = whole; begun = begun; all = all; parts = refl }, fit))

-- a point
point_laws : (axes : ℕ) (s : PointValue) → PlanLaws (point_plan axes s) (λ p bytes. IsPoint axes p bytes × FitPoint s p) (BegunFrom (IsBegunPoint axes) s)
point_laws axes s = restated (many_laws (λ (s : PointValue). coordinate_laws (first_of s)) axes s) (λ p bytes h. ((h.0, h.1), h.2)) (λ p bytes h. (h.0.0, h.0.1, h.1)) begun begun_back
  where
    IsBegun : List ℕ → Field → Type 0
    IsBegun = BegunMany axes (λ (s : PointValue) (z : ℤ). behind s) IsSigned FitNumber (λ s. IsDue coordinate_field) s

    begun : (p : List ℕ) (due : Field) → IsBegun p due → BegunFrom (IsBegunPoint axes) s p due
    begun p due b = let t = fewer p due b in (t.0 ∷ [], (t.0, refl, (t.1, t.2), t.4), (t.3, tt))

    begun_back : (p : List ℕ) (due : Field) → BegunFrom (IsBegunPoint axes) s p due → IsBegun p due
    begun_back p due (points, (numbers, e, few, is), fit) = fewer_back p due (numbers, few.0, few.1, (subst (FitPoints s) e fit).0, is)

pub flat_single : (xs : List PointValue) → flat_map (λ p. p ∷ []) xs ≡ xs
flat_single [] = refl
flat_single (x ∷ xs) = ap (λ (ys : List PointValue). x ∷ ys) (flat_single xs)

points : (axes : ℕ) → MemberLaws add (point_plan axes) (IsPoint axes) FitPoint (λ p. p ∷ []) (IsBegunPoint axes)
points axes = record {
  each = point_laws axes;
  fit = λ s xs f. subst (FitPoints s) (sym (flat_single xs)) f;
  fit_back = λ s xs f. subst (FitPoints s) (flat_single xs) f;
  after_is = λ s xs. after_points s xs ∙ ap (sums s) (sym (flat_single xs));
}

rings : (axes : ℕ) → MemberLaws sums (ring_plan axes) (IsRing axes) FitPoints (λ ring. ring) (IsBegunRing axes)
rings axes = record { each = counted_laws (points axes); fit = rings_fit; fit_back = fit_rings; after_is = after_rings }

-- a part that is one point, and one that is one line
point_part : (axes : ℕ) (s : PointValue)
    → PlanLaws (part_plan Point axes s) (λ part bytes. IsPart Point axes part bytes × FitRings s part) (BegunFrom (IsBegunPoint axes) s)
point_part axes s = restated (done_laws (λ (p : PointValue). (p ∷ []) ∷ []) (point_laws axes s))
    (λ part bytes t. ((t.0, t.1, t.2.0), subst (FitRings s) (sym t.1) ((t.2.1, tt), tt)))
    (λ part bytes h. (h.0.0, h.0.1, (h.0.2, (subst (FitRings s) h.0.1 h.1).0.0))) (λ p due b. b) (λ p due b. b)

line_part : (axes : ℕ) (s : PointValue)
    → PlanLaws (part_plan LineString axes s) (λ part bytes. IsPart LineString axes part bytes × FitRings s part) (BegunFrom (IsBegunRing axes) s)
line_part axes s = restated (done_laws (λ (line : Ring). line ∷ []) ((rings axes).each s))
    (λ part bytes t. ((t.0, t.1, t.2.0), subst (FitRings s) (sym t.1) (t.2.1, tt)))
    (λ part bytes h. (h.0.0, h.0.1, (h.0.2, (subst (FitRings s) h.0.1 h.1).0))) (λ p due b. b) (λ p due b. b)

-- a part of any kind but a collection
part_laws : (k : Kind) (axes : ℕ) → is_collection k ≡ false → (s : PointValue)
    → PlanLaws (part_plan k axes s) (λ part bytes. IsPart k axes part bytes × FitRings s part) (BegunFrom (IsBegunPart k axes) s)
part_laws Point axes e = point_part axes
part_laws MultiPoint axes e = point_part axes
part_laws LineString axes e = line_part axes
part_laws MultiLineString axes e = line_part axes
part_laws Polygon axes e = counted_laws (rings axes)
part_laws MultiPolygon axes e = counted_laws (rings axes)
part_laws GeometryCollection axes e = absurd (cc (e))

pub parts : (k : Kind) (axes : ℕ) → is_collection k ≡ false
    → MemberLaws ring_sums (part_plan k axes) (IsPart k axes) FitRings (λ part. flat_map (λ ring. ring) part) (IsBegunPart k axes)
parts k axes e = record { each = part_laws k axes e; fit = polygons_fit; fit_back = fit_polygons; after_is = after_polygons }
