-- Bodies: the laws of the plans that read them.
use Rattle.twkb_body.proofs.Prelude.{◌≡◌, ℕ, ◌+◌, Bool, true, false, List, [], ◌∷◌, ◌++◌, length, flat_map, ℤ, Option, inl, inr, refl, sym, ap, subst, ◌∙◌, append_assoc, arith, Spells, IsSigned, Times, Announced, Header, axes_of, is_multi, is_collection, Field, number_field, IsFewer, Plan, bind, PlanLaws, restated, Chain, chained, BegunChain, behind_again, Made, Measured, bind_laws, done_laws, measure_laws, optional_laws, AreAll, IsDue, IsNumber, number_laws, signeds_laws, Lengths, PointValue, PolygonValue, points_of, member_count, none, Members as MemberTrees, IsPart, IsList, IsNumbers, IsShape, IsBody, SameForm, IsBegunList, count_due, id_due, member_due, IsBegunPart, IsBegunNumbers, SumsFit, ListHead, zeros, ring_sums, absolute, Body, parts_body, members_body, part_body, no_body}
use Rattle.twkb_body.proofs.GeometryPlan.{list_plan, shape_plan, after_count, body_plan}
use Rattle.twkb_body.proofs.PartPlans.{BegunFrom, BegunMembers, members_laws, parts}
use Rattle.twkb_body.proofs.Sums.{FitRings, FitPolygons, AreSums, polygons_fit, fit_polygons, sums_fit, fit_sums, absolute_is, is_absolute, sums_accumulate, accumulated_fit}

-- a count and ids
pub record IsListHead (ids : Bool) (x : ListHead) (bytes : List ℕ) : Type 0 where
  pub count : List ℕ
  pub id_list : List ℕ
  pub fields : bytes ≡ count ++ id_list
  pub count_field : Spells count (x.0).0
  pub count_length : (x.0).1 ≡ length count
  pub ids_field : Announced ids (Times (x.0).0 IsSigned) (x.1).0 id_list
  pub ids_length : (x.1).1 ≡ length id_list

pub list_head : {ids : Bool} {n : ℕ} {list : Option (List ℤ)} (count id_list : List ℕ) → Spells count n → Announced ids (Times n IsSigned) list id_list → IsListHead ids ((n, length count), (list, length id_list)) (count ++ id_list)
list_head count id_list spells has = record { count = count; id_list = id_list; fields = refl; count_field = spells; count_length = refl; ids_field = has; ids_length = refl }

-- a count is due, or ids are
abbrev pub BegunListHead : Bool → List ℕ → Field → Type 0
BegunListHead ids = BegunChain (IsDue number_field) IsNumber (λ n rest due. (ids ≡ true) × ((list : List ℤ) × IsFewer n list rest × (due ≡ number_field)))

pub list_laws : (ids : Bool) → PlanLaws (list_plan ids) (IsListHead ids) (BegunListHead ids)
list_laws ids =
    restated (bind_laws (measure_laws number_laws) (λ n. done_laws (λ (list : Option (List ℤ) × ℕ). (n, list)) (measure_laws (optional_laws ids (signeds_laws n.0)))))
    whole back begun begun_back
  where
    AreFields : ListHead → List ℕ → Type 0
    AreFields = Chain (Measured IsNumber) (λ n. Made (λ (list : Option (List ℤ) × ℕ). (n, list)) (Measured (Announced ids (Times n.0 IsSigned))))

    AreBegun : List ℕ → Field → Type 0
    AreBegun = BegunChain (IsDue number_field) (Measured IsNumber) (λ n rest due. (ids ≡ true) × ((list : List ℤ) × IsFewer n.0 list rest × (due ≡ number_field)))

    whole : (x : ListHead) (bytes : List ℕ) → AreFields x bytes → IsListHead ids x bytes
    whole x bytes (n, (count, id_list, split, (spells, count_length), (list, e, (has, ids_length)))) = subst (λ (x : ListHead). IsListHead ids x bytes) (sym e)
        (record { count = count; id_list = id_list; fields = split; count_field = spells; count_length = count_length; ids_field = has; ids_length = ids_length })

    back : (x : ListHead) (bytes : List ℕ) → IsListHead ids x bytes → AreFields x bytes
    back x bytes h = (x.0, (h.count, h.id_list, h.fields, (h.count_field, h.count_length), (x.1, refl, (h.ids_field, h.ids_length))))

    begun : (p : List ℕ) (due : Field) → AreBegun p due → BegunListHead ids p due
    begun p due (inl h) = inl h
    begun p due (inr (n, (count, rest, split, (spells, long), few))) = inr (n.0, (count, rest, split, spells, few))

    begun_back : (p : List ℕ) (due : Field) → BegunListHead ids p due → AreBegun p due
    begun_back p due (inl h) = inl h
    begun_back p due (inr (n, (count, rest, split, spells, few))) = inr ((n, length count), (count, rest, split, (spells, refl), few))

-- the lengths, with the body's for the count and for the count with the ids
abbrev pub with_lengths : Lengths → Body → Lengths
with_lengths l b = record l { count = b.count; list = b.list }

-- a count with ids, and members after them
module _ {h : Header} {Each : List ℕ → Type 0} (l : Lengths) where
  list_is : (x : ListHead) (n : ℕ) (bytes front rest : List ℕ) → bytes ≡ front ++ rest → IsListHead h.ids x front → (x.0).0 ≡ n → Each rest
      → IsList h (record l { count = (x.0).1; list = (x.0).1 + (x.1).1 }) (x.1).0 n Each bytes
  list_is x n bytes front rest split hd number each = record {
    count = hd.count;
    id_list = hd.id_list;
    members = rest;
    fields = split ∙ ap (λ (z : List ℕ). z ++ rest) hd.fields ∙ append_assoc hd.count hd.id_list rest;
    count_field = subst (Spells hd.count) number hd.count_field;
    ids_field = subst (λ (n : ℕ). Announced h.ids (Times n IsSigned) (x.1).0 hd.id_list) number hd.ids_field;
    each = each;
    count_length = hd.count_length;
    list_length = omega (arith, hd.count_length, hd.ids_length);
  }

-- a list of members that is begun: in its count, its ids or its members
module _ {A : Type 0} {ids : Bool} {Q : A → List ℕ → Type 0} {points_in : A → List PointValue} {B : List PointValue → List ℕ → Field → Type 0} where
  pub list_begun : (p : List ℕ) (due : Field) → BegunListHead ids p due → IsBegunList ids Q points_in B [] p due
  list_begun p due (inl (nil, is)) = count_due refl nil is
  list_begun p due (inr (n, (count, rest, split, spells, (has, (list, few, is))))) = id_due n count rest list has spells few refl split is

  member_begun : (points : List PointValue) (p front rest : List ℕ) (due : Field) (x : ListHead) → p ≡ front ++ rest → IsListHead ids x front
      → BegunMembers (x.0).0 Q points_in B points rest due → IsBegunList ids Q points_in B points p due
  member_begun points p front rest due x split hd b =
      member_due (x.0).0 hd.count hd.id_list b.wholes b.rest (x.1).0 b.xs b.last hd.count_field hd.ids_field b.fewer b.whole b.begun b.all
      (split ∙ ap (λ (z : List ℕ). z ++ rest) hd.fields ∙ append_assoc hd.count hd.id_list rest ∙ ap (λ (z : List ℕ). hd.count ++ (hd.id_list ++ z)) b.parts)

  pub begun_list : (points : List PointValue) (p : List ℕ) (due : Field) → IsBegunList ids Q points_in B points p due
      → BegunChain (BegunListHead ids) (IsListHead ids) (λ x. BegunMembers (x.0).0 Q points_in B points) p due
  begun_list points p due (count_due e nil is) = inl (inl (nil, is))
  begun_list points p due (id_due n count id_list list has spells few e split is) = inl (inr (n, (count, id_list, split, spells, (has, (list, few, is)))))
  begun_list points p due (member_due n count id_list wholes rest list xs last spells has few whole begun all split) =
      inr (chained ((n, length count), (list, length id_list)) (count ++ id_list) (wholes ++ rest) (split ∙ sym (append_assoc count id_list (wholes ++ rest)))
      (list_head count id_list spells has) (record { xs = xs; last = last; wholes = wholes; rest = rest; fewer = few; whole = whole; begun = begun; all = all; parts = refl }))

-- shapes
record IsNumbersBody (multi : Bool) (h : Header) (l : Lengths) (b : Body) (bytes : List ℕ) : Type 0 where
  numbers : List PolygonValue
  spelled : IsNumbers multi h (with_lengths l b) b.ids numbers bytes
  fit : FitPolygons zeros numbers
  polygons : b.polygons ≡ absolute numbers
  members : b.members ≡ none

-- numbers that are begun, whose sums fit 64 bits
abbrev pub BegunShape : Header → List ℕ → Field → Type 0
BegunShape h p due = (points : List PointValue) × IsBegunNumbers (is_multi h.kind) h points p due × SumsFit points

body_path : (a b : Body) → a.ids ≡ b.ids → a.polygons ≡ b.polygons → a.members ≡ b.members → a.count ≡ b.count → a.list ≡ b.list → a ≡ b
body_path a b i p m c l = λ j. record { ids = i j; polygons = p j; members = m j; count = c j; list = l j }

module _ (h : Header) (l : Lengths) (single : is_collection h.kind ≡ false) where
  abbrev AreParts : ListHead → List PolygonValue → List ℕ → Type 0
  AreParts x = AreAll ring_sums (IsPart h.kind (axes_of h)) FitRings (x.0).0 zeros

  numbers_laws : (multi : Bool) → PlanLaws (shape_plan multi h) (IsNumbersBody multi h l) (BegunFrom (IsBegunNumbers multi h) zeros)
  numbers_laws false = restated (done_laws part_body ((parts h.kind (axes_of h) single).each zeros)) whole back (λ p due b. b) (λ p due b. b)
    where
      IsOne : Body → List ℕ → Type 0
      IsOne = Made part_body (λ part bytes. IsPart h.kind (axes_of h) part bytes × FitRings zeros part)

      whole : (b : Body) (bytes : List ℕ) → IsOne b bytes → IsNumbersBody false h l b bytes
      whole b bytes (part, e, (is, fit)) = subst (λ (b : Body). IsNumbersBody false h l b bytes) (sym e)
          (record { numbers = part ∷ []; spelled = (part, refl, is, (refl, refl, refl)); fit = (fit, tt); polygons = refl; members = refl })

      back : (b : Body) (bytes : List ℕ) → IsNumbersBody false h l b bytes → IsOne b bytes
      back b bytes n =
          let (part, alone, is, absent) = n.spelled in
          (part, body_path b (part_body part) absent.0 (n.polygons ∙ ap absolute alone) n.members absent.1 absent.2, (is, (subst (FitPolygons zeros) alone n.fit).0))
  numbers_laws true = restated (bind_laws (list_laws h.ids) (λ x. done_laws (parts_body x) (members_laws (parts h.kind (axes_of h) single) (x.0).0 zeros))) whole back begun begun_back
    where
      AreMany : Body → List ℕ → Type 0
      AreMany = Chain (IsListHead h.ids) (λ x. Made (parts_body x) (AreParts x))

      whole : (b : Body) (bytes : List ℕ) → AreMany b bytes → IsNumbersBody true h l b bytes
      whole b bytes (x, (front, rest, split, hd, (numbers, e, (number, all, fit)))) = subst (λ (b : Body). IsNumbersBody true h l b bytes) (sym e)
          (record { numbers = numbers; spelled = list_is l x (length numbers) bytes front rest split hd (sym number) all; fit = fit; polygons = refl; members = refl })

      back : (b : Body) (bytes : List ℕ) → IsNumbersBody true h l b bytes → AreMany b bytes
      back b bytes n =
          let s = n.spelled in
          let x : ListHead = ((length n.numbers, length s.count), (b.ids, length s.id_list)) in
          chained x (s.count ++ s.id_list) s.members (s.fields ∙ sym (append_assoc s.count s.id_list s.members)) (list_head s.count s.id_list s.count_field s.ids_field)
          (n.numbers, body_path b (parts_body x n.numbers) refl n.polygons n.members s.count_length s.list_length, (refl, s.each, n.fit))

      AreBegun : List ℕ → Field → Type 0
      AreBegun = BegunChain (BegunListHead h.ids) (IsListHead h.ids)
          (λ x. BegunFrom (BegunMembers (x.0).0 (IsPart h.kind (axes_of h)) (λ part. flat_map (λ ring. ring) part) (IsBegunPart h.kind (axes_of h))) zeros)

      begun : (p : List ℕ) (due : Field) → AreBegun p due → BegunFrom (IsBegunNumbers true h) zeros p due
      begun p due (inl b) = ([], list_begun p due b, tt)
      begun p due (inr (x, (front, rest, split, hd, (points, b, fit)))) = (points, member_begun points p front rest due x split hd b, fit)

      begun_back : (p : List ℕ) (due : Field) → BegunFrom (IsBegunNumbers true h) zeros p due → AreBegun p due
      begun_back p due (points, b, fit) = behind_again (λ x rest b. (points, b, fit)) (begun_list points p due b)

  pub shape_laws : PlanLaws (shape_plan (is_multi h.kind) h) (λ b bytes. (b.members ≡ none) × IsShape h (with_lengths l b) b.ids b.polygons bytes) (BegunShape h)
  shape_laws = restated (numbers_laws (is_multi h.kind)) whole back (λ p due b. (b.0, b.1, sums_fit b.0 b.2)) (λ p due b. (b.0, b.1, fit_sums b.0 b.2))
    where
      IsShapeBody : Body → List ℕ → Type 0
      IsShapeBody b bytes = (b.members ≡ none) × IsShape h (with_lengths l b) b.ids b.polygons bytes

      whole : (b : Body) (bytes : List ℕ) → IsNumbersBody (is_multi h.kind) h l b bytes → IsShapeBody b bytes
      whole b bytes n =
          let a = absolute_is n.numbers in
          let same = subst (λ (p : List PolygonValue). SameForm p n.numbers) (sym n.polygons) a.0 in
          let sums = subst (λ (p : List PolygonValue). AreSums (points_of p) (points_of n.numbers)) (sym n.polygons) a.1 in
          let fit = sums_fit (points_of n.numbers) (polygons_fit zeros n.numbers n.fit) in (
            n.members,
            record {
              numbers = n.numbers;
              spelled = n.spelled;
              same_form = same;
              accumulated = sums_accumulate (points_of b.polygons) (points_of n.numbers) same.points sums fit;
            },
          )

      back : (b : Body) (bytes : List ℕ) → IsShapeBody b bytes → IsNumbersBody (is_multi h.kind) h l b bytes
      back b bytes (no_members, s) = record {
        numbers = s.numbers;
        spelled = s.spelled;
        fit = fit_polygons zeros s.numbers
            (fit_sums (points_of s.numbers) (accumulated_fit (points_of b.polygons) (points_of s.numbers) s.same_form.points s.accumulated));
        polygons = is_absolute b.polygons s.numbers s.same_form (λ i axis point c e h. (s.accumulated i axis point c e h).0);
        members = no_members;
      }

-- bodies, over the laws of the members of a collection
no_members : (gs : MemberTrees) → member_count gs ≡ 0 → gs ≡ none
no_members none e = refl
no_members (MemberTrees.more g gs) e = absurd (omega (arith, e))

abbrev pub MembersLaws : (ℕ → Plan MemberTrees) → (MemberTrees → List ℕ → Type 0) → (ℕ → List ℕ → Field → Type 0) → Type 0
MembersLaws members Each Begun = (n : ℕ) → PlanLaws (members n) (λ gs bytes. (member_count gs ≡ n) × Each gs bytes) (Begun n)

abbrev pub IsBodyOf : Header → Lengths → (MemberTrees → List ℕ → Type 0) → Bool → Bool → Body → List ℕ → Type 0
IsBodyOf h l Each empty collection b bytes = IsBody empty collection h (with_lengths l b) b.ids b.polygons (member_count b.members) (Each b.members) bytes

-- a list of members that is begun, in its count and ids or in its members; or a shape that is begun
abbrev pub BegunBody : Header → (ℕ → List ℕ → Field → Type 0) → Bool → Bool → List ℕ → Field → Type 0
BegunBody h Begun true collection = λ p due. ⊥
BegunBody h Begun false true = BegunChain (BegunListHead h.ids) (IsListHead h.ids) (λ x. Begun (x.0).0)
BegunBody h Begun false false = BegunShape h

module _ (h : Header) (l : Lengths) {members : ℕ → Plan MemberTrees} {Each : MemberTrees → List ℕ → Type 0} {Begun : ℕ → List ℕ → Field → Type 0} where
  collection_laws : MembersLaws members Each Begun → PlanLaws (bind (list_plan h.ids) (after_count members)) (IsBodyOf h l Each false true) (BegunBody h Begun false true)
  collection_laws each = restated (bind_laws (list_laws h.ids) (λ x. done_laws (members_body x) (each (x.0).0))) whole back (λ p due b. b) (λ p due b. b)
    where
      AreMany : Body → List ℕ → Type 0
      AreMany = Chain (IsListHead h.ids) (λ x. Made (members_body x) (λ gs bytes. (member_count gs ≡ (x.0).0) × Each gs bytes))

      whole : (b : Body) (bytes : List ℕ) → AreMany b bytes → IsBodyOf h l Each false true b bytes
      whole b bytes (x, (front, rest, split, hd, (gs, e, (number, all)))) =
          subst (λ (b : Body). IsBodyOf h l Each false true b bytes) (sym e) (refl, list_is l x (member_count gs) bytes front rest split hd (sym number) all)

      back : (b : Body) (bytes : List ℕ) → IsBodyOf h l Each false true b bytes → AreMany b bytes
      back b bytes (no_polygons, s) =
          let x : ListHead = ((member_count b.members, length s.count), (b.ids, length s.id_list)) in
          chained x (s.count ++ s.id_list) s.members (s.fields ∙ sym (append_assoc s.count s.id_list s.members)) (list_head s.count s.id_list s.count_field s.ids_field)
          (b.members, body_path b (members_body x b.members) refl no_polygons refl s.count_length s.list_length, (refl, s.each))

  -- empty and collection as the header says
  pub body_laws : (empty collection : Bool) → is_collection h.kind ≡ collection → (collection ≡ true → MembersLaws members Each Begun)
      → PlanLaws (body_plan empty collection h members) (IsBodyOf h l Each empty collection) (BegunBody h Begun empty collection)
  body_laws true collection c each = record { spelled = whole; spelled_back = back; stops = λ p due s. absurd s; stops_back = λ p due b. absurd b }
    where
      whole : (b : Body) (bytes : List ℕ) → (b ≡ no_body) × (bytes ≡ []) → IsBodyOf h l Each true collection b bytes
      whole b bytes (e, nil) = subst (λ (b : Body). IsBodyOf h l Each true collection b bytes) (sym e) (nil, refl, refl, (refl, refl, refl))

      back : (b : Body) (bytes : List ℕ) → IsBodyOf h l Each true collection b bytes → (b ≡ no_body) × (bytes ≡ [])
      back b bytes (nil, no_polygons, number, absent) = (body_path b no_body absent.0 no_polygons (no_members b.members number) absent.1 absent.2, nil)
  body_laws false true c each = collection_laws (each refl)
  body_laws false false c each = restated (shape_laws h l c) (λ b bytes s. (ap member_count s.0, s.1)) (λ b bytes s. (no_members b.members s.0, s.1))
      (λ p due b. b) (λ p due b. b)
