-- Geometries: the laws of the plan that reads them.
use Rattle.twkb_body.proofs.Prelude.{◌≡◌, ℕ, zero, suc, ◌+◌, ◌<◌, ◌≤◌, Bool, true, false, List, [], ◌∷◌, ◌++◌, length, pos, inl, inr, refl, sym, ap, ap₂, subst, subst₂, ◌∙◌, append_assoc, arith, Kind, Point, LineString, Polygon, MultiPoint, MultiLineString, MultiPolygon, GeometryCollection, Sequence, Times, Header, IsHeader, IsAllowedUnder, is_collection, Field, IsBegunHeader, Plan, done, HeadValue, PlanLaws, restated, Chain, chained, BegunChain, behind_again, Made, Measured, bind_laws_behind, done_laws, measure_laws, BegunTimes, free, times_laws, IsAllowedWith, allowed_at, allowed_with, IsHead, head_laws, Geometry, Members, geometry, none, more, member_count, Lengths, BlobUnder, BlobsUnder, IsBody, IsBegunUnder, header_begun, shape_begun, members_begun, member_begun, Body, geometry_from, members_of}
use Rattle.twkb_body.proofs.GeometryPlan.{parts_plan, geometry_with, members_plan, geometry_plan}
use Rattle.twkb_body.proofs.Bodies.{MembersLaws, IsBodyOf, BegunBody, list_head, body_laws, list_begun, begun_list}

no_level : (k : Kind) → is_collection k ≡ true → IsAllowedWith zero k → ⊥
no_level GeometryCollection c a = cc (a)
no_level Point c a = cc (c)
no_level LineString c a = cc (c)
no_level Polygon c a = cc (c)
no_level MultiPoint c a = cc (c)
no_level MultiLineString c a = cc (c)
no_level MultiPolygon c a = cc (c)

count_from : (gs : List Geometry) → member_count (members_of gs) ≡ length gs
count_from [] = refl
count_from (g ∷ gs) = ap suc (count_from gs)

list_of : Members → List Geometry
list_of none = []
list_of (more g gs) = g ∷ list_of gs

of_list : (gs : Members) → members_of (list_of gs) ≡ gs
unfolding list_of
of_list none = refl
of_list (more g gs) = ap (more g) (of_list gs)

length_list : (gs : Members) → length (list_of gs) ≡ member_count gs
unfolding list_of
length_list none = refl
length_list (more g gs) = ap suc (length_list gs)

module _ (limit : ℕ) where
  -- fewer than n members are whole, and one is begun
  pub record BegunBlobs (depth n : ℕ) (p : List ℕ) (due : Field) : Type 0 where
    pub gs : Members
    pub wholes : List ℕ
    pub rest : List ℕ
    pub fewer : member_count gs < n
    pub whole : BlobsUnder limit gs wholes depth
    pub begun : IsBegunUnder limit depth rest due
    pub parts : p ≡ wholes ++ rest

  abbrev BlobsAt : ℕ → Members → List ℕ → Type 0
  BlobsAt depth gs bytes = BlobsUnder limit gs bytes depth

  module _ (levels depth : ℕ) (deep : depth + levels ≡ limit) (some : 1 ≤ depth) (members : ℕ → Plan Members)
      (each : (k : Kind) → is_collection k ≡ true → IsAllowedWith levels k → MembersLaws members (BlobsAt (suc depth)) (BegunBlobs (suc depth))) where
    -- the lengths of the parts before a body, in a geometry of `whole` bytes
    abbrev lengths_of : HeadValue × ℕ → ℕ → Lengths
    lengths_of head whole = record { before = (head.0).before; size = (head.0).size; header = head.1; count = 0; list = 0; whole = whole }

    abbrev IsBodyBehind : HeadValue × ℕ → ℕ → Body → List ℕ → Type 0
    IsBodyBehind head whole = IsBodyOf (head.0).header (lengths_of head whole) (BlobsAt (suc depth)) (head.0).header.empty (is_collection (head.0).header.kind)

    abbrev AreParts : ℕ → (HeadValue × ℕ) × Body → List ℕ → Type 0
    AreParts whole = Chain (Measured (IsHead levels)) (λ head. Made (λ (b : Body). (head, b)) (IsBodyBehind head whole))

    abbrev BegunParts : List ℕ → Field → Type 0
    BegunParts = BegunChain (IsBegunHeader limit depth) (Measured (IsHead levels))
        (λ head. BegunBody (head.0).header (BegunBlobs (suc depth)) (head.0).header.empty (is_collection (head.0).header.kind))

    parts_at : (whole : ℕ) → PlanLaws (parts_plan levels members) (AreParts whole) BegunParts
    parts_at whole = bind_laws_behind (measure_laws (head_laws limit levels depth deep some)) (λ head front is. done_laws (λ (b : Body). (head, b))
        (body_laws (head.0).header (lengths_of head whole) (head.0).header.empty (is_collection (head.0).header.kind) refl (λ c. each (head.0).header.kind c is.0.allowed)))

    -- the laws of a header and a body, with the number of their bytes as the length of the whole
    parts_laws : PlanLaws (parts_plan levels members) (λ x bytes. AreParts (length bytes) x bytes) BegunParts
    parts_laws = record {
      spelled = λ x bytes s. (parts_at (length bytes)).spelled x bytes s;
      spelled_back = λ x bytes h. (parts_at (length bytes)).spelled_back x bytes h;
      stops = (parts_at 0).stops;
      stops_back = (parts_at 0).stops_back;
    }

    abbrev IsWhole : Geometry → List ℕ → Type 0
    IsWhole = Made (λ (x : ((HeadValue × ℕ) × Body) × ℕ). geometry_from x.0 x.1) (Measured (λ x bytes. AreParts (length bytes) x bytes))

    blob_is : (g : Geometry) (bytes : List ℕ) → IsWhole g bytes → BlobUnder limit g bytes depth
    unfolding BlobUnder
    blob_is g bytes (x, e, ((head, (front, body, split, (hd, header_length), (b, e', is_body))), whole_length)) =
        subst (λ (g : Geometry). BlobUnder limit g bytes depth) (sym (e ∙ ap₂ geometry_from e' whole_length)) (
          body,
          record {
            head = front;
            fields = split;
            header = hd.header;
            before_length = hd.before;
            size_length = hd.size;
            header_length = header_length;
            whole_length = refl;
          },
          allowed_at limit levels depth (head.0).header.kind deep some hd.allowed,
          is_body,
        )

    is_blob : (g : Geometry) (bytes : List ℕ) → BlobUnder limit g bytes depth → IsWhole g bytes
    unfolding BlobUnder
    is_blob (geometry h l ids polygons gs) bytes (body, starts, allowed, is_body) =
        let head : HeadValue = record { header = h; before = l.before; size = l.size } in
        let b : Body = record { ids = ids; polygons = polygons; members = gs; count = l.count; list = l.list } in
        let hd : IsHead levels head starts.head =
        record { header = starts.header; allowed = allowed_with limit levels depth h.kind deep allowed; before = starts.before_length; size = starts.size_length } in
        let there = subst (λ (n : ℕ). IsBody h.empty (is_collection h.kind) h (record l { whole = n }) ids polygons (member_count gs) (BlobsAt (suc depth) gs) body)
        starts.whole_length is_body in
        ((((head, l.header), b), l.whole), refl, (((head, l.header), (starts.head, body, starts.fields, (hd, starts.header_length), (b, refl, there))), starts.whole_length))

    begun : (p : List ℕ) (due : Field) → BegunParts p due → IsBegunUnder limit depth p due
    begun p due (inl b) = header_begun depth p due b
    begun p due (inr (head, (front, rest, split, (hd, long), b))) =
        in_body (head.0).header.empty (is_collection (head.0).header.kind) (head.0).header hd.header (allowed_at limit levels depth (head.0).header.kind deep some hd.allowed) refl refl b
      where
        in_body : (empty collection : Bool) (h : Header) → IsHeader h front → IsAllowedUnder limit h.kind depth → h.empty ≡ empty → is_collection h.kind ≡ collection
            → BegunBody h (BegunBlobs (suc depth)) empty collection rest due → IsBegunUnder limit depth p due
        in_body true collection h hd ok e c b = absurd b
        in_body false true h hd ok e c (inl b) = members_begun depth p due h front rest hd ok e c (list_begun rest due b) split
        in_body false true h hd ok e c (inr (x, (list, behind, split', l, b))) =
            member_begun depth p due h (x.0).0 front l.count l.id_list b.wholes b.rest (x.1).0 b.gs hd ok e c l.count_field l.ids_field b.fewer b.whole b.begun
            (split ∙ ap (λ (z : List ℕ). front ++ z) (split' ∙ ap (λ (z : List ℕ). z ++ behind) l.fields ∙ append_assoc l.count l.id_list behind
            ∙ ap (λ (z : List ℕ). l.count ++ (l.id_list ++ z)) b.parts))
        in_body false false h hd ok e c (points, b, fit) = shape_begun depth p due h front rest points hd ok e c b fit split

    -- a header that is whole, and a body that is begun
    behind : (h : Header) (front rest p : List ℕ) (due : Field) (collection : Bool) → IsHeader h front → IsAllowedUnder limit h.kind depth → h.empty ≡ false
        → is_collection h.kind ≡ collection → p ≡ front ++ rest → BegunBody h (BegunBlobs (suc depth)) false collection rest due → BegunParts p due
    behind h front rest p due collection hd allowed not_empty c split b =
        let head : HeadValue = record { header = h; before = 2 + length hd.extended_bytes; size = length hd.size_bytes } in
        inr (chained (head, length front) front rest split
        (record { header = hd; allowed = allowed_with limit levels depth h.kind deep allowed; before = refl; size = refl }, refl)
        (subst₂ (λ (e : Bool) (c : Bool). BegunBody h (BegunBlobs (suc depth)) e c rest due) (sym not_empty) (sym c) b))

    begun_back : (p : List ℕ) (due : Field) → IsBegunUnder limit depth p due → BegunParts p due
    begun_back p due (header_begun _ _ _ b) = inl b
    begun_back p due (shape_begun _ _ _ h front rest points hd allowed not_empty single b fit split) =
        behind h front rest p due false hd allowed not_empty single split (points, b, fit)
    begun_back p due (members_begun _ _ _ h front rest hd allowed not_empty many_of b split) =
        behind h front rest p due true hd allowed not_empty many_of split (behind_again (λ x rest b. absurd b.begun) (begun_list {A = ℕ} [] rest due b))
    begun_back p due (member_begun _ _ _ h n front count id_list wholes rest ids gs hd allowed not_empty many_of spells has few whole begun split) =
        behind h front (count ++ (id_list ++ (wholes ++ rest))) p due true hd allowed not_empty many_of split
        (inr (chained ((n, length count), (ids, length id_list)) (count ++ id_list) (wholes ++ rest) (sym (append_assoc count id_list (wholes ++ rest)))
        (list_head count id_list spells has) (record { gs = gs; wholes = wholes; rest = rest; fewer = few; whole = whole; begun = begun; parts = refl })))

    with_laws : PlanLaws (geometry_with levels members) (λ g bytes. BlobUnder limit g bytes depth) (IsBegunUnder limit depth)
    with_laws = restated (done_laws (λ (x : ((HeadValue × ℕ) × Body) × ℕ). geometry_from x.0 x.1) (measure_laws parts_laws)) blob_is is_blob begun begun_back

  -- members, by the laws of each
  blobs_from : (depth : ℕ) (gs : List Geometry) (bytes : List ℕ) → Sequence (λ g b. BlobUnder limit g b depth) gs bytes → BlobsUnder limit (members_of gs) bytes depth
  unfolding BlobsUnder
  blobs_from depth [] bytes s = s
  blobs_from depth (g ∷ gs) bytes (front, rest, parts, s, later) = (front, rest, parts, s, blobs_from depth gs rest later)

  sequence_from : (depth : ℕ) (gs : Members) (bytes : List ℕ) → BlobsUnder limit gs bytes depth → Sequence (λ g b. BlobUnder limit g b depth) (list_of gs) bytes
  unfolding BlobsUnder list_of
  sequence_from depth none bytes s = s
  sequence_from depth (more g gs) bytes (front, rest, parts, s, later) = (front, rest, parts, s, sequence_from depth gs rest later)

  pub blobs_laws : (depth : ℕ) {plan : Plan Geometry} → PlanLaws plan (λ g bytes. BlobUnder limit g bytes depth) (IsBegunUnder limit depth)
      → MembersLaws (members_plan plan) (BlobsAt depth) (BegunBlobs depth)
  blobs_laws depth each n = restated (done_laws members_of (times_laws each n)) whole back begun begun_back
    where
      IsEach : Geometry → List ℕ → Type 0
      IsEach g bytes = BlobUnder limit g bytes depth

      whole : (gs : Members) (bytes : List ℕ) → Made members_of (Times n IsEach) gs bytes → (member_count gs ≡ n) × BlobsUnder limit gs bytes depth
      whole gs bytes (list, e, (number, all)) = subst (λ (gs : Members). (member_count gs ≡ n) × BlobsUnder limit gs bytes depth) (sym e)
          (count_from list ∙ number, blobs_from depth list bytes all)

      back : (gs : Members) (bytes : List ℕ) → (member_count gs ≡ n) × BlobsUnder limit gs bytes depth → Made members_of (Times n IsEach) gs bytes
      back gs bytes (number, all) = (list_of gs, sym (of_list gs), (length_list gs ∙ number, sequence_from depth gs bytes all))

      begun : (p : List ℕ) (due : Field) → BegunTimes IsEach (IsBegunUnder limit depth) n p due → BegunBlobs depth n p due
      begun p due b = record {
        gs = members_of b.xs;
        wholes = b.wholes;
        rest = b.rest;
        fewer = subst (λ (k : ℕ). k < n) (sym (count_from b.xs)) b.fewer;
        whole = blobs_from depth b.xs b.wholes b.whole;
        begun = b.begun;
        parts = b.parts;
      }

      begun_back : (p : List ℕ) (due : Field) → BegunBlobs depth n p due → BegunTimes IsEach (IsBegunUnder limit depth) n p due
      begun_back p due b = record {
        xs = list_of b.gs;
        wholes = b.wholes;
        rest = b.rest;
        fewer = subst (λ (k : ℕ). k < n) (sym (length_list b.gs)) b.fewer;
        whole = sequence_from depth b.gs b.wholes b.whole;
        fit = free (pos 0) (list_of b.gs);
        begun = b.begun;
        parts = b.parts;
      }

  -- geometries at a depth
  pub blob_laws : (levels depth : ℕ) → depth + levels ≡ limit → 1 ≤ depth
      → PlanLaws (geometry_plan levels) (λ g bytes. BlobUnder limit g bytes depth) (IsBegunUnder limit depth)
  unfolding geometry_plan
  blob_laws zero depth deep some = with_laws zero depth deep some (λ n. done none) (λ k c a. absurd (no_level k c a))
  blob_laws (suc levels) depth deep some = with_laws (suc levels) depth deep some (members_plan (geometry_plan levels))
      (λ k c a. blobs_laws (suc depth) (blob_laws levels (suc depth) (omega (arith, deep)) (omega arith)))
