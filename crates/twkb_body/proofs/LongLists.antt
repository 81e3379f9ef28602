-- Bytes that end right after an id of a list are a geometry begun.
use Rattle.twkb_body.proofs.Prelude.{◌≡◌, ℕ, zero, suc, ◌<◌, ◌≤◌, Bool, true, false, List, [], ◌∷◌, ◌++◌, ℤ, Some, inl, inr, refl, sym, ap, subst, ◌∙◌, arith, ◌&&◌, cases_eq, append-nil, Spells, IsSigned, Kind, Point, LineString, Polygon, MultiPoint, MultiLineString, MultiPolygon, GeometryCollection, Times, Announced, Header, IsHeader, axes_of, has_bit, is_multi, is_collection, IsAllowedAt, Field, type_field, number_field, coordinate_field, type_due, PointValue, none, BlobsUnder, count_due, id_due, member_due, IsBegunPart, IsBegunNumbers, IsBegun, header_begun, shape_begun, members_begun, member_begun, SumsFit, EndsInIds, own_ids, member_ids}
use Rattle.std.proofs.Common.{◌⊎◌}
use Rattle.std.specs.Prelude.{not}

-- ids are announced only where a body begins with a count
announced : (empty multi there : Bool) → (not empty && (multi && there)) ≡ true → (empty ≡ false) × (multi ≡ true)
announced true multi there e = absurd (cc (e))
announced false false there e = absurd (cc (e))
announced false true there e = (refl, refl)

header_announces : (h : Header) (head : List ℕ) → IsHeader h head → h.ids ≡ true → (h.empty ≡ false) × (is_multi h.kind ≡ true)
header_announces h head is e =
    let t = announced (has_bit is.metadata 16) (is_multi h.kind) (has_bit is.metadata 4) (sym is.ids ∙ e) in
    (is.empty ∙ t.0, t.1)

no_sums : SumsFit []
no_sums i axis point z e h = absurd (cc (e))

no_number : SumsFit ([] ∷ [])
no_number zero axis point z e h = absurd (cc (e, h))
no_number (suc i) axis point z e h = absurd (cc (e))

-- a part of which no byte is read
record NoByteOf (kind : Kind) (axes : ℕ) : Type 0 where
  last : List PointValue
  due : Field
  begun : IsBegunPart kind axes last [] due
  fit : SumsFit last

part_begun : (kind : Kind) (axes : ℕ) → 0 < axes → is_multi kind ≡ true → is_collection kind ≡ false → NoByteOf kind axes
part_begun MultiPoint axes some m c = record { last = [] ∷ []; due = coordinate_field; begun = ([], refl, (some, refl), refl); fit = no_number }
part_begun MultiLineString axes some m c = record { last = []; due = number_field; begun = count_due refl refl refl; fit = no_sums }
part_begun MultiPolygon axes some m c = record { last = []; due = number_field; begun = count_due refl refl refl; fit = no_sums }
part_begun Point axes some m c = absurd (cc (m))
part_begun LineString axes some m c = absurd (cc (m))
part_begun Polygon axes some m c = absurd (cc (m))
part_begun GeometryCollection axes some m c = absurd (cc (c))

module _ (many : ℕ) (positive : 0 < many) (depth : ℕ) (p : List ℕ) (h : Header) (n : ℕ) (head count id_list : List ℕ) (ids : List ℤ) (is : IsHeader h head)
    (allowed : IsAllowedAt h.kind depth) (has : h.ids ≡ true) (spells : Spells count n) (times : Times many IsSigned ids id_list) (parts : p ≡ head ++ (count ++ id_list)) where
  not_empty : h.empty ≡ false
  not_empty = (header_announces h head is has).0

  multi : is_multi h.kind ≡ true
  multi = (header_announces h head is has).1

  -- more ids are due
  more_ids : many < n → (single : Bool) → is_collection h.kind ≡ single → (due : Field) × IsBegun depth p due
  more_ids lt false single = (
    number_field,
    shape_begun depth p number_field h head (count ++ id_list) [] is allowed not_empty single
        (subst (λ (m : Bool). IsBegunNumbers m h [] (count ++ id_list) number_field) (sym multi) (id_due n count id_list ids has spells (omega (arith, lt, times.0), times.1) refl refl refl)) no_sums parts,
  )
  more_ids lt true single =
      (number_field, members_begun depth p number_field h head (count ++ id_list) is allowed not_empty single (id_due n count id_list ids has spells (omega (arith, lt, times.0), times.1) refl refl refl) parts)

  ids_stand : many ≡ n → Announced h.ids (Times n IsSigned) (Some ids) id_list
  ids_stand e = subst (λ (b : Bool). Announced b (Times n IsSigned) (Some ids) id_list) (sym has) (ids, refl, subst (λ (k : ℕ). Times k IsSigned ids id_list) e times)

  -- all ids are there, and the first member is due
  last_id : many ≡ n → (single : Bool) → is_collection h.kind ≡ single → (due : Field) × IsBegun depth p due
  unfolding BlobsUnder
  last_id e false single =
      let part = part_begun h.kind (axes_of h) (omega arith) multi single in
      let nothing : count ++ id_list ≡ count ++ (id_list ++ ([] ++ [])) = ap (λ (z : List ℕ). count ++ z) (sym (append-nil id_list)) in (
        part.due,
        shape_begun depth p part.due h head (count ++ id_list) part.last is allowed not_empty single
            (subst (λ (m : Bool). IsBegunNumbers m h part.last (count ++ id_list) part.due) (sym multi)
            (member_due n count id_list [] [] (Some ids) [] part.last spells (ids_stand e) (omega (arith, e, positive)) refl part.begun refl nothing)) part.fit parts,
      )
  last_id e true single =
      let nothing : count ++ id_list ≡ count ++ (id_list ++ ([] ++ [])) = ap (λ (z : List ℕ). count ++ z) (sym (append-nil id_list)) in (
        type_field,
        member_begun depth p type_field h n head count id_list [] [] (Some ids) none is allowed not_empty single spells (ids_stand e) (omega (arith, e, positive)) refl
            (header_begun (suc depth) [] type_field (type_due refl refl)) (parts ∙ ap (λ (z : List ℕ). head ++ z) nothing),
      )

  own_begun : many ≤ n → (due : Field) × IsBegun depth p due
  own_begun le = go (cases_eq many n)
    where
      go : (many ≡ n) ⊎ (many ≡ n → ⊥) → (due : Field) × IsBegun depth p due
      go (inl e) = last_id e (is_collection h.kind) refl
      go (inr e) = more_ids (omega (arith, le, e)) (is_collection h.kind) refl

pub ids_begun : (many : ℕ) → 0 < many → (depth : ℕ) (p : List ℕ) → EndsInIds many depth p → (due : Field) × IsBegun depth p due
ids_begun many positive depth p (own_ids _ _ h n head count id_list ids is allowed has spells le times parts) =
    own_begun many positive depth p h n head count id_list ids is allowed has spells times parts le
ids_begun many positive depth p (member_ids _ _ h n head count id_list wholes rest ids gs is allowed not_empty single spells has few whole ends parts) =
    let t = ids_begun many positive (suc depth) rest ends in
    (t.0, member_begun depth p t.0 h n head count id_list wholes rest ids gs is allowed not_empty single spells has few whole t.1 parts)
