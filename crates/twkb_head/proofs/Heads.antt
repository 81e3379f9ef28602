-- The laws of the plan of a header, in words of the definition of headers.
use Rattle.twkb_head.proofs.Prelude.{◌≡◌, ℕ, zero, suc, ◌+◌, ◌*◌, ◌%◌, ◌≤◌, true, List, [], ◌∷◌, ◌++◌, length, slice_index, ℤ, ◌+ℤ◌, ◌-ℤ◌, Option, Some, None, IfSome, IfNone, unwrap_or, ◌⊎◌, inl, inr, refl, sym, ap, ap₂, subst, ◌∙◌, arith, append-nil, ints, Kind, Point, LineString, Polygon, MultiPoint, MultiLineString, MultiPolygon, GeometryCollection, IsSigned, Sequence, Times, Announced, Header, IsHeader, IsByte, IsRange, axes_of, axes_with, z_in, m_in, code_of, has_bit, has_ids, Field, type_field, byte_field, number_field, IsAllowedUnder, IsFewer, IsStart, IsBegunHeader, type_due, metadata_due, extended_due, size_due, box_due, type_byte, judge, judge_kind, kind_of_code, type_plan, ranges_of, box_plan, HeadValue, kind_from, head_from, head_plan, append_assoc}
use Rattle.twkb_head.proofs.Spelling.{IsGood}
use Rattle.twkb_head.proofs.Combinators.{PlanLaws, restated, Chain, chained, BegunChain, Made, Measured, bind_laws, done_laws, measure_laws, optional_laws}
use Rattle.twkb_head.proofs.Leaves.{IsDue, IsNumber, byte_alone, leaf_laws, byte_laws, number_laws, signeds_laws}

-- ---- the numbers of a box

-- for each axis the minimum, and the maximum less the minimum
abbrev pub box_numbers : List (ℤ × ℤ) → List ℤ
box_numbers [] = []
box_numbers (range ∷ ranges) = range.0 ∷ (range.1 -ℤ range.0) ∷ box_numbers ranges

pub ranges_numbers : (ranges : List (ℤ × ℤ)) (bytes : List ℕ) → Sequence IsRange ranges bytes
    → Sequence IsSigned (box_numbers ranges) bytes
ranges_numbers [] bytes nothing = nothing
ranges_numbers (range ∷ ranges) bytes (front, rest, parts, (low, high, both, minimum, width), more) = (
  low,
  high ++ rest,
  parts ∙ ap (λ (z : List ℕ). z ++ rest) both ∙ append_assoc low high rest,
  minimum,
  (high, rest, refl, width, ranges_numbers ranges rest more),
)

pub numbers_ranges : (ranges : List (ℤ × ℤ)) (bytes : List ℕ) → Sequence IsSigned (box_numbers ranges) bytes
    → Sequence IsRange ranges bytes
numbers_ranges [] bytes nothing = nothing
numbers_ranges (range ∷ ranges) bytes (low, behind, parts, minimum, (high, rest, both, width, more)) = (
  low ++ high,
  rest,
  parts ∙ ap (λ (z : List ℕ). low ++ z) both ∙ sym (append_assoc low high rest),
  (low, high, refl, minimum, width),
  numbers_ranges ranges rest more,
)

-- kinds
pub kind_code : (k : Kind) → kind_of_code (code_of k) ≡ Some k
kind_code Point = refl
kind_code LineString = refl
kind_code Polygon = refl
kind_code MultiPoint = refl
kind_code MultiLineString = refl
kind_code MultiPolygon = refl
kind_code GeometryCollection = refl

-- a number is the code of its kind, or of none
kind_of_code-cases : (n : ℕ) → IfSome (kind_of_code n) (λ k. n ≡ code_of k) × IfNone (kind_of_code n) ((n ≡ 0) ⊎ (8 ≤ n))
kind_of_code-cases zero = (tt, inl refl)
kind_of_code-cases (suc zero) = (refl, tt)
kind_of_code-cases (suc (suc zero)) = (refl, tt)
kind_of_code-cases (suc (suc (suc zero))) = (refl, tt)
kind_of_code-cases (suc (suc (suc (suc zero)))) = (refl, tt)
kind_of_code-cases (suc (suc (suc (suc (suc zero))))) = (refl, tt)
kind_of_code-cases (suc (suc (suc (suc (suc (suc zero)))))) = (refl, tt)
kind_of_code-cases (suc (suc (suc (suc (suc (suc (suc zero))))))) = (refl, tt)
kind_of_code-cases (suc (suc (suc (suc (suc (suc (suc (suc n)))))))) = (tt, inr (omega arith))

pub code_kind : (n : ℕ) (k : Kind) → kind_of_code n ≡ Some k → n ≡ code_of k
code_kind n k e = subst (λ (o : Option Kind). IfSome o (λ k. n ≡ code_of k)) e (kind_of_code-cases n).0

pub no_kind : (n : ℕ) → kind_of_code n ≡ None → (n ≡ 0) ⊎ (8 ≤ n)
no_kind n e = subst (λ (o : Option Kind). IfNone o ((n ≡ 0) ⊎ (8 ≤ n))) e (kind_of_code-cases n).1

-- the kind is allowed with this many levels below it
abbrev pub IsAllowedWith : ℕ → Kind → Type 0
IsAllowedWith levels k = judge_kind levels (Some k) ≡ None

pub allowed_at : (limit levels depth : ℕ) (k : Kind) → depth + levels ≡ limit → 1 ≤ depth → IsAllowedWith levels k → IsAllowedUnder limit k depth
allowed_at limit zero depth GeometryCollection e d h = absurd (cc (h))
allowed_at limit (suc levels) depth GeometryCollection e d h = (d, omega arith)
allowed_at limit levels depth _ e d h = (d, omega arith)

pub allowed_with : (limit levels depth : ℕ) (k : Kind) → depth + levels ≡ limit → IsAllowedUnder limit k depth → IsAllowedWith levels k
allowed_with limit zero depth GeometryCollection e h = absurd (omega arith)
allowed_with limit (suc levels) depth GeometryCollection e h = refl
allowed_with limit zero depth _ e h = refl
allowed_with limit (suc levels) depth _ e h = refl

judged_kind : (levels : ℕ) (o : Option Kind) → judge_kind levels o ≡ None → (k : Kind) × (o ≡ Some k) × IsAllowedWith levels k
judged_kind levels None e = absurd (cc (e))
judged_kind levels (Some k) e = (k, refl, e)

kind_is : (t : ℕ) (k : Kind) → t % 16 ≡ code_of k → kind_from t ≡ k
kind_is t k code = ap (λ (o : Option Kind). unwrap_or o Point) (ap kind_of_code code ∙ kind_code k)

-- ---- the type byte
abbrev IsType : ℕ → ℕ → List ℕ → Type 0
IsType levels t bytes = (bytes ≡ t ∷ []) × (t % 16 ≡ code_of (kind_from t)) × IsAllowedWith levels (kind_from t)

type_laws : (levels : ℕ) → PlanLaws (type_plan levels) (IsType levels) (IsDue type_field)
type_laws levels = restated (leaf_laws (type_byte levels) (λ (field : List ℕ). slice_index field 0)) whole back (λ p due b. b) (λ p due b. b)
  where
    whole : (t : ℕ) (bytes : List ℕ) → IsGood (type_byte levels) bytes × (t ≡ slice_index bytes 0) → IsType levels t bytes
    whole t bytes (good, e) =
        let same = byte_alone t bytes good.0 e in
        let ok : judge_kind levels (kind_of_code (t % 16)) ≡ None = subst (λ (z : List ℕ). judge (type_byte levels) z ≡ None) same good.1 in
        let k = judged_kind levels (kind_of_code (t % 16)) ok in
        let is : k.0 ≡ kind_from t = ap (λ (o : Option Kind). unwrap_or o Point) (sym k.1) in
        (same, code_kind (t % 16) k.0 k.1 ∙ ap code_of is, subst (IsAllowedWith levels) is k.2)

    back : (t : ℕ) (bytes : List ℕ) → IsType levels t bytes → IsGood (type_byte levels) bytes × (t ≡ slice_index bytes 0)
    back t bytes (is, code, ok) = (
      ((t, is), ap (judge (type_byte levels)) is ∙ ap (judge_kind levels) (ap kind_of_code code ∙ kind_code (kind_from t)) ∙ ok),
      sym (ap (λ (z : List ℕ). slice_index z 0) is),
    )

-- ---- the box
box_back : (axes : ℕ) (zs : List ℤ) → length zs ≡ 2 * axes → (length (ranges_of zs) ≡ axes) × (box_numbers (ranges_of zs) ≡ zs)
box_back zero [] e = (refl, refl)
box_back zero (a ∷ zs) e = absurd (omega (arith, e))
box_back (suc axes) [] e = absurd (omega (arith, e))
box_back (suc axes) (a ∷ []) e = absurd (omega (arith, e))
box_back (suc axes) (a ∷ b ∷ zs) e =
    let more = box_back axes zs (omega (arith, e)) in
    let width : (a +ℤ b) -ℤ a ≡ b = omega (arith, ints) in
    (ap suc more.0, ap₂ (λ (x : ℤ) (y : List ℤ). a ∷ x ∷ y) width more.1)

box_forth : (rs : List (ℤ × ℤ)) → (length (box_numbers rs) ≡ 2 * length rs) × (ranges_of (box_numbers rs) ≡ rs)
box_forth [] = (refl, refl)
box_forth (r ∷ rs) =
    let more = box_forth rs in
    let high : r.0 +ℤ (r.1 -ℤ r.0) ≡ r.1 = omega (arith, ints) in
    (omega (arith, more.0), ap₂ (λ (x : ℤ) (y : List (ℤ × ℤ)). (r.0, x) ∷ y) high more.1)

box_laws : (axes : ℕ) → PlanLaws (box_plan axes) (Times axes IsRange) (λ p due. (zs : List ℤ) × IsFewer (2 * axes) zs p × (due ≡ number_field))
box_laws axes = restated (done_laws ranges_of (signeds_laws (2 * axes))) whole back (λ p due b. b) (λ p due b. b)
  where
    whole : (ranges : List (ℤ × ℤ)) (bytes : List ℕ) → Made ranges_of (Times (2 * axes) IsSigned) ranges bytes → Times axes IsRange ranges bytes
    whole ranges bytes (zs, e, (number, all)) =
        let there = box_back axes zs number in
        let numbers = subst (λ (zs : List ℤ). Sequence IsSigned zs bytes) (sym there.1) all in
        subst (λ (ranges : List (ℤ × ℤ)). Times axes IsRange ranges bytes) (sym e) (there.0, numbers_ranges (ranges_of zs) bytes numbers)

    back : (ranges : List (ℤ × ℤ)) (bytes : List ℕ) → Times axes IsRange ranges bytes → Made ranges_of (Times (2 * axes) IsSigned) ranges bytes
    back ranges bytes h =
        let forth = box_forth ranges in
        (box_numbers ranges, sym forth.1, (forth.0 ∙ ap (λ (n : ℕ). 2 * n) h.0, ranges_numbers ranges bytes h.1))

-- ---- the fields of a header, one after another
abbrev axes_in : Option ℕ × ℕ → ℕ
axes_in extended = axes_with (z_in extended.0) (m_in extended.0)

abbrev BehindSize : ℕ → ℕ → Option ℕ × ℕ → Option ℕ × ℕ → HeadValue → List ℕ → Type 0
BehindSize t m extended size = Made (head_from t m extended size) (Announced (has_bit m 1) (Times (axes_in extended) IsRange))

abbrev BehindExtended : ℕ → ℕ → Option ℕ × ℕ → HeadValue → List ℕ → Type 0
BehindExtended t m extended = Chain (Measured (Announced (has_bit m 2) IsNumber)) (BehindSize t m extended)

abbrev BehindMetadata : ℕ → ℕ → HeadValue → List ℕ → Type 0
BehindMetadata t m = Chain (Measured (Announced (has_bit m 8) IsByte)) (BehindExtended t m)

abbrev AreFields : ℕ → HeadValue → List ℕ → Type 0
AreFields levels = Chain (IsType levels) (λ t. Chain IsByte (BehindMetadata t))

abbrev BegunBox : ℕ → Option ℕ × ℕ → List ℕ → Field → Type 0
BegunBox m extended p due = (has_bit m 1 ≡ true) × ((zs : List ℤ) × IsFewer (2 * axes_in extended) zs p × (due ≡ number_field))

abbrev BegunMetadata : ℕ → List ℕ → Field → Type 0
BegunMetadata m = BegunChain (λ p due. (has_bit m 8 ≡ true) × IsDue byte_field p due) (Measured (Announced (has_bit m 8) IsByte))
    (λ extended. BegunChain (λ p due. (has_bit m 2 ≡ true) × IsDue number_field p due) (Measured (Announced (has_bit m 2) IsNumber)) (λ size. BegunBox m extended))

abbrev AreBegun : ℕ → List ℕ → Field → Type 0
AreBegun levels = BegunChain (IsDue type_field) (IsType levels) (λ t. BegunChain (IsDue byte_field) IsByte BegunMetadata)

fields_laws : (levels : ℕ) → PlanLaws (head_plan levels) (AreFields levels) (AreBegun levels)
fields_laws levels =
    bind_laws (type_laws levels) (λ t. bind_laws byte_laws (λ m. bind_laws (measure_laws (optional_laws (has_bit m 8) byte_laws))
    (λ extended. bind_laws (measure_laws (optional_laws (has_bit m 2) number_laws))
    (λ size. done_laws (head_from t m extended size) (optional_laws (has_bit m 1) (box_laws (axes_in extended)))))))

-- a type byte, a metadata byte, and the rest
first_two_bytes : (t m : ℕ) (bytes first behind second rest : List ℕ) → bytes ≡ first ++ behind → first ≡ t ∷ [] → behind ≡ second ++ rest → second ≡ m ∷ []
    → bytes ≡ t ∷ m ∷ rest
first_two_bytes t m bytes first behind second rest split one split_again two =
    split ∙ ap (λ (z : List ℕ). z ++ behind) one ∙ ap (λ (z : List ℕ). t ∷ z) (split_again ∙ ap (λ (z : List ℕ). z ++ rest) two)

-- ---- headers
pub record IsHead (levels : ℕ) (x : HeadValue) (bytes : List ℕ) : Type 0 where
  pub header : IsHeader x.header bytes
  pub allowed : IsAllowedWith levels x.header.kind
  pub before : x.before ≡ 2 + length header.extended_bytes
  pub size : x.size ≡ length header.size_bytes

fields_head : (levels : ℕ) (x : HeadValue) (bytes : List ℕ) → AreFields levels x bytes → IsHead levels x bytes
fields_head levels x bytes (t, (f₁, r₁, s₁, (is_t, code, ok), (m, (f₂, r₂, s₂, is_m, (extended, (eb, r₃, s₃, is_extended, (size, (sb, bb, s₄, is_size, (box, e, is_box))))))))) =
    subst (λ (x : HeadValue). IsHead levels x bytes) (sym e) (record {
      header = record {
        type_byte = t;
        metadata = m;
        extended = extended.0;
        extended_bytes = eb;
        size_bytes = sb;
        box_bytes = bb;
        fields = first_two_bytes t m bytes f₁ r₁ f₂ r₂ s₁ is_t s₂ is_m ∙ ap (λ (z : List ℕ). t ∷ m ∷ z) (s₃ ∙ ap (λ (z : List ℕ). eb ++ z) s₄);
        kind = code;
        precision = refl;
        extended_byte = is_extended.0;
        z = refl;
        m = refl;
        size = is_size.0;
        box = is_box;
        ids = refl;
        empty = refl;
      };
      allowed = ok;
      before = ap (λ (n : ℕ). 2 + n) is_extended.1;
      size = is_size.1;
    })

-- headers are equal where their fields are
header_path : (a b : Header) → a.kind ≡ b.kind → a.xy ≡ b.xy → a.z ≡ b.z → a.m ≡ b.m → a.size ≡ b.size → a.box ≡ b.box → a.ids ≡ b.ids → a.empty ≡ b.empty → a ≡ b
header_path a b k xy z m s x i e = λ j. record { kind = k j; xy = xy j; z = z j; m = m j; size = s j; box = x j; ids = i j; empty = e j }

head_path : (a b : HeadValue) → a.header ≡ b.header → a.before ≡ b.before → a.size ≡ b.size → a ≡ b
head_path a b h f s = λ j. record { header = h j; before = f j; size = s j }

head_fields : (levels : ℕ) (x : HeadValue) (bytes : List ℕ) → IsHead levels x bytes → AreFields levels x bytes
head_fields levels x bytes ok =
    let t = h.type_byte in
    let m = h.metadata in
    let extended : Option ℕ × ℕ = (h.extended, length h.extended_bytes) in
    let size : Option ℕ × ℕ = (x.header.size, length h.size_bytes) in
    let axes : axes_of x.header ≡ axes_in extended = ap₂ axes_with h.z h.m in
    let kinds : x.header.kind ≡ kind_from t = sym (kind_is t x.header.kind h.kind) in
    let is : x ≡ head_from t m extended size x.header.box = head_path x (head_from t m extended size x.header.box)
    (header_path x.header (head_from t m extended size x.header.box).header kinds h.precision h.z h.m refl refl (h.ids ∙ ap (λ (k : Kind). has_ids k m) kinds) h.empty)
    ok.before ok.size in
    let box = subst (λ (n : ℕ). Announced (has_bit m 1) (Times n IsRange) x.header.box h.box_bytes) axes h.box in
    chained t (t ∷ []) (m ∷ (h.extended_bytes ++ (h.size_bytes ++ h.box_bytes))) h.fields (refl, h.kind ∙ ap code_of kinds, subst (IsAllowedWith levels) kinds ok.allowed)
    (chained m (m ∷ []) (h.extended_bytes ++ (h.size_bytes ++ h.box_bytes)) refl refl
    (chained extended h.extended_bytes (h.size_bytes ++ h.box_bytes) refl (h.extended_byte, refl)
    (chained size h.size_bytes h.box_bytes refl (h.size, refl) (x.header.box, is, box))))
  where
    h : IsHeader x.header bytes
    h = ok.header

module _ (limit levels depth : ℕ) (deep : depth + levels ≡ limit) (some : 1 ≤ depth) where
  start_of : (t : ℕ) (bytes : List ℕ) → IsType levels t bytes → IsStart limit depth t
  start_of t bytes (is, code, ok) = record { kind = kind_from t; code = code; allowed = allowed_at limit levels depth (kind_from t) deep some ok }

  type_of : (t : ℕ) → IsStart limit depth t → IsType levels t (t ∷ [])
  type_of t start =
      let kinds : start.kind ≡ kind_from t = sym (kind_is t start.kind start.code) in
      (refl, start.code ∙ ap code_of kinds, subst (IsAllowedWith levels) kinds (allowed_with limit levels depth start.kind deep start.allowed))

  begun : (p : List ℕ) (due : Field) → AreBegun levels p due → IsBegunHeader limit depth p due
  begun p due (inl (nil, is)) = type_due nil is
  begun p due (inr (t, (f₁, r₁, s₁, type, inl (nil, is)))) =
      metadata_due t (start_of t f₁ type) (s₁ ∙ ap (λ (z : List ℕ). z ++ r₁) type.0 ∙ ap (λ (z : List ℕ). t ∷ z) nil) is
  begun p due (inr (t, (f₁, r₁, s₁, type, inr (m, (f₂, r₂, s₂, is_m, inl (has, (nil, is))))))) =
      extended_due t m (start_of t f₁ type) has (first_two_bytes t m p f₁ r₁ f₂ r₂ s₁ type.0 s₂ is_m ∙ ap (λ (z : List ℕ). t ∷ m ∷ z) nil) is
  begun p due (inr (t, (f₁, r₁, s₁, type, inr (m, (f₂, r₂, s₂, is_m, inr (extended, (eb, r₃, s₃, is_extended, inl (has, (nil, is))))))))) =
      size_due t m extended.0 eb (start_of t f₁ type) is_extended.0 has
      (first_two_bytes t m p f₁ r₁ f₂ r₂ s₁ type.0 s₂ is_m ∙ ap (λ (z : List ℕ). t ∷ m ∷ z) (s₃ ∙ ap (λ (z : List ℕ). eb ++ z) nil ∙ append-nil eb)) is
  begun p due (inr (t, (f₁, r₁, s₁, type, inr (m, (f₂, r₂, s₂, is_m, inr (extended, (eb, r₃, s₃, is_extended, inr (size, (sb, box, s₄, is_size, (has, (zs, few, is))))))))))) =
      box_due t m extended.0 size.0 eb sb box zs (start_of t f₁ type) is_extended.0 is_size.0 has few
      (first_two_bytes t m p f₁ r₁ f₂ r₂ s₁ type.0 s₂ is_m ∙ ap (λ (z : List ℕ). t ∷ m ∷ z) (s₃ ∙ ap (λ (z : List ℕ). eb ++ z) s₄)) is

  begun_back : (p : List ℕ) (due : Field) → IsBegunHeader limit depth p due → AreBegun levels p due
  begun_back p due (type_due nil is) = inl (nil, is)
  begun_back p due (metadata_due t start split is) = inr (chained t (t ∷ []) [] split (type_of t start) (inl (refl, is)))
  begun_back p due (extended_due t m start has split is) =
      inr (chained t (t ∷ []) (m ∷ []) split (type_of t start) (inr (chained m (m ∷ []) [] refl refl (inl (has, (refl, is))))))
  begun_back p due (size_due t m extended eb start is_extended has split is) =
      inr (chained t (t ∷ []) (m ∷ eb) split (type_of t start) (inr (chained m (m ∷ []) eb refl refl
      (inr (chained (extended, length eb) eb [] (sym (append-nil eb)) (is_extended, refl) (inl (has, (refl, is))))))))
  begun_back p due (box_due t m extended size eb sb box zs start is_extended is_size has few split is) =
      inr (chained t (t ∷ []) (m ∷ (eb ++ (sb ++ box))) split (type_of t start) (inr (chained m (m ∷ []) (eb ++ (sb ++ box)) refl refl
      (inr (chained (extended, length eb) eb (sb ++ box) refl (is_extended, refl)
      (inr (chained (size, length sb) sb box refl (is_size, refl) (has, (zs, few, is)))))))))

  pub head_laws : PlanLaws (head_plan levels) (IsHead levels) (IsBegunHeader limit depth)
  head_laws = restated (fields_laws levels) (fields_head levels) (head_fields levels) begun begun_back
