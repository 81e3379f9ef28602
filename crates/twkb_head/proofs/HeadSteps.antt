-- The steps by which code reads a header, as the reader of headers takes them.
use Rattle.twkb_head.proofs.Prelude.{◌≡◌, ℕ, ◌+◌, ◌-◌, ◌/◌, ◌%◌, ◌==◌, [], ◌∷◌, length, Option, Some, None, option_map, false, ℤ, Result, Ok, Err, refl, sym, ap, ◌∙◌, arith, common_steps, Reading, passed, IsMoved, IsSound, zigzag_value, IsMoved-two, code_of, has_bit, has_ids, z_in, m_in, Answer, ◌>>=◌, viewed, number_at, optional_at, range_from, byte_at, head_with, bounds_from, head_at, size_and_box_at, rest_at, deepest, IsAllowedAt, Kind, Point, LineString, Polygon, MultiPoint, MultiLineString, MultiPolygon, GeometryCollection, Why, kind_of_code, judge_kind, Bounds, Head, RawBox, RawRange, Fields, BeginsHead, ends_of, raw_bounds, flat_box, head_said, ReadsFirstTwo, Begun, Malformed}
use Rattle.twkb_head.specs.declared.header.BoxField.{BoxField}
use Rattle.twkb_head.specs.declared.header.SizeField.{SizeField}
use Rattle.twkb_head.proofs.Heads.{allowed_with}
use Rattle.twkb_head.proofs.FieldCuts.{ok_is}
use Rattle.twkb_head.proofs.Readings.{ok_not_err}
use Rattle.twkb_head.proofs.Steps.{read_byte, type_ok, type_refused}

-- the size and the box, read one after the other
pub size_and_box_is : (c d e : Reading) (kind : Kind) (xy : ℤ) (metadata : ℕ) (extended size : Option ℕ) (bounds : Option Bounds) (start : ℕ)
    → optional_at (has_bit metadata 2) number_at c ≡ (Ok size, d) → optional_at (has_bit metadata 1) (bounds_from xy (z_in extended) (m_in extended)) d ≡ (Ok bounds, e)
    → size_and_box_at kind xy metadata start extended c ≡ (Ok (head_with kind xy metadata extended size bounds start c.place d.place e.place), e)
size_and_box_is c d e kind xy metadata extended size bounds start h4 h5 = rw (h4, h5) refl

-- once the extended dimensions byte is read, what is left of the rest is the size and the box
pub rest_goes_on : (b c : Reading) (kind : Kind) (xy : ℤ) (metadata : ℕ) (extended : Option ℕ) (start : ℕ) → optional_at (has_bit metadata 8) byte_at b ≡ (Ok extended, c)
    → rest_at kind xy metadata start b ≡ size_and_box_at kind xy metadata start extended c
unfolding rest_at
rest_goes_on b c kind xy metadata extended start h3 = rw h3 refl

-- the rest of a header after its first two bytes, read field by field
pub rest_is : (b c d e : Reading) (kind : Kind) (xy : ℤ) (metadata : ℕ) (extended size : Option ℕ) (bounds : Option Bounds) (start : ℕ)
    → optional_at (has_bit metadata 8) byte_at b ≡ (Ok extended, c)
    → optional_at (has_bit metadata 2) number_at c ≡ (Ok size, d) → optional_at (has_bit metadata 1) (bounds_from xy (z_in extended) (m_in extended)) d ≡ (Ok bounds, e)
    → rest_at kind xy metadata start b ≡ (Ok (head_with kind xy metadata extended size bounds start c.place d.place e.place), e)
rest_is b c d e kind xy metadata extended size bounds start h3 h4 h5 = rest_goes_on b c kind xy metadata extended start h3 ∙ size_and_box_is c d e kind xy metadata extended size bounds start h4 h5

-- a header from its first two bytes and the rest
pub head_of_rest : (levels : ℕ) (begun : Begun) (r b new : Reading) (answer : Result Head Malformed) → ReadsFirstTwo levels begun r b
    → rest_at begun.kind begun.xy begun.metadata begun.start b ≡ (answer, new) → head_at levels r ≡ (answer, new)
unfolding head_at rest_at
head_of_rest levels begun r b new answer has e = rw (has.type, has.byte, ← has.start) e

-- the first two bytes, in one move
module _ (levels first metadata : ℕ) (old new : Reading) (sound : IsSound old) (bytes : passed old new ≡ first ∷ metadata ∷ []) (moved : IsMoved old new) where
  way : (b : Reading) × IsMoved old b × IsMoved b new × (passed old b ≡ first ∷ []) × (passed b new ≡ metadata ∷ [])
  way = IsMoved-two old new (first ∷ []) (metadata ∷ []) moved bytes

  pub first_two_read : (kind : Kind) (xy : ℤ) (start : ℕ) → kind_of_code (first % 16) ≡ Some kind → judge_kind levels (Some kind) ≡ None → xy ≡ zigzag_value (first / 16) → start ≡ old.place
      → ReadsFirstTwo levels (record { kind = kind; xy = xy; metadata = metadata; start = start }) old new
  first_two_read kind xy start code allowed precision at =
      let type = type_ok levels old way.0 first sound (read_byte old way.0 first way.3 way.1) kind code allowed in
      record { mid = way.0; type = rw (type, code) (ap (λ (p : ℤ). (Ok (kind, p), way.0)) (sym precision)); byte = read_byte way.0 new metadata way.4 way.2; start = at }

  pub kind_stops : (why : Why) → judge_kind levels (kind_of_code (first % 16)) ≡ Some why → (m : Malformed) × (r : Reading) × (head_at levels old ≡ (Err m, r))
  unfolding head_at
  kind_stops why bad =
      let m : Malformed = record { offset = old.place; why = why } in
      let back : Reading = record way.0 { place = old.place } in
      (m, back, rw (type_refused levels old way.0 first sound (read_byte old way.0 first way.3 way.1) why m back bad refl refl refl) refl)

-- two bytes were passed: the place is two further
pub two_back : (old new : Reading) (first metadata : ℕ) → IsMoved old new → passed old new ≡ first ∷ metadata ∷ [] → new.place ≡ old.place + 2
two_back old new first metadata moved bytes =
    let long : length (passed old new) ≡ new.place - old.place = grind (arith, common_steps, moved.within) in
    omega (arith, ap length bytes, long, moved.ahead)

-- each kind is allowed at the first depth
pub first_allowed : (kind : Kind) → IsAllowedAt kind 1
first_allowed GeometryCollection = (omega arith, omega arith)
first_allowed _ = (omega arith, omega arith)

-- metadata bytes with the same announced fields lead to the same rest
pub rest_same : (kind : Kind) (xy : ℤ) (m n start : ℕ) (b : Reading) → has_bit m 8 ≡ has_bit n 8 → has_bit m 2 ≡ has_bit n 2 → has_bit m 1 ≡ has_bit n 1 → has_bit m 16 ≡ has_bit n 16 → has_bit m 4 ≡ has_bit n 4
    → rest_at kind xy m start b ≡ rest_at kind xy n start b
unfolding rest_at
rest_same kind xy m n start b e8 e2 e1 e16 e4 = rw (e8, e2, e1, e16, e4) refl

-- a header that is allowed at the depth was begun: what is read after its first two bytes is what is read from its start
abbrev pub RestIsHead : ℕ → Begun → Reading → Reading → Type 0
RestIsHead depth begun before now = (answer : Result Head Malformed) (new : Reading) → rest_at begun.kind begun.xy begun.metadata begun.start now ≡ (answer, new)
    → head_at (deepest - depth) before ≡ (answer, new)

-- the code of a kind names this kind
kind_of_code-code_of : (n : ℕ) (k : Kind) → n ≡ code_of k → kind_of_code n ≡ Some k
kind_of_code-code_of n Point e = ap kind_of_code e
kind_of_code-code_of n LineString e = ap kind_of_code e
kind_of_code-code_of n Polygon e = ap kind_of_code e
kind_of_code-code_of n MultiPoint e = ap kind_of_code e
kind_of_code-code_of n MultiLineString e = ap kind_of_code e
kind_of_code-code_of n MultiPolygon e = ap kind_of_code e
kind_of_code-code_of n GeometryCollection e = ap kind_of_code e

pub bits_same : (m n k : ℕ) → m / k % 2 ≡ n / k % 2 → has_bit m k ≡ has_bit n k
bits_same m n k e = ap (λ (b : ℕ). b == 1) e

pub begins_goes_on : (begun : Begun) (depth : ℕ) (before now : Reading) → IsSound before → BeginsHead begun depth before now → RestIsHead depth begun before now
begins_goes_on begun depth before now sound begins answer new e =
    let t = begins.type_byte in
    let m = begins.metadata in
    let n = begun.metadata in
    let levels = deepest - depth in
    let full : depth + levels ≡ deepest = omega (arith, begins.allowed.0, begins.allowed.1) in
    let has = first_two_read levels t m before now sound begins.bytes begins.moved begun.kind begun.xy begun.start (kind_of_code-code_of (t % 16) begun.kind begins.kind) (allowed_with deepest levels depth begun.kind full begins.allowed) begins.precision begins.start in
    let eight : m / 8 % 2 ≡ n / 8 % 2 = omega (arith, begins.announced) in
    let two : m / 2 % 2 ≡ n / 2 % 2 = omega (arith, begins.announced) in
    let one : m / 1 % 2 ≡ n / 1 % 2 = omega (arith, begins.announced) in
    let sixteen : m / 16 % 2 ≡ n / 16 % 2 = omega (arith, begins.announced) in
    let four : m / 4 % 2 ≡ n / 4 % 2 = omega (arith, begins.announced) in
    head_of_rest levels (record begun { metadata = m }) before now new answer has
    (rest_same begun.kind begun.xy m n begun.start now (bits_same m n 8 eight) (bits_same m n 2 two) (bits_same m n 1 one) (bits_same m n 16 sixteen) (bits_same m n 4 four) ∙ e)

-- a box of raw integers in units, with its place
pub box_seen : (p q : ℤ) (z y m n : Option ℕ) (offset place : ℕ) → p ≡ q → z ≡ y → m ≡ n → offset ≡ place → (o : Option RawBox)
    → option_map (λ bounds. (let field : BoxField = record { bounds = bounds; offset = offset } in field)) (option_map (raw_bounds p z m) o) ≡ option_map (λ box. record { bounds = raw_bounds q y n box; offset = place }) o
box_seen p q z y m n offset place xy_is z_is m_is at None = refl
box_seen p q z y m n offset place xy_is z_is m_is at (Some box) = λ j. Some (record { bounds = raw_bounds (xy_is j) (z_is j) (m_is j) box; offset = at j })

-- the fields of a header with a size and a box in X and Y, and nothing else
abbrev pub flat_fields : Begun → SizeField → RawRange → RawRange → ℕ → Fields
flat_fields begun size x y stop = record {
  kind = begun.kind;
  axes = record { xy = begun.xy; z = None; m = None };
  size = Some size;
  bounds = Some (flat_box x y);
  box_place = size.after;
  ids = has_ids begun.kind 3;
  empty = false;
  start = begun.start;
  stop = stop;
}

-- a header with a size and a box in X and Y alone stops at a size that is wrong
pub number_stops : (begun : Begun) (b d : Reading) (m : Malformed) → begun.metadata ≡ 3 → number_at b ≡ (Err m, d) → rest_at begun.kind begun.xy begun.metadata begun.start b ≡ (Err m, d)
unfolding rest_at
number_stops begun b d m three e = rw (three, e) refl

pub x_stops : (begun : Begun) (n : ℕ) (b d e : Reading) (m : Malformed) → begun.metadata ≡ 3 → number_at b ≡ (Ok n, d) → range_from d ≡ (Err m, e) → rest_at begun.kind begun.xy begun.metadata begun.start b ≡ (Err m, e)
unfolding rest_at bounds_from
x_stops begun n b d e m three number x = rw (three, number, x) refl

pub y_stops : (begun : Begun) (n : ℕ) (x : ℤ × ℤ) (b d e f : Reading) (m : Malformed) → begun.metadata ≡ 3 → number_at b ≡ (Ok n, d) → range_from d ≡ (Ok x, e) → range_from e ≡ (Err m, f) → rest_at begun.kind begun.xy begun.metadata begun.start b ≡ (Err m, f)
unfolding rest_at bounds_from
y_stops begun n x b d e f m three number first second = rw (three, number, first, second) refl

-- the fields of a header with a size and a box in X and Y alone
pub flat_read : (begun : Begun) (size : SizeField) (x y : RawRange) (b d e f : Reading) → begun.metadata ≡ 3 → number_at b ≡ (Ok size.value, d) → size.offset ≡ b.place → size.after ≡ d.place
    → range_from d ≡ (Ok (ends_of x), e) → range_from e ≡ (Ok (ends_of y), f) → rest_at begun.kind begun.xy begun.metadata begun.start b ≡ (Ok (head_said (flat_fields begun size x y f.place)), f)
unfolding rest_at bounds_from
flat_read begun size x y b d e f three number offset after first second = rw (three, number, first, second, offset, after) refl

-- the size of a header with a size and a box in X and Y alone
pub size_said : (begun : Begun) (n : ℕ) (b d new : Reading) (head : Head) → begun.metadata ≡ 3 → number_at b ≡ (Ok n, d) → rest_at begun.kind begun.xy begun.metadata begun.start b ≡ (Ok head, new)
    → head.size ≡ Some (record { value = n; offset = b.place; after = d.place })
unfolding rest_at
size_said begun n b d new head three number e = go (bounds_from begun.xy None None d) (rw (three, number) at e)
  where
    go : (a : Answer Bounds) → (viewed Some a >>= λ bounds f. (Ok (head_with begun.kind begun.xy 3 None (Some n) bounds begun.start b.place d.place f.place), f)) ≡ (Ok head, new)
        → head.size ≡ Some (record { value = n; offset = b.place; after = d.place })
    go (Ok x, f) is = sym (ap (λ (h : Head). h.size) (ok_is {A = Head} {E = Malformed} _ _ (ap (λ (z : Answer Head). z.0) is)))
    go (Err m, f) is = absurd (ok_not_err head m new f (sym is))
