-- Shared between crates: private contracts alone name them, here and in crates above.
-- Plans: a plan of fields says which field is asked for next, and how reading goes on after the bytes of that field.
use Rattle.std.specs.Prelude.{ℕ, zero, suc, ◌+◌, ◌%◌, ◌^◌, nat_lt, cond, Bool, true, false, List, [], ◌∷◌, length, slice_index, ℤ, pos, negsuc, ◌+ℤ◌, Option, Some, None, Result, Ok, Err}
use Rattle.twkb_num.specs.Varint.{sum_of_groups, zigzag_value}
use Rattle.twkb_head.specs.declared.kinds.Kind.{Kind}
use Rattle.twkb_head.specs.declared.kinds.Kind.TheVariants.{Point, LineString, Polygon, MultiPoint, MultiLineString, MultiPolygon, GeometryCollection}
use Rattle.twkb_head.specs.declared.refusal.Why.{Why}
use Rattle.twkb_head.specs.declared.refusal.Why.TheVariants.{Cut, Varint, Kind as BadKind, Depth, Range}
use Rattle.twkb_head.specs.BegunHeader.{Field, type_field, byte_field, number_field, coordinate_field}

-- what is asked for: a type byte with a number of levels below it, a byte, a number, or a coordinate as the difference to
-- the one before
pub data Request : Type 0 where
  type_byte : ℕ → Request
  byte : Request
  number : Request
  coordinate : ℤ → Request

-- the kind of field that is asked for
abbrev pub field_of : Request → Field
field_of (type_byte levels) = type_field
field_of byte = byte_field
field_of number = number_field
field_of (coordinate c) = coordinate_field

-- a result with one more byte in front of the bytes that were cut off
abbrev pub push_byte : ℕ → Result (List ℕ × List ℕ) Why → Result (List ℕ × List ℕ) Why
push_byte b (Ok x) = Ok (b ∷ x.0, x.1)
push_byte b (Err w) = Err w

-- a varint at the front, of at most room + 1 bytes, and the bytes after it
abbrev pub cut_varint : ℕ → List ℕ → Result (List ℕ × List ℕ) Why
cut_varint room [] = Err Cut
cut_varint zero (b ∷ bs) = cond (nat_lt b 2) (Ok (b ∷ [], bs)) (Err Varint)
cut_varint (suc room) (b ∷ bs) = cond (nat_lt b 128) (Ok (b ∷ [], bs)) (push_byte b (cut_varint room bs))

-- a byte at the front, and the bytes after it
abbrev pub cut_byte : List ℕ → Result (List ℕ × List ℕ) Why
cut_byte [] = Err Cut
cut_byte (b ∷ bs) = Ok (b ∷ [], bs)

-- a field of the kind at the front, and the bytes after it
abbrev pub cut_field : Field → List ℕ → Result (List ℕ × List ℕ) Why
cut_field type_field bytes = cut_byte bytes
cut_field byte_field bytes = cut_byte bytes
cut_field number_field bytes = cut_varint 9 bytes
cut_field coordinate_field bytes = cut_varint 9 bytes

-- the kind that a number names
abbrev pub kind_of_code : ℕ → Option Kind
kind_of_code (suc zero) = Some Point
kind_of_code (suc (suc zero)) = Some LineString
kind_of_code (suc (suc (suc zero))) = Some Polygon
kind_of_code (suc (suc (suc (suc zero)))) = Some MultiPoint
kind_of_code (suc (suc (suc (suc (suc zero))))) = Some MultiLineString
kind_of_code (suc (suc (suc (suc (suc (suc zero)))))) = Some MultiPolygon
kind_of_code (suc (suc (suc (suc (suc (suc (suc zero))))))) = Some GeometryCollection
kind_of_code _ = None

-- what is wrong with a kind that has this many levels below it
abbrev pub judge_kind : ℕ → Option Kind → Option Why
judge_kind levels None = Some BadKind
judge_kind zero (Some GeometryCollection) = Some Depth
judge_kind levels (Some kind) = None

-- whether a coordinate fits 64 bits
abbrev pub fits : ℤ → Bool
fits (pos n) = nat_lt n (2 ^ 63)
fits (negsuc n) = nat_lt n (2 ^ 63)

-- what is wrong with a field whose bytes are all there
abbrev pub judge : Request → List ℕ → Option Why
judge (type_byte levels) [] = None
judge (type_byte levels) (t ∷ rest) = judge_kind levels (kind_of_code (t % 16))
judge byte field = None
judge number field = None
judge (coordinate c) field = cond (fits (c +ℤ zigzag_value (sum_of_groups 0 field))) None (Some Range)

-- a plan that gives a value: it is done, or asks for a field and goes on by its bytes
pub data Plan (A : Type 0) : Type 0 where
  done : A → Plan A
  ask : Request → (List ℕ → Plan A) → Plan A

-- one plan, and then another that may depend on its value
abbrev pub bind : {A B : Type 0} → Plan A → (A → Plan B) → Plan B
bind (done x) k = k x
bind (ask r next) k = ask r (λ front. bind (next front) k)

-- n values, one after another, each in the state that the values before it leave
abbrev pub many : {A S : Type 0} → ℕ → (S → A → S) → (S → Plan A) → S → Plan (List A)
many zero after plan s = done []
many (suc n) after plan s = bind (plan s) (λ x. bind (many n after plan (after s x)) (λ xs. done (x ∷ xs)))

-- the value of a plan, and n plus the number of bytes that it is read from
abbrev pub measure : {A : Type 0} → ℕ → Plan A → Plan (A × ℕ)
measure n (done x) = done (x, n)
measure n (ask r next) = ask r (λ front. measure (n + length front) (next front))

-- a value that is read where it is announced
abbrev pub optional : {A : Type 0} → Bool → Plan A → Plan (Option A)
optional false plan = done None
optional true plan = bind plan (λ x. done (Some x))

-- a type byte, with this many levels below it
abbrev pub type_plan : ℕ → Plan ℕ
type_plan levels = ask (type_byte levels) (λ field. done (slice_index field 0))

-- a byte
abbrev pub byte_plan : Plan ℕ
byte_plan = ask byte (λ field. done (slice_index field 0))

-- a number
abbrev pub number_plan : Plan ℕ
number_plan = ask number (λ field. done (sum_of_groups 0 field))

-- a signed number
abbrev pub signed_plan : Plan ℤ
signed_plan = ask number (λ field. done (zigzag_value (sum_of_groups 0 field)))

-- n signed numbers
abbrev pub signeds_plan : ℕ → Plan (List ℤ)
signeds_plan n = many n (λ s z. s) (λ s. signed_plan) (pos 0)

-- a coordinate, spelled as the difference to the one before it
abbrev pub coordinate_plan : ℤ → Plan ℤ
coordinate_plan before = ask (coordinate before) (λ field. done (zigzag_value (sum_of_groups 0 field)))
