-- The header of a geometry, as a value, and the bytes that are it (TWKB specification, "Type & Precision" to
-- "Bounding Box").
use Rattle.std.specs.Prelude.{◌≡◌, ℕ, ◌+◌, ◌/◌, ◌%◌, ◌==◌, ◌&&◌, if◌then◌else◌, Bool, not, is_some, List, [], ◌∷◌, ◌++◌, ℤ, ◌-ℤ◌, Option, Some, None, nat_lt}
use Rattle.std.specs.Option.{option_and_then}
use Rattle.twkb_num.specs.Varint.{Spells, IsSigned, zigzag_value}
use Rattle.twkb_head.specs.declared.kinds.Kind.{Kind}
use Rattle.twkb_head.specs.declared.kinds.Kind.TheVariants.{Point, LineString, Polygon, MultiPoint, MultiLineString, MultiPolygon, GeometryCollection}
use Rattle.twkb_head.specs.Parts.{Then, Times, Announced}

-- What a header says: the kind, the precisions of X and Y, of Z and of M, the size number, the box with a minimum and a
-- maximum for each axis in the order X, Y, Z, M, whether the body has ids, and whether there is no body.
pub record Header : Type 0 where
  pub kind : Kind
  pub xy : ℤ
  pub z : Option ℕ
  pub m : Option ℕ
  pub size : Option ℕ
  pub box : Option (List (ℤ × ℤ))
  pub ids : Bool
  pub empty : Bool

-- the number that names a kind in the low four bits of the type byte
abbrev pub code_of : Kind → ℕ
code_of Point = 1
code_of LineString = 2
code_of Polygon = 3
code_of MultiPoint = 4
code_of MultiLineString = 5
code_of MultiPolygon = 6
code_of GeometryCollection = 7

-- the kinds that have a list of members: types 4 to 7
abbrev pub is_multi : Kind → Bool
is_multi kind = nat_lt 3 (code_of kind)

-- how many coordinates a point has, by the precisions of Z and M: X, Y, and each of Z and M that is there
abbrev pub axes_with : Option ℕ → Option ℕ → ℕ
axes_with z m = 2 + (if is_some z then 1 else 0) + (if is_some m then 1 else 0)

-- how many coordinates a point under the header has
abbrev pub axes_of : Header → ℕ
axes_of h = axes_with h.z h.m

-- whether a bit of a byte is set; the bit is named by its value, such as 1, 2, 4, 8
abbrev pub has_bit : ℕ → ℕ → Bool
has_bit byte value = byte / value % 2 == 1

-- the bytes are this one byte
abbrev pub IsByte : ℕ → List ℕ → Type 0
IsByte b bytes = bytes ≡ b ∷ []

-- the precision of Z that the extended dimensions byte states, if there is one and it has a Z
abbrev pub z_in : Option ℕ → Option ℕ
z_in extended = option_and_then (λ e. if has_bit e 1 then Some (e / 4 % 8) else None) extended

-- the precision of M that the extended dimensions byte states, if there is one and it has an M
abbrev pub m_in : Option ℕ → Option ℕ
m_in extended = option_and_then (λ e. if has_bit e 2 then Some (e / 32) else None) extended

-- the range of a box in an axis: the minimum, and then the width (maximum minus minimum)
abbrev pub IsRange : ℤ × ℤ → List ℕ → Type 0
IsRange range = Then (IsSigned range.0) (IsSigned (range.1 -ℤ range.0))

-- whether the body has ids: the geometry isn't empty, it has a list of members, and the metadata byte says so
abbrev pub has_ids : Kind → ℕ → Bool
has_ids kind metadata = not (has_bit metadata 16) && (is_multi kind && has_bit metadata 4)

-- The bytes are the fields of the header, in order. The bits of the metadata byte are 1 for a box, 2 for a size, 4 for
-- ids, 8 for extended dimensions and 16 for an empty geometry; bits that mean nothing are free.
pub record IsHeader (h : Header) (bytes : List ℕ) : Type 0 where
  pub type_byte : ℕ
  pub metadata : ℕ
  pub extended : Option ℕ
  pub extended_bytes : List ℕ
  pub size_bytes : List ℕ
  pub box_bytes : List ℕ
  pub fields : bytes ≡ type_byte ∷ metadata ∷ (extended_bytes ++ (size_bytes ++ box_bytes))
  pub kind : type_byte % 16 ≡ code_of h.kind
  pub precision : h.xy ≡ zigzag_value (type_byte / 16)
  pub extended_byte : Announced (has_bit metadata 8) IsByte extended extended_bytes
  pub z : h.z ≡ z_in extended
  pub m : h.m ≡ m_in extended
  pub size : Announced (has_bit metadata 2) (λ n field. Spells field n) h.size size_bytes
  pub box : Announced (has_bit metadata 1) (Times (axes_of h) IsRange) h.box box_bytes
  pub ids : h.ids ≡ has_ids h.kind metadata
  pub empty : h.empty ≡ has_bit metadata 16
