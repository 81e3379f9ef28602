-- Headers that are begun and not finished: which kind of field can follow a prefix.
use Rattle.std.specs.Prelude.{◌≡◌, ℕ, ◌+◌, ◌*◌, ◌%◌, ◌<◌, ◌≤◌, Bool, true, false, if◌then◌else◌, List, [], ◌∷◌, ◌++◌, length, ℤ, Option}
use Rattle.twkb_num.specs.Varint.{Spells, IsSigned}
use Rattle.twkb_head.specs.Parts.{Sequence, Announced}
use Rattle.twkb_head.specs.Header.{IsByte, axes_with, z_in, m_in, code_of, has_bit}
use Rattle.twkb_head.specs.declared.kinds.Kind.{Kind}
use Rattle.twkb_head.specs.declared.kinds.Kind.TheVariants.{GeometryCollection}

-- whether the members have headers of their own
abbrev pub is_collection : Kind → Bool
is_collection GeometryCollection = true
is_collection _ = false

-- A kind is allowed at a depth, if no geometry may be deeper than the limit. A blob has depth 1, a member of a
-- collection one more than the collection. So a collection has to be less deep than the limit.
abbrev pub IsAllowedUnder : ℕ → Kind → ℕ → Type 0
IsAllowedUnder limit kind depth = (1 ≤ depth) × (depth + (if is_collection kind then 1 else 0) ≤ limit)

-- the greatest depth of a geometry: this project's limit, whose number the definitions state only here
abbrev pub deepest : ℕ
deepest = 64

-- a kind is allowed at a depth under this project's limit
abbrev pub IsAllowedAt : Kind → ℕ → Type 0
IsAllowedAt = IsAllowedUnder deepest

-- the kinds of fields: a type byte, a metadata or extended dimensions byte, a coordinate, and any other number
pub data Field : Type 0 where
  type_field : Field
  byte_field : Field
  number_field : Field
  coordinate_field : Field

-- the bytes are one field of the kind
abbrev pub IsField : Field → List ℕ → Type 0
IsField type_field bytes = (b : ℕ) × (bytes ≡ b ∷ [])
IsField byte_field bytes = (b : ℕ) × (bytes ≡ b ∷ [])
IsField number_field bytes = (n : ℕ) × Spells bytes n
IsField coordinate_field bytes = (n : ℕ) × Spells bytes n

-- a type byte of a kind that is allowed at the depth under the limit
pub record IsStart (limit depth type_byte : ℕ) : Type 0 where
  pub kind : Kind
  pub code : type_byte % 16 ≡ code_of kind
  pub allowed : IsAllowedUnder limit kind depth

-- signed numbers, fewer than n
abbrev pub IsFewer : ℕ → List ℤ → List ℕ → Type 0
IsFewer n numbers bytes = (length numbers < n) × Sequence IsSigned numbers bytes

-- the bytes p are the first fields of a header, not all, and a field of this kind is due after them
pub data IsBegunHeader (limit depth : ℕ) (p : List ℕ) (due : Field) : Type 0 where
  type_due : p ≡ [] → due ≡ type_field → IsBegunHeader limit depth p due
  metadata_due : (t : ℕ) → IsStart limit depth t → p ≡ t ∷ [] → due ≡ byte_field → IsBegunHeader limit depth p due
  extended_due : (t metadata : ℕ) → IsStart limit depth t → has_bit metadata 8 ≡ true → p ≡ t ∷ metadata ∷ []
      → due ≡ byte_field → IsBegunHeader limit depth p due
  size_due : (t metadata : ℕ) (extended : Option ℕ) (extended_bytes : List ℕ) → IsStart limit depth t
      → Announced (has_bit metadata 8) IsByte extended extended_bytes → has_bit metadata 2 ≡ true
      → p ≡ t ∷ metadata ∷ extended_bytes → due ≡ number_field → IsBegunHeader limit depth p due
  box_due : (t metadata : ℕ) (extended size : Option ℕ) (extended_bytes size_bytes box : List ℕ) (numbers : List ℤ)
      → IsStart limit depth t → Announced (has_bit metadata 8) IsByte extended extended_bytes
      → Announced (has_bit metadata 2) (λ n field. Spells field n) size size_bytes → has_bit metadata 1 ≡ true
      → IsFewer (2 * axes_with (z_in extended) (m_in extended)) numbers box
      → p ≡ t ∷ metadata ∷ (extended_bytes ++ (size_bytes ++ box)) → due ≡ number_field
      → IsBegunHeader limit depth p due
