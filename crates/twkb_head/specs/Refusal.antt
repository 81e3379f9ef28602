-- Why no header begins at a place: the first field that can't follow, and how many bytes showed it.
use Rattle.std.specs.Prelude.{◌≡◌, ℕ, ◌+◌, ◌-◌, ◌%◌, ◌≤◌, List, [], ◌∷◌, ◌++◌, length, drop, ◌⊎◌}
use Rattle.twkb_num.specs.Cursor.{Reading}
use Rattle.twkb_num.specs.declared.varint.NumFault.{NumFault}
use Rattle.twkb_num.specs.declared.varint.NumFault.TheVariants.{Cut as TooShort, Long}
use Rattle.twkb_num.specs.Varint.{IsCut, IsLong}
use Rattle.twkb_head.specs.declared.kinds.Kind.TheVariants.{GeometryCollection}
use Rattle.twkb_head.specs.declared.refusal.Why.{Why}
use Rattle.twkb_head.specs.declared.refusal.Why.TheVariants.{Cut, Varint, Kind, Depth, Range}
use Rattle.twkb_head.specs.declared.refusal.Malformed.{Malformed}
use Rattle.twkb_head.specs.BegunHeader.{Field, type_field, byte_field, number_field, IsAllowedUnder, IsBegunHeader, deepest}

-- there is a first byte, and P holds of it
abbrev pub StartsWith : List ℕ → (ℕ → Type 0) → Type 0
StartsWith f P = (b : ℕ) × (behind : List ℕ) × (f ≡ b ∷ behind) × P b

-- a field of this kind is due where the bytes f begin, and it is wrong in this way: the end cuts the field short, a
-- number passes 64 bits, the type byte names no type, or a collection is too deep
abbrev pub IsWrongField : ℕ → ℕ → Why → Field → List ℕ → Type 0
IsWrongField limit depth Cut type_field f = f ≡ []
IsWrongField limit depth Cut byte_field f = f ≡ []
IsWrongField limit depth Cut number_field f = IsCut f
IsWrongField limit depth Varint number_field f = IsLong f
IsWrongField limit depth Kind type_field f = StartsWith f (λ b. (b % 16 ≡ 0) ⊎ (8 ≤ b % 16))
IsWrongField limit depth Depth type_field f =
    StartsWith f (λ b. (b % 16 ≡ 7) × (IsAllowedUnder limit GeometryCollection depth → ⊥))
IsWrongField _ _ _ _ f = ⊥

-- the bytes, the first of which is at start, begin a header, and the field that is due next, at the offset, is wrong
pub record IsRefusedHead (m : Malformed) (depth start : ℕ) (bytes : List ℕ) : Type 0 where
  pub p : List ℕ
  pub f : List ℕ
  pub due : Field
  pub split : bytes ≡ p ++ f
  pub begun : IsBegunHeader deepest depth p due
  pub wrong : IsWrongField deepest depth m.why due f
  pub offset : m.offset ≡ start + length p

-- how many bytes of a wrong field are looked at
abbrev pub looked_at_field : Why → List ℕ → ℕ
looked_at_field Cut f = length f
looked_at_field Varint f = 10
looked_at_field Kind f = 1
looked_at_field Depth f = 1
looked_at_field Range f = 0

-- how many bytes are looked at from the place of a reading until it is refused
abbrev pub looked_at_until : Malformed → Reading → ℕ
looked_at_until m r = m.offset - r.place + looked_at_field m.why (drop m.offset r.bytes)

-- why a number is malformed
abbrev pub why_of : NumFault → Why
why_of TooShort = Cut
why_of Long = Varint
