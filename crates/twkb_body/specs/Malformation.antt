-- Why bytes are no blob, and where.
use Rattle.std.specs.Prelude.{◌≡◌, ℕ, ◌+◌, ◌%◌, ◌≤◌, List, [], ◌∷◌, ◌++◌, length, ◌⊎◌}
use Rattle.twkb_num.specs.Varint.{Spells, IsCut, IsLong}
use Rattle.twkb_head.specs.BegunHeader.{Field, type_field, byte_field, number_field, coordinate_field}
use Rattle.twkb_head.specs.Refusal.{StartsWith}
use Rattle.twkb_body.specs.Geometry.{Geometry}
use Rattle.twkb_body.specs.Encoding.{Blob}
use Rattle.twkb_body.specs.Begun.{IsBegun, IsViable}
use Rattle.twkb_head.specs.declared.refusal.Why.{Why}
use Rattle.twkb_head.specs.declared.refusal.Why.TheVariants.{Cut, Varint, Kind, Depth, Range}
use Rattle.twkb_head.specs.declared.refusal.Malformed.{Malformed}

-- no prefix of the bytes is a blob
abbrev pub BeginsWithNoBlob : List ℕ → Type 0
BeginsWithNoBlob bytes = (g : Geometry) (front behind : List ℕ) → bytes ≡ front ++ behind → Blob g front 1 → ⊥

-- how the field of this kind that begins at f, after p, is wrong
abbrev pub IsWrong : Why → Field → List ℕ → List ℕ → Type 0
IsWrong Cut type_field p f = f ≡ []
IsWrong Cut byte_field p f = f ≡ []
IsWrong Cut number_field p f = IsCut f
IsWrong Cut coordinate_field p f = IsCut f
IsWrong Varint number_field p f = IsLong f
IsWrong Varint coordinate_field p f = IsLong f
IsWrong Kind type_field p f = StartsWith f (λ b. (b % 16 ≡ 0) ⊎ (8 ≤ b % 16))
IsWrong Depth type_field p f = StartsWith f (λ b. (b % 16 ≡ 7) × (IsViable (p ++ b ∷ []) → ⊥))
IsWrong Range coordinate_field p f =
    (front behind : List ℕ) × (n : ℕ) × (f ≡ front ++ behind) × Spells front n × (IsViable (p ++ front) → ⊥)
IsWrong _ _ p f = ⊥

-- a kind of field is due after p, and the field that begins at f is wrong
abbrev pub IsFaultAt : Why → List ℕ → List ℕ → Type 0
IsFaultAt why p f = (due : Field) × IsBegun 1 p due × IsWrong why due p f

-- The bytes from start on begin with no blob: up to the offset a blob is begun, and the field at the offset is wrong.
pub record IsMalformed (m : Malformed) (start : ℕ) (bytes : List ℕ) : Type 0 where
  pub p : List ℕ
  pub f : List ℕ
  pub split : bytes ≡ p ++ f
  pub no_blob : BeginsWithNoBlob bytes
  pub fault : IsFaultAt m.why p f
  pub offset : m.offset ≡ start + length p
