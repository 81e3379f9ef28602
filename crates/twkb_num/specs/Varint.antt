-- Varints: which bytes spell which number, what a number means by zigzag, and the two faults.
use Rattle.std.specs.Prelude.{◌≡◌, ℕ, ◌+◌, ◌-◌, ◌*◌, ◌/◌, ◌%◌, ◌^◌, ◌<◌, ◌≤◌, ◌==◌, if◌then◌else◌, ℤ, pos, neg_ℤ, ◌≤ℤ◌, ◌<ℤ◌, List, [], ◌∷◌, ◌++◌, length, slice_index}
use Rattle.twkb_num.specs.declared.varint.NumFault.{NumFault}
use Rattle.twkb_num.specs.declared.varint.NumFault.TheVariants.{Cut, Long}

-- the sum of each byte's low seven bits times 128 to the power of its place, if the first byte has place k
abbrev pub sum_of_groups : ℕ → List ℕ → ℕ
sum_of_groups k [] = 0
sum_of_groups k (b ∷ bs) = (b % 128) * 128 ^ k + sum_of_groups (k + 1) bs

-- one to ten bytes, all but the last at least 128, the last below 128, that spell the number n
pub record Spells (bytes : List ℕ) (n : ℕ) : Type 0 where
  pub some : 0 < length bytes
  pub few : length bytes ≤ 10
  pub goes_on : (k : ℕ) → k + 1 < length bytes → 128 ≤ slice_index bytes k
  pub ends : slice_index bytes (length bytes - 1) < 128
  pub value : n ≡ sum_of_groups 0 bytes
  pub fits : n < 2 ^ 64

-- fewer than ten bytes (perhaps none), all at least 128: the end cuts a varint short
pub record IsCut (bytes : List ℕ) : Type 0 where
  pub few : length bytes < 10
  pub goes_on : (k : ℕ) → k < length bytes → 128 ≤ slice_index bytes k

-- the first nine bytes are at least 128 and the tenth is above 1
pub record IsLong (bytes : List ℕ) : Type 0 where
  pub ten : 10 ≤ length bytes
  pub goes_on : (k : ℕ) → k < 9 → 128 ≤ slice_index bytes k
  pub top : 1 < slice_index bytes 9

-- the bytes begin with this fault
abbrev pub Faults : NumFault → List ℕ → Type 0
Faults Cut bytes = IsCut bytes
Faults Long bytes = IsLong bytes

-- how many bytes are looked at to find this fault: of a number cut short all that are left, of a long one ten
abbrev pub looked_at : NumFault → List ℕ → ℕ
looked_at Cut bytes = length bytes
looked_at Long bytes = 10

-- what a number means by zigzag: n/2 for an even n, else -(n+1)/2
abbrev pub zigzag_value : ℕ → ℤ
zigzag_value n = if n % 2 == 0 then pos (n / 2) else neg_ℤ (pos ((n + 1) / 2))

-- the bytes spell a number that means z by zigzag
abbrev pub IsSigned : ℤ → List ℕ → Type 0
IsSigned z bytes = (n : ℕ) × Spells bytes n × (zigzag_value n ≡ z)

-- the bytes spell these numbers, one after another
abbrev pub SpellsAll : List ℕ → List ℕ → Type 0
SpellsAll bytes [] = bytes ≡ []
SpellsAll bytes (n ∷ ns) = (front behind : List ℕ) × (bytes ≡ front ++ behind) × Spells front n × SpellsAll behind ns

-- the bytes spell numbers that mean these by zigzag, one after another
abbrev pub SpellsAllSigned : List ℕ → List ℤ → Type 0
SpellsAllSigned bytes [] = bytes ≡ []
SpellsAllSigned bytes (z ∷ zs) =
    (front behind : List ℕ) × (bytes ≡ front ++ behind) × IsSigned z front × SpellsAllSigned behind zs

-- a signed number that two bytes can spell
abbrev pub IsBrief : ℤ → Type 0
IsBrief z = (neg_ℤ (pos (2 ^ 13)) ≤ℤ z) × (z <ℤ pos (2 ^ 13))

-- a signed number that four bytes can spell
abbrev pub IsShort : ℤ → Type 0
IsShort z = (neg_ℤ (pos (2 ^ 27)) ≤ℤ z) × (z <ℤ pos (2 ^ 27))
