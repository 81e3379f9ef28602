-- Devices of proofs: nothing public names them.
-- Varints in the lanes of vectors.
use Rattle.std.specs.Prelude.{◌≡◌, ℕ, zero, suc, ◌+◌, ◌*◌, ◌/◌, ◌%◌, ◌^◌, ◌<◌, ◌≤◌, if◌then◌else◌, nat_lt, nat_eq, List, [], ◌∷◌, slice_index, ◌⊎◌}

-- the byte at a place of sixteen, or zero at a place from 128 on
abbrev pub byte_or_zero : List ℕ → ℕ → ℕ
byte_or_zero bytes place = if nat_lt place 128 then slice_index bytes (place % 16) else 0

-- the i-th byte of a word, where the lowest is the first
abbrev pub byte_of : ℕ → ℕ → ℕ
byte_of word i = word / 256 ^ i % 256

-- the number that the low seven bits of n bytes make, from place i on, lowest group first
abbrev pub value_at : ℕ → List ℕ → ℕ → ℕ
value_at zero bytes i = 0
value_at (suc n) bytes i = slice_index bytes i % 128 + 128 * value_at n bytes (suc i)

-- k numbers (`value_at`) of n bytes each, one after another, from place i on
abbrev pub values : ℕ → ℕ → List ℕ → ℕ → List ℕ
values n zero bytes i = []
values n (suc k) bytes i = value_at n bytes i ∷ values n k bytes (i + n)

-- the lowest `many` bits are the top bits of the first `many` bytes
abbrev pub IsTops : ℕ → ℕ → List ℕ → Type 0
IsTops many tops bytes = (i : ℕ) → i < many → tops / 2 ^ i % 2 ≡ slice_index bytes i / 128

-- a length of at most eight, or 128 for numbers that are too long
abbrev pub IsFlag : ℕ → Type 0
IsFlag len = (len ≤ 8) ⊎ (len ≡ 128)

-- how many numbers of whole points with this many axes eight lanes hold
abbrev pub count_in : ℕ → ℕ
count_in axes = if nat_eq axes 3 then 6 else 8
