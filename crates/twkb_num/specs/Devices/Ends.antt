-- Devices of proofs: nothing public names them.
-- Where the varints at the front of bytes end.
use Rattle.std.specs.Prelude.{◌≡◌, ◌+◌, ◌-◌, ◌*◌, ◌/◌, ◌<◌, ◌≤◌, ℕ, zero, suc, List, length, take, slice_index}
use Rattle.twkb_num.specs.Varint.{SpellsAll}

-- 1 for a byte below 128, which ends a varint, else 0
abbrev pub ended : List ℕ → ℕ → ℕ
ended bytes k = (255 - slice_index bytes k) / 128

-- how many of the bytes before this place end a varint
abbrev pub ends_to : List ℕ → ℕ → ℕ
ends_to bytes zero = 0
ends_to bytes (suc k) = ends_to bytes k + ended bytes k

-- four numbers as one, each in a byte, from the i-th on, which is lowest
abbrev pub four_bytes : (ℕ → ℕ) → ℕ → ℕ
four_bytes f i = (f (i + 3) * 256 + f (i + 2)) * 65536 + (f (i + 1) * 256 + f i)

-- eight numbers as one, each in a byte, the first of them lowest
abbrev pub eight_bytes : (ℕ → ℕ) → ℕ
eight_bytes f = four_bytes f 4 * 4294967296 + four_bytes f 0

-- the n-th byte that ends a varint is the last of the first `many` bytes, and `many` is at most 8
pub record IsEnd (bytes : List ℕ) (n many : ℕ) : Type 0 where
  pub some : 1 ≤ many
  pub few : many ≤ 8
  pub ends : ended bytes (many - 1) ≡ 1
  pub count : ends_to bytes many ≡ n

-- this is how many bytes there are up to the last that ends a varint, or 0 if none does
pub record IsLastEnd (bytes : List ℕ) (size : ℕ) : Type 0 where
  pub within : size ≤ length bytes
  pub ends : 1 ≤ size → slice_index bytes (size - 1) < 128
  pub goes_on : (k : ℕ) → size ≤ k → k < length bytes → 128 ≤ slice_index bytes k

-- the bytes spell this many numbers, one after another
pub record SpellsMany (bytes : List ℕ) (many : ℕ) : Type 0 where
  pub numbers : List ℕ
  pub count : length numbers ≡ many
  pub spelled : SpellsAll bytes numbers

-- the first `size` bytes spell this many numbers
pub record IsFrontOf (bytes : List ℕ) (many size : ℕ) : Type 0 where
  pub within : size ≤ length bytes
  pub spells : SpellsMany (take size bytes) many
