-- Devices of proofs: nothing public names them.
-- Varints of which the first bytes were read.
use Rattle.std.specs.Prelude.{◌≡◌, ℕ, ◌<◌, ◌≤◌, List, length, take, slice_index}
use Rattle.twkb_num.specs.Varint.{sum_of_groups}

-- this many bytes from the front, nine at most, are all at least 128, and this is the sum of their groups
pub record IsBegunBy (many : ℕ) (bytes : List ℕ) (sum : ℕ) : Type 0 where
  pub within : many ≤ length bytes
  pub few : many ≤ 9
  pub goes_on : (k : ℕ) → k < many → 128 ≤ slice_index bytes k
  pub value : sum ≡ sum_of_groups 0 (take many bytes)
