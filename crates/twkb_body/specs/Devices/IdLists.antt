-- Devices of proofs: nothing public names them.
-- Lists: their counts and their ids.
use Rattle.std.specs.Prelude.{◌≡◌, ℕ, ◌+◌, ◌≤◌, Bool, true, List, ◌++◌, ℤ}
use Rattle.twkb_num.specs.Cursor.{Reading}
use Rattle.twkb_num.specs.Varint.{Spells, IsSigned}
use Rattle.twkb_head.specs.Parts.{Times}
use Rattle.twkb_body.specs.Devices.Body.{ListHead}
use Rattle.twkb_body.specs.Devices.Pass.{Refused, ids_refused}

-- there are this many ids, and the bytes begin with seventeen of them
abbrev pub HasManyIds : ℕ → List ℕ → Type 0
HasManyIds count bytes = (17 ≤ count)
    × ((ids : List ℤ) × (front : List ℕ) × (behind : List ℕ) × (bytes ≡ front ++ behind) × Times 17 IsSigned ids front)

-- ids are announced, and the bytes begin with a count and seventeen ids
abbrev pub HasManyIdsAfterCount : Bool → List ℕ → Type 0
HasManyIdsAfterCount has_ids bytes =
    (has_ids ≡ true)
    × ((n : ℕ) × (count : List ℕ) × (behind : List ℕ)
    × (bytes ≡ count ++ behind) × Spells count n × HasManyIds n behind)

-- what was found of a list: its count, and the claim of its ids, if it is false
pub record ListFound : Type 0 where
  pub count : ℕ
  pub ids : Refused

-- this was found of the count and the ids between two readings
pub record IsListFound (old new : Reading) (head : ListHead) (list : ListFound) : Type 0 where
  pub count : list.count ≡ (head.0).0
  pub lengths : new.place ≡ old.place + ((head.0).1 + (head.1).1)
  pub refused : list.ids ≡ ids_refused (old.place + (head.0).1) (head.1).0
