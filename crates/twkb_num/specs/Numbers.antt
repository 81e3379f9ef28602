-- Numbers that a cursor passes or reads, one after another.
use Rattle.std.specs.Prelude.{◌≡◌, ◌+◌, ◌*◌, ◌<◌, ◌⊎◌, nat_eq, if◌then◌else◌, ℕ, ℤ, pos, List, ◌++◌, length, take, drop, slice_index_or}
use Rattle.twkb_num.specs.Cursor.{Reading, passed, rest, counted, IsMoved}
use Rattle.twkb_num.specs.Varint.{SpellsAll, SpellsAllSigned, Faults, looked_at}
use Rattle.twkb_num.specs.declared.varint.NumFault.{NumFault}

-- this many numbers were passed, and each byte of them was counted
pub record PassesNumbers (many : ℕ) (old new : Reading) : Type 0 where
  pub numbers : List ℕ
  pub count : length numbers ≡ many
  pub spelled : SpellsAll (passed old new) numbers
  pub moved : IsMoved old new

-- there is a fault at the place, which stays, and the bytes looked at were counted
abbrev pub StopsAt : Reading → Reading → NumFault → Type 0
StopsAt old new fault = Faults fault (rest old) × (new ≡ counted old (looked_at fault (rest old)))

-- fewer numbers than these were passed, and then there is a fault
pub record StopsAmong (many : ℕ) (old new : Reading) (fault : NumFault) : Type 0 where
  pub before : ℕ
  pub fewer : before < many
  pub middle : Reading
  pub numbers : PassesNumbers before old middle
  pub stops : StopsAt middle new fault

-- these numbers were read, in this order, and each byte of them was counted
pub record ReadsNumbers (old new : Reading) (numbers : List ℤ) : Type 0 where
  pub spelled : SpellsAllSigned (passed old new) numbers
  pub moved : IsMoved old new

-- fewer numbers than these were read, and then there is a fault
pub record StopsReading (many : ℕ) (old new : Reading) (fault : NumFault) : Type 0 where
  pub numbers : List ℤ
  pub middle : Reading
  pub fewer : length numbers < many
  pub read : ReadsNumbers old middle numbers
  pub stops : StopsAt middle new fault

-- After whole points and the first `axis` numbers of the next point, a taker took these numbers too.
abbrev pub TakesOn : {S : Type 0} → (S → List ℤ → S → Type 0) → ℕ → ℕ → S → List ℤ → S → Type 0
TakesOn {S} took axes axis old more new =
    (first : S) (before : List ℤ) (points : ℕ) → took first before old → length before ≡ axes * points + axis
    → took first (before ++ more) new

-- numbers of points that a taker knows: two, three or four
abbrev pub IsAxes : ℕ → Type 0
IsAxes n = (n ≡ 2) ⊎ ((n ≡ 3) ⊎ (n ≡ 4))

-- the numbers of whole points in eight lanes: of three axes two points, each with a lane after it that isn't of it
abbrev pub points_in : ℕ → List ℤ → List ℤ
points_in axes lanes = if nat_eq axes 3 then take 3 lanes ++ take 3 (drop 4 lanes) else lanes

-- the lanes after two points of three axes are zero
abbrev pub HaveZeros : List ℤ → Type 0
HaveZeros lanes = (slice_index_or lanes 3 (pos 0) ≡ pos 0) × (slice_index_or lanes 7 (pos 0) ≡ pos 0)

-- this many numbers were read, and taken
abbrev pub Takes : {S : Type 0} → (S → List ℤ → S → Type 0) → ℕ → ℕ → ℕ → Reading → Reading → S → S → Type 0
Takes took axes axis many old new to taken =
    (numbers : List ℤ) × (length numbers ≡ many) × ReadsNumbers old new numbers × TakesOn took axes axis to numbers taken

-- fewer numbers were read, and taken, and then there is a fault
pub record StopsTaking {S : Type 0} (took : S → List ℤ → S → Type 0) (axes many : ℕ) (old new : Reading) (to taken : S) (fault : NumFault) : Type 0 where
  pub before : StopsReading many old new fault
  pub on : TakesOn took axes 0 to before.numbers taken
