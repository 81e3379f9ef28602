-- Devices of proofs: nothing public names them.
-- Numbers in reading order, by the axes of the points that they are.
use Rattle.std.specs.Prelude.{◌≡◌, ℕ, zero, suc, ◌-◌, true, List, [], ◌∷◌, ℤ, ◌+ℤ◌}
use Rattle.twkb_head.specs.Shared.Plan.{fits}

-- the numbers of one axis among those of points: k more to leave out, and then one of this axis
abbrev pub column : ℕ → ℕ → List ℤ → List ℤ
column axes k [] = []
column axes zero (z ∷ zs) = z ∷ column axes (axes - 1) zs
column axes (suc k) (z ∷ zs) = column axes k zs

-- the sum is at least -2^63 and below 2^63
abbrev pub sum_fits : ℤ → Type 0
sum_fits s = fits s ≡ true

-- each sum of the first numbers stays within 64 bits, from a sum before them
abbrev pub Stays : ℤ → List ℤ → Type 0
Stays s [] = Unit {0}
Stays s (z ∷ zs) = sum_fits (s +ℤ z) × Stays (s +ℤ z) zs

-- the sums of the first numbers, from a sum before them
abbrev pub running : ℤ → List ℤ → List ℤ
running s [] = []
running s (z ∷ zs) = (s +ℤ z) ∷ running (s +ℤ z) zs
