-- Devices of proofs: nothing public names them.
-- The members still to come of each open collection, innermost first.
use Rattle.std.specs.Prelude.{◌≡◌, ℕ, ◌+◌, List, ◌∷◌, if◌then◌else◌, ◌==◌}

-- a collection with no members to come is not open
abbrev pub opened : ℕ → List ℕ → List ℕ
opened n counts = if n == 0 then counts else n ∷ counts

-- the innermost collection gives one of its members
pub record Takes (old new : List ℕ) : Type 0 where
  pub left : ℕ
  pub outer : List ℕ
  pub before : old ≡ (left + 1) ∷ outer
  pub after : new ≡ opened left outer
