-- What contracts see of a layer that a caller lends.
use Rattle.std.specs.Prelude.{ℕ, List}
use Rattle.std.specs.Borrow.{Bor}

-- the bytes, which it borrows, and the numbers of blobs and vertices of their verdict
pub record Lent : Type 0 where
  pub bytes : Bor (List ℕ)
  pub blobs : ℕ
  pub vertices : ℕ
