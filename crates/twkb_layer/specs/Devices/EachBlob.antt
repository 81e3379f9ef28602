-- Devices of proofs: nothing public names them.
-- The loop over the blobs of a layer: its state, and how many bytes it reads.
use Rattle.std.specs.Prelude.{ℕ, ◌+◌, nat_lt, Bool, true, List, [], ◌∷◌, ◌++◌, take, Option, Some, None}
use Rattle.std.specs.Borrow.{GName}
use Rattle.twkb_body.specs.Geometry.{Geometry}
use Rattle.twkb_layer.specs.Layer.{size_of}

-- whether the blob with this number is among the first ones, as many as the limit says; without a limit all are
abbrev pub is_among : Option ℕ → ℕ → Bool
is_among None blob = true
is_among (Some limit) blob = nat_lt blob limit

-- the first blobs, as many as the limit says; without a limit all blobs
abbrev pub first_blobs : Option ℕ → List Geometry → List Geometry
first_blobs None trees = trees
first_blobs (Some limit) trees = take limit trees

-- the state after one step for each blob, in file order; the first blob has this number and offset
abbrev pub after_from : {S : Type 0} → (S → ℕ → ℕ → Geometry → S) → ℕ → ℕ → List Geometry → S → S
after_from step blob offset [] s = s
after_from step blob offset (tree ∷ trees) s =
    after_from step (blob + 1) (offset + size_of tree) trees (step s blob offset tree)

-- `after_from` blob 0 at offset 0
abbrev pub after_blobs : {S : Type 0} → (S → ℕ → ℕ → Geometry → S) → List Geometry → S → S
after_blobs step trees s = after_from step 0 0 trees s

-- how many bytes are read of the blobs, if in each state `reads` says how many are read of the next one
abbrev pub read_from : {S : Type 0} → (S → ℕ → ℕ → Geometry → S) → (S → Geometry → ℕ) → ℕ → ℕ → List Geometry → S → ℕ
read_from step reads blob offset [] s = 0
read_from step reads blob offset (tree ∷ trees) s =
    reads s tree + read_from step reads (blob + 1) (offset + size_of tree) trees (step s blob offset tree)

-- `read_from` blob 0 at offset 0
abbrev pub bytes_read : {S : Type 0} → (S → ℕ → ℕ → Geometry → S) → (S → Geometry → ℕ) → List Geometry → S → ℕ
bytes_read step reads trees s = read_from step reads 0 0 trees s

-- ---- steps

-- a step that keeps one more value, which `of` gives for the blob
abbrev pub adds : {A : Type 0} → (ℕ → ℕ → Geometry → A) → List A → ℕ → ℕ → Geometry → List A
adds of kept blob offset tree = kept ++ of blob offset tree ∷ []

-- a state behind a reference, and the name of the reference
pub record Lent (S : Type 0) : Type 0 where
  pub name : GName
  pub state : S

-- a step of the state behind a reference
abbrev pub lent : {S : Type 0} → (S → ℕ → ℕ → Geometry → S) → Lent S → ℕ → ℕ → Geometry → Lent S
lent step s blob offset tree = record { name = s.name; state = step s.state blob offset tree }
