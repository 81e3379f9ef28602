-- What a source gave and a sink took.
use Rattle.std.specs.Prelude.{◌≡◌, ℕ, Bool, List, ◌++◌, length, IsTrue}
use Rattle.twkb_num.specs.Cursor.{added}

-- a source: whether it states its bytes, the bytes still to come, how many it gave, and whether its last call failed
pub record SourceState : Type 0 where
  pub tells : Bool
  pub rest : List ℕ
  pub moved : ℕ
  pub failed : Bool

-- a sink: whether it states its bytes, the bytes put, how many it took, whether its last call failed, and whether that was a flush
pub record SinkState : Type 0 where
  pub tells : Bool
  pub bytes : List ℕ
  pub moved : ℕ
  pub failed : Bool
  pub flushing : Bool

-- the source gave these bytes and no others
pub record Gives (old new : SourceState) (given : List ℕ) : Type 0 where
  pub tells : new.tells ≡ old.tells
  pub bytes : IsTrue old.tells → old.rest ≡ given ++ new.rest
  pub count : new.moved ≡ added old.moved (length given)

-- the sink took these bytes and no others
pub record Takes (old new : SinkState) (taken : List ℕ) : Type 0 where
  pub tells : new.tells ≡ old.tells
  pub bytes : IsTrue old.tells → new.bytes ≡ old.bytes ++ taken
  pub count : new.moved ≡ added old.moved (length taken)
