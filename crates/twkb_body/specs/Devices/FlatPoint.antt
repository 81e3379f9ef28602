-- Devices of proofs: nothing public names them.
-- Points of X and Y without a box.
use Rattle.std.specs.Prelude.{◌≡◌, ◌-◌, ◌⊎◌, Bool, None, Ok}
use Rattle.twkb_num.specs.Cursor.{Reading}
use Rattle.twkb_num.specs.Units.{IsPrecision}
use Rattle.twkb_head.specs.BegunHeader.{deepest}
use Rattle.twkb_head.specs.declared.kinds.Kind.TheVariants.{Point}
use Rattle.twkb_head.specs.declared.read.Begun.{Begun}
use Rattle.twkb_body.specs.Geometry.{Geometry}
use Rattle.twkb_body.specs.Devices.BodyReader.{geometry_at}
use Rattle.twkb_body.specs.Devices.Found.{IsFound}

-- a header begins as a point's, and announces at most a size
pub record IsFlatPoint (begun : Begun) : Type 0 where
  pub xy : IsPrecision begun.xy
  pub point : begun.kind ≡ Point
  pub fields : (begun.metadata ≡ 2) ⊎ (begun.metadata ≡ 0)

-- the blob between two readings has one vertex, and no claim of it is false, in tight checking too if `tight`
pub record IsOnePoint (tight : Bool) (old new : Reading) : Type 0 where
  pub whole : Geometry
  pub read : geometry_at (deepest - 1) old ≡ (Ok whole, new)
  pub found : IsFound tight whole old.place new.place (record { vertices = 1; refused = None })
