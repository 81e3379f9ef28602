-- Devices of proofs: nothing public names them.
-- Certified members at a place.
use Rattle.std.specs.Prelude.{◌≡◌, ℕ, List, ◌++◌, drop, All}
use Rattle.twkb_body.specs.Geometry.{Members}
use Rattle.twkb_body.specs.Encoding.{Blobs}
use Rattle.twkb_body.specs.Claims.{member_claims, IsTrueClaim}

-- Certified members begin at the place, one after another (`StandsAt`).
pub record StandAt (gs : Members) (depth : ℕ) (bytes : List ℕ) (place : ℕ) : Type 0 where
  pub front : List ℕ
  pub behind : List ℕ
  pub there : drop place bytes ≡ front ++ behind
  pub blobs : Blobs gs front depth
  pub start : ℕ
  pub certified : All IsTrueClaim (member_claims gs start)
