-- Devices of proofs: nothing public names them.
-- The ranges of a certified geometry's box in X and Y, at the place of a cursor.
use Rattle.std.specs.Prelude.{◌≡◌, ◌≢◌, Ok, Err}
use Rattle.twkb_num.specs.Cursor.{Reading}
use Rattle.twkb_head.specs.Raw.{ends_of}
use Rattle.twkb_head.specs.declared.raw.RawRange.{RawRange}
use Rattle.twkb_head.specs.declared.refusal.Malformed.{Malformed}
use Rattle.twkb_head.specs.Shared.Reader.{range_from}

-- The ranges in X and Y were read, one after the other.
pub record ReadsFlatBox (x y : RawRange) (before after : Reading) : Type 0 where
  pub between : Reading
  pub x_read : range_from before ≡ (Ok (ends_of x), between)
  pub y_read : range_from between ≡ (Ok (ends_of y), after)

-- Two ranges follow: neither can be malformed.
pub record HasFlatBox (now : Reading) : Type 0 where
  pub x_stands : (m : Malformed) (new : Reading) → range_from now ≢ (Err m, new)
  pub y_stands : (x : RawRange) (between : Reading) → range_from now ≡ (Ok (ends_of x), between)
      → (m : Malformed) (new : Reading) → range_from between ≢ (Err m, new)
