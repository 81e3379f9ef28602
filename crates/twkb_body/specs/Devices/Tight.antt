-- Devices of proofs: nothing public names them.
-- Tight checking in an axis that may be missing, and which geometries a check certifies, plain or tight.
use Rattle.std.specs.Prelude.{pos, ℕ, Bool, Option, IfSome, All}
use Rattle.twkb_num.specs.Units.{units_of}
use Rattle.twkb_head.specs.declared.boxes.Span.{Span}
use Rattle.twkb_body.specs.Claims.{claims}
use Rattle.twkb_body.specs.Geometry.{Geometry}
use Rattle.twkb_body.specs.Shared.Tight.{IsTrueBy}
use Rattle.twkb_body.specs.Tight.{IsTightSpan}

-- the range of a box is tight, if the box and its header have the axis
abbrev pub IsTightIfBoth : Option Span → Option ℕ → Option Span → Type 0
IsTightIfBoth span precision reached =
    IfSome span (λ s. IfSome precision (λ p. IsTightSpan s (units_of (pos 1) (pos p)) reached))

-- a plain check or a tight one takes all claims of a geometry for true
abbrev pub IsCertifiedBy : Bool → Geometry → Type 0
IsCertifiedBy tight g = All (IsTrueBy tight) (claims g 0)
