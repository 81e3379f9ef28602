-- Devices of proofs: nothing public names them.
-- Values within ranges that may be missing.
use Rattle.std.specs.Prelude.{ℤ, Option, IfSome}
use Rattle.twkb_head.specs.declared.boxes.Span.{Span}
use Rattle.twkb_head.specs.Holds.{IsWithin}

-- a value is within a range, where both are there
abbrev pub IsWithinBoth : Option Span → Option ℤ → Type 0
IsWithinBoth span value = IfSome span (λ s. IfSome value (IsWithin s))
