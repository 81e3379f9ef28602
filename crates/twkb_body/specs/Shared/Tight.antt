-- Shared between crates: private contracts alone name them, here and in crates above.
-- Which claims a check takes for true, plain or tight.
use Rattle.std.specs.Prelude.{Bool, true, false}
use Rattle.twkb_body.specs.Claims.{Claim, IsTrueClaim}
use Rattle.twkb_body.specs.Tight.{IsTightlyTrue}

-- whether a plain check or a tight one takes a claim for true
abbrev pub IsTrueBy : Bool → Claim → Type 0
IsTrueBy false = IsTrueClaim
IsTrueBy true = IsTightlyTrue
