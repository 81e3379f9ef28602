-- The first of false claims, as a pass notes them.
use Rattle.twkb_body.proofs.Prelude.{◌≡◌, Some, None, refl, Refused, first}

-- no claim after one
pub first_none : (r : Refused) → first r None ≡ r
first_none None = refl
first_none (Some claim) = refl

-- the first of three is the first of the first two, and the third
pub first_assoc : (a b c : Refused) → first (first a b) c ≡ first a (first b c)
first_assoc None b c = refl
first_assoc (Some claim) b c = refl
