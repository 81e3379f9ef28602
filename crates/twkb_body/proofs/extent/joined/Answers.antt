-- The joined range goes from the lesser of the two least numbers to the greater of the two greatest.
use Rattle.twkb_body.proofs.Prelude.{rules}
use Rattle.twkb_body.proofs.extent.joined.Goals as goal

pub returns-in-Some-Some : goal.returns-in-Some-Some
returns-in-Some-Some c = search rules
