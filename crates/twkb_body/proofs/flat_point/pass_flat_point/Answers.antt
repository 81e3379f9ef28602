-- The two bytes begin the header of the point that is passed.
use Rattle.twkb_body.proofs.Prelude.{Option, Bool, false, ap}
use Rattle.std.specs.Prelude.{unwrap_or}
use Rattle.twkb_body.proofs.flat_point.pass_flat_point.Goals as goal

-- what is there is what is
pub returns-in-Some-clause-refused : goal.returns-in-Some-clause-refused
returns-in-Some-clause-refused c = λ is before read.
    c.pass_point.ensures.refused (ap (λ (o : Option Bool). unwrap_or o false) is) before read.sound (c.in-Some.ensures.some before read.sound read.moved read.two)

pub returns-in-Some-begun_as-clause-refused : goal.returns-in-Some-begun_as-clause-refused
returns-in-Some-begun_as-clause-refused c = λ is before read.
    c.pass_point-in-Some-begun_as.ensures.refused (ap (λ (o : Option Bool). unwrap_or o false) is) before read.sound (c.in-Some-begun_as.ensures.some before read.sound read.moved read.two)
