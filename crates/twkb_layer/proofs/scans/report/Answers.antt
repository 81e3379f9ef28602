-- The hit is put in its place, if there is one, and counted.
use Rattle.twkb_layer.proofs.Prelude.{arith, rules, common_steps}
use Rattle.twkb_layer.proofs.scans.report.Goals as goal

pub returns-clause-found : goal.returns-clause-found
returns-clause-found c = search rules

pub returns-clause-room : goal.returns-clause-room
returns-clause-room c = grind (arith, common_steps)
