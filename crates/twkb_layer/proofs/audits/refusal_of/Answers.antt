-- The blob's number stays, with the fault's offset and kind.
use Rattle.std.proofs.Common.{rules}
use Rattle.twkb_layer.proofs.audits.refusal_of.Goals as goal

pub returns-in-Malformed : goal.returns-in-Malformed
returns-in-Malformed c = search rules

pub returns-in-FalseClaim : goal.returns-in-FalseClaim
returns-in-FalseClaim c = search rules
