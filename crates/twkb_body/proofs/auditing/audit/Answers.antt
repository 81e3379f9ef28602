-- The refusal of `audit_with` is passed on.
use Rattle.twkb_body.proofs.Prelude.{rules}
use Rattle.twkb_body.proofs.auditing.audit.Goals as goal

pub returns-clause-refused : goal.returns-clause-refused
returns-clause-refused c = search rules
