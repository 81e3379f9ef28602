-- An audited blob extends the certified layer before it by itself.
use Rattle.twkb_layer.proofs.Counting.{counted_more, audit_ahead}
use Rattle.twkb_layer.proofs.audits.audit_blob.Goals as goal

pub returns-clause-counted : goal.returns-clause-counted
returns-clause-counted g c =
    let new = c.in_ok-audit.ensures in
    rw c.advance.ensures (λ bytes blobs vertices here counted. counted_more _ bytes _ _ _ _ _ here counted new.moved new.ok)

pub returns-clause-ahead : goal.returns-clause-ahead
returns-clause-ahead g c =
    let new = c.in_ok-audit.ensures in
    rw c.advance.ensures (audit_ahead _ _ _ _ new.moved new.ok)
