-- The result of the audit of all blobs is the result for the layer; a refusal is passed on.
use Rattle.std.proofs.lemmas.Result.{err_from_is_err_and}
use Rattle.twkb_layer.proofs.Counting.{tight_is_counted}
use Rattle.twkb_layer.proofs.certified.certify_tight_with.Goals as goal

pub returns-in_err-blobs-clause-refused : goal.returns-in_err-blobs-clause-refused
returns-in_err-blobs-clause-refused g c =
    let p = err_from_is_err_and c.from_residual.result c.from_residual.ensures.1 in
    rw (p.1, p.2) c.in_err-blobs.ensures.refused

pub returns-in_err-blobs-clause-kinds : goal.returns-in_err-blobs-clause-kinds
returns-in_err-blobs-clause-kinds g c =
    let p = err_from_is_err_and c.from_residual.result c.from_residual.ensures.1 in
    rw (p.1, p.2) c.in_err-blobs.ensures.kinds

pub returns-in_err-blobs-clause-complete : goal.returns-in_err-blobs-clause-complete
returns-in_err-blobs-clause-complete g c =
    let p = err_from_is_err_and c.from_residual.result c.from_residual.ensures.1 in
    rw (p.1, p.2) c.in_err-blobs.ensures.complete

pub invariant_of-result : goal.invariant_of-result
invariant_of-result g c = rw c.in_ok-blobs.ensures.moved.bytes (tight_is_counted _ _ _ c.in_ok-blobs.ensures.ok)

pub returns-clause-certified : goal.returns-clause-certified
returns-clause-certified g c = let counted = c.in_ok-blobs.ensures.ok in (counted.trees, counted.layer)
