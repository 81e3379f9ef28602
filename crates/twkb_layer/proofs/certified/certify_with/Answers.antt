-- The result of the audit of all blobs is the result for the layer; a refusal is passed on.
use Rattle.twkb_layer.proofs.Prelude.{rules}
use Rattle.twkb_layer.proofs.certified.certify_with.Goals as goal

pub returns-in_err-blobs-clause-refused : goal.returns-in_err-blobs-clause-refused
returns-in_err-blobs-clause-refused g c = search rules

pub returns-in_err-blobs-clause-kinds : goal.returns-in_err-blobs-clause-kinds
returns-in_err-blobs-clause-kinds g c = search rules

pub returns-in_err-blobs-clause-complete : goal.returns-in_err-blobs-clause-complete
returns-in_err-blobs-clause-complete g c = search rules

pub returns-clause-certified : goal.returns-clause-certified
returns-clause-certified g c = let counted = c.in_ok-blobs.ensures.ok in (counted.trees, counted.layer)
