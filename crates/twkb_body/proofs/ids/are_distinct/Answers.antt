-- Sorting permutes the ids, so they differ exactly if the neighbors of the sorted list do.
use Rattle.twkb_body.proofs.Prelude.{IsPermutation-sym}
use Rattle.twkb_body.proofs.Distinct.{pairs_permuted}
use Rattle.twkb_body.proofs.ids.are_distinct.Goals as goal

pub returns : goal.returns
returns c =
    let p = c.sort_unstable.ensures.permutation in
    let r = c.neighbors_differ.ensures in
    (λ t. pairs_permuted _ _ (IsPermutation-sym _ _ p) (r.0 t), λ h. r.1 (pairs_permuted _ _ p h))
