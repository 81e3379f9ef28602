-- If no two neighbors up to the end are equal, all neighbors differ.
use Rattle.twkb_body.proofs.Prelude.{arith, rules}
use Rattle.twkb_body.proofs.Distinct.{pairs_from_sorted}
use Rattle.twkb_body.proofs.ids.neighbors_differ.Goals as goal

pub returns : goal.returns
returns c = (λ t. pairs_from_sorted c.args.ids.now c.requires (λ k d lt. c.loop-i.invariant k d (omega arith)), λ h. search rules)
