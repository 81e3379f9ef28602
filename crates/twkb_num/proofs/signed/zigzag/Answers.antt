-- The number means the value, by zigzag, and no other number does.
use Rattle.twkb_num.proofs.Prelude.{rules}
use Rattle.twkb_num.proofs.signed.zigzag.Goals as goal

pub returns-then-value-ge0-clause-meaning : goal.returns-then-value-ge0-clause-meaning
returns-then-value-ge0-clause-meaning c = search rules

pub returns-then-value-ge0-clause-only : goal.returns-then-value-ge0-clause-only
returns-then-value-ge0-clause-only c = search rules

pub returns-else-value-ge0-clause-meaning : goal.returns-else-value-ge0-clause-meaning
returns-else-value-ge0-clause-meaning c = search rules

pub returns-else-value-ge0-clause-only : goal.returns-else-value-ge0-clause-only
returns-else-value-ge0-clause-only c = search rules
