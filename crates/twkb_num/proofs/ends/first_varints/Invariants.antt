-- The bytes before have all ends but the ones left, and it is known how many of them the next varint has.
use Rattle.twkb_num.proofs.ManySpelled.{IsEndsLoop}
use Rattle.twkb_num.proofs.ends.first_varints.Given as goal

abbrev pub invariant-loop-left : goal.invariant-loop-left
invariant-loop-left l = IsEndsLoop l.fn.bytes l.fn.many l.left l.done l.low

abbrev pub decreases-loop-left : goal.decreases-loop-left
decreases-loop-left l = l.left
