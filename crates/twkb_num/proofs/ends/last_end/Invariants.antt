-- All bytes from the size on go on.
use Rattle.twkb_num.proofs.Prelude.{ℕ, ◌≤◌, ◌<◌, length, slice_index}
use Rattle.twkb_num.proofs.ends.last_end.Given as goal

abbrev pub invariant-loop-size : goal.invariant-loop-size
invariant-loop-size l = (l.size ≤ length l.fn.bytes) × ((k : ℕ) → l.size ≤ k → k < length l.fn.bytes → 128 ≤ slice_index l.fn.bytes k)

abbrev pub decreases-loop-size : goal.decreases-loop-size
decreases-loop-size l = l.size
