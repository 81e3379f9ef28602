-- No two neighbors before the index are equal.
use Rattle.twkb_body.proofs.Prelude.{◌≢◌, ℕ, ◌+◌, ◌<◌, slice_index_or, ℤ}
use Rattle.twkb_body.proofs.ids.neighbors_differ.Given as goal

abbrev pub invariant-loop-i : goal.invariant-loop-i
invariant-loop-i l = (k : ℕ) (d : ℤ) → k + 1 < l.i → slice_index_or l.ids k d ≢ slice_index_or l.ids (k + 1) d
