-- The windows that were read, and the words still to come, fit the memory that was taken for all.
use Rattle.std.proofs.Common.{◌+◌, ◌-◌, ◌≤◌, length, vec_len, vec_capacity}
use Rattle.twkb_bench.proofs.request.windows_of.Given as goal

abbrev pub invariant-loop-word : goal.invariant-loop-word
invariant-loop-word l = vec_len l.windows + (length l.words - l.word-index) ≤ vec_capacity l.windows
