-- The layer keeps its bytes, however often it is scanned.
use Rattle.std.proofs.Common.{◌≡◌}
use Rattle.twkb_bench.proofs.timed.best_lookup.Given as goal

abbrev pub invariant-loop : goal.invariant-loop
invariant-loop l = l.layer.bytes ≡ l.fn.layer.bytes
