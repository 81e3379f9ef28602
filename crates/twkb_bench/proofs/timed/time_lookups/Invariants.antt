-- The directory is one of the layer, from scan to scan.
use Rattle.twkb_layer.specs.Directory.{IsDirectoryOf}
use Rattle.twkb_bench.proofs.timed.time_lookups.Given as goal

abbrev pub invariant-loop-word : goal.invariant-loop-word
invariant-loop-word l = IsDirectoryOf l.directory l.layer.bytes
