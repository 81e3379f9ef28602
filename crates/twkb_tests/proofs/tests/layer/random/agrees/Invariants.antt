-- The directory is one of the layer, from scan to scan.
use Rattle.twkb_layer.specs.Directory.{IsDirectoryOf}
use Rattle.twkb_tests.proofs.tests.layer.random.agrees.Given as goal

abbrev pub invariant-loop : goal.invariant-loop
invariant-loop g l = IsDirectoryOf l.directory l.layer.bytes
