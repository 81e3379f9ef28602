-- The directory is one of the layer, from scan to scan.
use Rattle.twkb_layer.specs.Directory.{IsDirectoryOf}
use Rattle.twkb_tests.proofs.tests.layer.depths.scans_by_a_directory.Given as goal

abbrev pub invariant-loop-case : goal.invariant-loop-case
invariant-loop-case g l = IsDirectoryOf l.directory l.layer.bytes
