-- The directory is one of the layer, from scan to scan.
use Rattle.twkb_layer.specs.Directory.{IsDirectoryOf}
use Rattle.twkb_tests.proofs.tests.layer.directories.many_windows.Given as goal

abbrev pub invariant-loop-ranges : goal.invariant-loop-ranges
invariant-loop-ranges g l = IsDirectoryOf l.directory l.layer.bytes
