-- Each step of the reader's recursion comes nearer to the deepest level, and within a level nearer to the list.
use Rattle.std.proofs.Common.{◌+◌, ◌*◌, ◌-◌}
use Rattle.twkb_head.specs.BegunHeader.{deepest}
use Rattle.plain.proofs.reader.Reader.+reading.Given as goal

abbrev pub decreases-list : goal.decreases-list
decreases-list l = 3 * (deepest - l.depth)

abbrev pub decreases-body : goal.decreases-body
decreases-body l = 3 * (deepest - l.depth) + 1

abbrev pub decreases-geometry : goal.decreases-geometry
decreases-geometry l = 3 * (deepest - l.depth) + 2
