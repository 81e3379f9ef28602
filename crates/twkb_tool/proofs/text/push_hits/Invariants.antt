-- The text has the lines of the hits so far.
use Rattle.twkb_tool.proofs.Prelude.{◌≡◌, ◌++◌, take, flat_map, hit_line}
use Rattle.twkb_tool.proofs.text.push_hits.Given as goal

abbrev pub invariant-loop-hit : goal.invariant-loop-hit
invariant-loop-hit g l = l.out.items ≡ l.initial.out.items ++ flat_map hit_line (take l.hit-index l.hits)
