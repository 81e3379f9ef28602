-- The text has the lines of the rows so far.
use Rattle.twkb_tool.proofs.Prelude.{◌≡◌, ◌++◌, take, flat_map, row_line}
use Rattle.twkb_tool.proofs.text.push_rows.Given as goal

abbrev pub invariant-loop-row : goal.invariant-loop-row
invariant-loop-row g l = l.out.items ≡ l.initial.out.items ++ flat_map row_line (take l.row-index l.rows)
