-- Each turn pushes the line of one more row.
use Rattle.twkb_tool.proofs.TextLemmas.{lines_more}
use Rattle.twkb_tool.proofs.Prelude.{row_line}
use Rattle.twkb_tool.proofs.text.push_rows.Goals as goal

pub loop-row-preserved : goal.loop-row-preserved
loop-row-preserved g c =
    lines_more row_line _ _ _ c.args.rows.now c.loop-row.row-index _ c.loop-row-test.true c.loop-row.invariant c.in_ok-push_row_line.ensures
