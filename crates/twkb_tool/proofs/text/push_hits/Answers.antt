-- Each turn pushes the line of one more hit.
use Rattle.twkb_tool.proofs.TextLemmas.{lines_more}
use Rattle.twkb_tool.proofs.Prelude.{hit_line}
use Rattle.twkb_tool.proofs.text.push_hits.Goals as goal

pub loop-hit-preserved : goal.loop-hit-preserved
loop-hit-preserved g c =
    lines_more hit_line _ _ _ c.args.hits.now c.loop-hit.hit-index _ c.loop-hit-test.true c.loop-hit.invariant c.in_ok-push_hit_line.ensures
