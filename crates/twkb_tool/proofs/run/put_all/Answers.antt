-- The part of the text that the sink took is put, and the rest follows.
use Rattle.twkb_tool.proofs.StreamLemmas.{Takes-on}
use Rattle.twkb_tool.proofs.run.put_all.Goals as goal

pub loop-done-preserved : goal.loop-done-preserved
loop-done-preserved g c =
    let next = Takes-on _ _ _ c.args.text.now c.loop-done.done c.in-Ok.n c.loop-done.invariant.within
    c.in-Ok.ensures.within c.loop-done.invariant.takes c.in-Ok.ensures.takes in
    record { within = next.0; takes = next.1 }
