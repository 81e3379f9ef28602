-- Each turn holds one more piece, and nothing else was given.
use Rattle.twkb_tool.proofs.Prelude.{take, arith}
use Rattle.std.proofs.Common.{length-take}
use Rattle.twkb_tool.proofs.StreamLemmas.{Gives-more}
use Rattle.twkb_tool.proofs.run.read_all.Goals as goal

pub loop-held-preserved : goal.loop-held-preserved
loop-held-preserved g c =
    let now = c.in_ok-n.ensures in
    let piece = now.piece in record {
      held = now.room;
      within = omega (arith, now.within);
      gives = rw piece.3 (Gives-more _ _ _ _ _ c.loop-held.invariant.gives piece.1);
      fine = now.fine;
    }

pub returns : goal.returns
returns g c =
    let past = c.loop-held.invariant in record {
      ok = tt;
      err = (take c.loop-held.held c.loop-held.bytes.items, past.gives, omega (arith, length-take c.loop-held.held c.loop-held.bytes.items, past.held, past.within, c.loop-held-test.false), past.fine);
    }
