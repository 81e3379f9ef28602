-- The sink has taken the text up to here.
use Rattle.twkb_tool.proofs.Prelude.{◌-◌, ◌≤◌, length, take, Takes}
use Rattle.twkb_tool.proofs.run.put_all.Given as goal

abbrev pub invariant-loop-done : goal.invariant-loop-done
invariant-loop-done g l = record {
  within : l.done ≤ length l.text;
  takes : Takes (g.K.Sink.state l.initial.sink) (g.K.Sink.state l.sink) (take l.done l.text);
}

abbrev pub decreases-loop-done : goal.decreases-loop-done
decreases-loop-done g l = length l.text - l.done
