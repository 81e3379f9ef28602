-- The buffer holds the bytes that the source gave, at most one byte past the limit, and no call has failed.
use Rattle.twkb_tool.proofs.Prelude.{◌≡◌, false, take, ◌-◌, ◌+◌, ◌≤◌, vec_len, Gives}
use Rattle.twkb_tool.proofs.run.read_all.Given as goal

abbrev pub invariant-loop-held : goal.invariant-loop-held
invariant-loop-held g l = record {
  held : l.held ≤ vec_len l.bytes;
  within : vec_len l.bytes ≤ l.limit + 1;
  gives : Gives (g.S.Source.state l.initial.source) (g.S.Source.state l.source) (take l.held l.bytes.items);
  fine : (g.S.Source.state l.source).failed ≡ false;
}

abbrev pub decreases-loop-held : goal.decreases-loop-held
decreases-loop-held g l = l.limit + 1 - l.held
