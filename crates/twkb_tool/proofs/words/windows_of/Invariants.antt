-- The texts so far are the windows that were pushed.
use Rattle.twkb_tool.proofs.Prelude.{◌≡◌, map, take, vec_len, AreWindows}
use Rattle.twkb_tool.proofs.words.windows_of.Given as goal

abbrev pub invariant-loop-i : goal.invariant-loop-i
invariant-loop-i l = record {
  windows : AreWindows (take l.i (map (λ t. t.now) l.texts)) l.windows.items;
  count : vec_len l.windows ≡ l.i;
}
