-- The text has the lines of the windows so far, and no scan has read more than all bytes.
use Rattle.twkb_tool.proofs.Prelude.{◌≡◌, ◌+◌, ◌*◌, ◌≤◌, ◌++◌, List, length, take, flat_map, sum_by, Geometry, directory_cost, IsCertifiedLayer, window_text, MAX_FILE}
use Rattle.twkb_tool.proofs.text.push_windows.Given as goal

abbrev pub invariant-loop-window : goal.invariant-loop-window
invariant-loop-window g l = record {
  bytes : l.layer.bytes ≡ l.initial.layer.bytes;
  read : l.layer.count ≤ (3 + l.window-index) * MAX_FILE;
  text : (trees : List Geometry) → IsCertifiedLayer trees l.layer.bytes
      → l.out.items ≡ l.initial.out.items ++ flat_map (window_text directory_cost trees (length l.layer.bytes)) (take l.window-index l.windows);
  count : (trees : List Geometry) → IsCertifiedLayer trees l.layer.bytes
      → l.layer.count ≡ l.initial.layer.count + sum_by (λ w. sum_by (directory_cost w) trees) (take l.window-index l.windows);
}
