-- The numbers before this one are what the lanes mean.
use Rattle.twkb_num.proofs.Prelude.{◌≡◌, map, take, length, w32, cast_signed}
use Rattle.twkb_num.proofs.cursor.numbers.first_lanes.Given as goal

abbrev pub invariant-loop-i : goal.invariant-loop-i
invariant-loop-i g l = record {
  all : length l.numbers ≡ g.row.K;
  meant : take l.i l.numbers ≡ take l.i (map (cast_signed w32) l.lanes);
}
