-- The numbers before this one were read.
use Rattle.twkb_num.proofs.Prelude.{◌≡◌, take, length, ReadsNumbers}
use Rattle.twkb_num.proofs.cursor.Cursor.each_svarint.Given as goal

abbrev pub invariant-loop-i : goal.invariant-loop-i
invariant-loop-i g l = record {
  all : length l.numbers ≡ g.row.K;
  read : ReadsNumbers l.fn.self l.self (take l.i l.numbers);
}
