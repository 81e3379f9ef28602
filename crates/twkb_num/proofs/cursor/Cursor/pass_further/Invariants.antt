-- All numbers but those left were passed.
use Rattle.twkb_num.proofs.Prelude.{◌-◌, ◌≤◌, PassesNumbers}
use Rattle.twkb_num.proofs.cursor.Cursor.pass_further.Given as goal

abbrev pub invariant-loop-left : goal.invariant-loop-left
invariant-loop-left l = record {
  few : l.left ≤ l.many;
  numbers : PassesNumbers (l.many - l.left) l.fn.self l.self;
}

abbrev pub decreases-loop-left : goal.decreases-loop-left
decreases-loop-left l = l.left
