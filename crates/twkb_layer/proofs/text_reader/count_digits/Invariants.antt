-- The text before the index is digits.
use Rattle.twkb_layer.proofs.Prelude.{take, AllDigits}
use Rattle.twkb_layer.proofs.text_reader.count_digits.Given as goal

abbrev pub invariant-loop-i : goal.invariant-loop-i
invariant-loop-i l = AllDigits 10 (take l.i l.text)
