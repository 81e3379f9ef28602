-- Each turn counts one more digit.
use Rattle.twkb_layer.proofs.Prelude.{digits_more}
use Rattle.twkb_layer.proofs.text_reader.count_digits.Goals as goal

pub loop-i-preserved : goal.loop-i-preserved
loop-i-preserved c = digits_more 10 _ _ c.loop-i-test.true c.loop-i.invariant c.if-not-is_ascii_digit.ensures.bound
