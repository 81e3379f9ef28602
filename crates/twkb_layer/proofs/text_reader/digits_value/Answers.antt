-- One more digit makes the value ten times the value plus the digit; at most 27 digits fit 128 bits.
use Rattle.twkb_layer.proofs.Prelude.{refl, arith}
use Rattle.twkb_layer.proofs.Texts.{next_value}
use Rattle.twkb_layer.proofs.text_reader.digits_value.Goals as goal

pub overflow_mul-value : goal.overflow_mul-value
overflow_mul-value c = let next = next_value c.args.digits.now _ _ _ c.requires.digits c.requires.few c.loop-digit-test.true c.loop-digit.invariant refl in omega (arith, next.1)

pub overflow_sub-digit : goal.overflow_sub-digit
overflow_sub-digit c = (next_value c.args.digits.now _ _ _ c.requires.digits c.requires.few c.loop-digit-test.true c.loop-digit.invariant refl).0

pub overflow_add-value : goal.overflow_add-value
overflow_add-value c = let next = next_value c.args.digits.now _ _ _ c.requires.digits c.requires.few c.loop-digit-test.true c.loop-digit.invariant c.from.ensures in omega (arith, next.1)

pub loop-digit-preserved : goal.loop-digit-preserved
loop-digit-preserved c = (next_value c.args.digits.now _ _ _ c.requires.digits c.requires.few c.loop-digit-test.true c.loop-digit.invariant c.from.ensures).2
