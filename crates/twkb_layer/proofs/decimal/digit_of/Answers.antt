-- The digit is the last of the quotient, and after all digits there is none.
use Rattle.twkb_layer.proofs.Prelude.{◌-◌, length, refl, arith, digit_at}
use Rattle.twkb_layer.proofs.Decimals.{digit_is, no_digit}
use Rattle.twkb_layer.proofs.decimal.digit_of.Goals as goal

pub overflow_sub-result-then-power-digits-2 : goal.overflow_sub-result-then-power-digits-2
overflow_sub-result-then-power-digits-2 c = (digit_at c.args.digits.now (length c.args.digits.now - 1 - c.args.power) c.requires (omega arith)).0

pub returns-then-power-digits : goal.returns-then-power-digits
returns-then-power-digits c = digit_is c.args.digits.now c.args.power (length c.args.digits.now - 1 - c.args.power) c.requires c.if-power-digits.true refl

pub returns-else-power-digits : goal.returns-else-power-digits
returns-else-power-digits c = no_digit c.args.digits.now c.args.power c.requires (omega arith)
