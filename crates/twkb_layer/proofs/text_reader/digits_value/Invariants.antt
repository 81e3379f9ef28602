-- The value is the number of the digits so far.
use Rattle.twkb_layer.proofs.Prelude.{◌≡◌, take, digits_value}
use Rattle.twkb_layer.proofs.text_reader.digits_value.Given as goal

abbrev pub invariant-loop-digit : goal.invariant-loop-digit
invariant-loop-digit l = l.value ≡ digits_value 10 (take l.digit-index l.digits)
