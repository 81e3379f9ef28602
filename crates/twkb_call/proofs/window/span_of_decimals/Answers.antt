-- If the lower end is greater, the result is 2.
use Rattle.twkb_layer.specs.Decimals.{is_less, rational_of, span_of_decimals}
use Rattle.twkb_call.proofs.Windows.{spans_order}
use Rattle.twkb_call.proofs.window.span_of_decimals.Goals as goal

pub returns-in-Err-Order-clause-exact : goal.returns-in-Err-Order-clause-exact
returns-in-Err-Order-clause-exact c = λ a b la hb. spans_order (is_less (rational_of b) (rational_of a)) _ (span_of_decimals a b) (c.in-Err-Order.ensures.exact a b la hb)
