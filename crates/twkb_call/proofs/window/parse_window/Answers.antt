-- A text of a window in order is answered 0, one of another order 2.
use Rattle.twkb_layer.specs.WindowText.{in_order}
use Rattle.twkb_call.proofs.Windows.{answered_ok, answered_order}
use Rattle.twkb_call.proofs.window.parse_window.Goals as goal

pub returns-in-Ok-clause-exact : goal.returns-in-Ok-clause-exact
returns-in-Ok-clause-exact c = λ w i. answered_ok (in_order w) c.in-Ok.read w (c.in-Ok.ensures.exact w i)

pub returns-in-Err-Order-clause-exact : goal.returns-in-Err-Order-clause-exact
returns-in-Err-Order-clause-exact c = λ w i. answered_order (in_order w) _ w (c.in-Err-Order.ensures.exact w i)
