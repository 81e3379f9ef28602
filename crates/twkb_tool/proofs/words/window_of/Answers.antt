-- A text that is no window doesn't have the form of one, or has a range out of order.
use Rattle.twkb_tool.proofs.WindowLemmas.{bad_text}
use Rattle.twkb_tool.proofs.words.window_of.Goals as goal

pub returns-clause-err : goal.returns-clause-err
returns-clause-err c = bad_text _ _ c.parse.ensures.order c.parse.ensures.exact
