-- A tenth rounded up is the quotient, or one more if the remainder is positive.
use Rattle.twkb_layer.proofs.RawWindows.{tenth_is, left_is, tenth_up_is, tenth_whole_up}
use Rattle.twkb_layer.proofs.raw_windows.tenth_up.Goals as goal

pub returns-then-rest-gt0 : goal.returns-then-rest-gt0
returns-then-rest-gt0 c = λ z. tenth_up_is c.args.number c.ranges.number _ _ z (tenth_is c.args.number c.ranges.number) (left_is c.args.number c.ranges.number) c.if-rest-gt0.true

pub returns-else-rest-gt0 : goal.returns-else-rest-gt0
returns-else-rest-gt0 c = λ z. tenth_whole_up c.args.number c.ranges.number _ _ z (tenth_is c.args.number c.ranges.number) (left_is c.args.number c.ranges.number) c.if-rest-gt0.false
