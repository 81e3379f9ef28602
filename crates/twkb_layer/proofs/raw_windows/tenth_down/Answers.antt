-- A tenth rounded down is the quotient, or one less if the remainder is negative.
use Rattle.twkb_layer.proofs.RawWindows.{tenth_is, left_is, tenth_down_is, tenth_whole_down}
use Rattle.twkb_layer.proofs.raw_windows.tenth_down.Goals as goal

pub returns-then-rest-lt0 : goal.returns-then-rest-lt0
returns-then-rest-lt0 c = λ z. tenth_down_is c.args.number c.ranges.number _ _ z (tenth_is c.args.number c.ranges.number) (left_is c.args.number c.ranges.number) c.if-rest-lt0.true

pub returns-else-rest-lt0 : goal.returns-else-rest-lt0
returns-else-rest-lt0 c = λ z. tenth_whole_down c.args.number c.ranges.number _ _ z (tenth_is c.args.number c.ranges.number) (left_is c.args.number c.ranges.number) c.if-rest-lt0.false
