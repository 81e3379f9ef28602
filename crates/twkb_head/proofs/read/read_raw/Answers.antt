-- The reader's answer is restated in the words of the definitions, and a refusal goes back to the place.
use Rattle.twkb_head.proofs.Prelude.{ap, length, arith}
use Rattle.twkb_head.proofs.HeadLaws.{head_ok, head_moved, head_exact, head_no_range, head_err, head_still, head_bytes}
use Rattle.twkb_head.proofs.read.read_raw.Goals as goal

pub go_to-requires : goal.go_to-requires
go_to-requires c =
    let same = head_bytes c.args.depth c.requires.shallowest c.requires.deepest _ _ c.place-start.ensures.sound _ c.in-Err.ensures.read in
    omega (arith, ap length same, c.place-start.ensures.value, c.place-start.ensures.sound.within)

pub returns-in-Err-clause-exact : goal.returns-in-Err-clause-exact
returns-in-Err-clause-exact c = head_exact c.args.depth c.requires.shallowest c.requires.deepest _ _ c.place-start.ensures.sound _ c.in-Err.ensures.read

pub returns-in-Ok-clause-exact : goal.returns-in-Ok-clause-exact
returns-in-Ok-clause-exact c = head_exact c.args.depth c.requires.shallowest c.requires.deepest _ _ c.place-start.ensures.sound _ c.in-Ok.ensures.read

pub returns-in-Err-clause-no_range : goal.returns-in-Err-clause-no_range
returns-in-Err-clause-no_range c = head_no_range c.args.depth c.requires.shallowest c.requires.deepest _ _ c.place-start.ensures.sound _ c.in-Err.ensures.read

pub returns-in-Err-clause-refused : goal.returns-in-Err-clause-refused
returns-in-Err-clause-refused c = head_err c.args.depth c.requires.shallowest c.requires.deepest _ _ c.place-start.ensures.sound _ c.in-Err.ensures.read

pub returns-in-Err-clause-still : goal.returns-in-Err-clause-still
returns-in-Err-clause-still c =
    head_still c.args.depth c.requires.shallowest c.requires.deepest _ _ c.place-start.ensures.sound _ _ c.in-Err.ensures.read
    (rw c.place-start.ensures.value at c.go_to.ensures)

pub returns-in-Ok-clause-ok : goal.returns-in-Ok-clause-ok
returns-in-Ok-clause-ok c = head_ok c.args.depth c.requires.shallowest c.requires.deepest _ _ c.place-start.ensures.sound _ c.in-Ok.ensures.read

pub returns-in-Ok-clause-moved : goal.returns-in-Ok-clause-moved
returns-in-Ok-clause-moved c = head_moved c.args.depth c.requires.shallowest c.requires.deepest _ _ c.place-start.ensures.sound _ c.in-Ok.ensures.read
