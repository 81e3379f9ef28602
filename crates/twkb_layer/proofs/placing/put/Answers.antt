-- What is after the slots stays.
use Rattle.twkb_layer.proofs.Prelude.{◌+◌, ◌-◌, length, arith}
use Rattle.std.proofs.lemmas.Slice.{drop-put_mid}
use Rattle.twkb_layer.proofs.placing.put.Goals as goal

pub returns-clause-left : goal.returns-clause-left
returns-clause-left c =
    let end = c.args.used + length c.args.slots.now in
    drop-put_mid c.args.used (end - c.args.used) c.args.room.now c.copy_from_slice.new.self end (omega arith) (omega arith) (omega arith)
