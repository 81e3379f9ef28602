-- No box is above a blob, so what was seen of it is forgotten.
use Rattle.twkb_body.proofs.Prelude.{not, ◌==◌, HasSeen}
use Rattle.twkb_body.proofs.Ending.{read_unseen}
use Rattle.twkb_body.proofs.geometry.take_whole_collection.Goals as goal

pub returns : goal.returns
returns g c = λ before read.
    read_unseen (not (g.row.TIGHT == 0)) 1 (HasSeen c.unasked.result c.take_collection.new.seen) c.args.pass.now c.take_collection.new.pass before c.take_collection.new.cursor c.take_collection.result (c.take_collection.ensures before read)
