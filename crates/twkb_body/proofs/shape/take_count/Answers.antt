-- A kind without a list of parts has one part, and no ids.
use Rattle.twkb_body.proofs.Prelude.{None, refl, sym, named}
use Rattle.twkb_body.proofs.Noting.{first_none}
use Rattle.twkb_body.proofs.ShapeSteps.{one_alone}
use Rattle.twkb_body.proofs.shape.take_count.Goals as goal

pub returns-else-is_multi : goal.returns-else-is_multi
returns-else-is_multi g c =
    let list = one_alone _ c.args.raw.now.ids _ (sym c.if-is_multi.ensures) in
    (list.0, list.1, (record { count = 1; ids = None }, list.2, refl, sym (first_none (named c.args.pass.now.refused))))
