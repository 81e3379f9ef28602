-- The list is opened.
use Rattle.twkb_body.proofs.Prelude.{refl, no_failure, full_head}
use Rattle.twkb_body.proofs.HeadStands.{list_stands, enter_list}
use Rattle.twkb_body.proofs.body.enter_list.Goals as goal

pub unreachable-requires : goal.unreachable-requires
unreachable-requires g c =
    let b = c.requires.behind in
    let h = full_head c.args._kind c.args._axes c.args.ids b.3.size b.3.bounds b.3.start b.3.stop in
    let t = list_stands b.0 b.1 b.2 _ h b.3.sound b.3.stands b.3.at b.3.moved refl c.requires.list in
    no_failure _ t.0 t.1 _ c.in_default.field-0 t.2 c.in_default.ensures

pub returns : goal.returns
returns g c = λ t depth before b.
    let h = full_head c.args._kind c.args._axes c.args.ids b.size b.bounds b.start b.stop in
    let list = c.in-Ok.ensures in
    enter_list g.V.Visit.step g.V.Visit.passes _ t depth before _ _ h list.0 _ b.sound b.stands b.at b.moved b.stays refl c.requires.list list.1 list.2
