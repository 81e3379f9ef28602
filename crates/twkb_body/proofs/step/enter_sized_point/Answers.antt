-- The size is read, and the point's numbers are next. They end where the size says.
use Rattle.twkb_body.proofs.Prelude.{◌≡◌, ap, ◌∙◌, arith, ints, to_z, of_z, w8, member_count, Config, flat_axes}
use Rattle.twkb_body.proofs.Beginning.{sized_stands, sized_leads, sized_behind}
use Rattle.twkb_body.proofs.Remaining.{none_left}
use Rattle.twkb_body.proofs.step.enter_sized_point.Goals as goal

pub unreachable-requires : goal.unreachable-requires
unreachable-requires g c =
    let (t, depth, before, come) = c.requires.come in
    sized_stands c.args.begun t depth before c.args.cursor.now come c.requires.sized c.in_default.field-0 c.take_number.new.cursor c.in_default.ensures

pub overflow_add-stop : goal.overflow_add-stop
overflow_add-stop g c =
    let (t, depth, before, come) = c.requires.come in
    let leads = sized_leads c.args.begun t depth before c.args.cursor.now come c.requires.sized c.in-Ok.size c.take_number.new.cursor c.requires.kind c.in-Ok.ensures in
    omega (arith, c.place.ensures.value, leads.fits)

pub enter_point-members-requires-clause-behind : goal.enter_point-members-requires-clause-behind
enter_point-members-requires-clause-behind g c =
    let (t, depth, before, come) = c.requires.come in
    let passes = g.V.Visit.passes (g.V.Visit.state c.args.visitor.now) in
    let fits : to_z w8 (of_z w8 c.args.begun.xy) ≡ c.args.begun.xy = omega (arith, ints) in
    (t, depth, before, sized_behind c.args.begun t depth before c.args.cursor.now come c.requires.sized passes c.in-Ok.size c.take_number.new.cursor _ c.requires.kind c.in-Ok.ensures (ap flat_axes fits))

pub go_on_from-requires : goal.go_on_from-requires
go_on_from-requires g c =
    let (t, depth, before, come) = c.requires.come in
    let passes = g.V.Visit.passes (g.V.Visit.state c.args.visitor.now) in
    let fits : to_z w8 (of_z w8 c.args.begun.xy) ≡ c.args.begun.xy = omega (arith, ints) in
    let leads = sized_leads c.args.begun t depth before c.args.cursor.now come c.requires.sized c.in-Ok.size c.take_number.new.cursor c.requires.kind c.in-Ok.ensures in
    let entered = c.enter_point-members.ensures.entered t depth before (sized_behind c.args.begun t depth before c.args.cursor.now come c.requires.sized passes c.in-Ok.size c.take_number.new.cursor _ c.requires.kind c.in-Ok.ensures (ap flat_axes fits)) in
    let none : member_count entered.below ≡ 0 = omega (arith, entered.count, c.enter_point-members.ensures.none) in
    let end = ap (λ (d : Config g.V.Visit.State). d.reading.place) (none_left _ _ _ _ none ∙ entered.left) in
    omega (arith, c.place.ensures.value, leads.stop, end)

pub returns : goal.returns
returns g c = λ t depth before come.
    let passes = g.V.Visit.passes (g.V.Visit.state c.args.visitor.now) in
    let fits : to_z w8 (of_z w8 c.args.begun.xy) ≡ c.args.begun.xy = omega (arith, ints) in
    rw c.go_on_from.ensures (c.enter_point-members.ensures.entered t depth before (sized_behind c.args.begun t depth before c.args.cursor.now come c.requires.sized passes c.in-Ok.size c.take_number.new.cursor _ c.requires.kind c.in-Ok.ensures (ap flat_axes fits)))
