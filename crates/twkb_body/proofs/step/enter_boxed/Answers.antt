-- A box that is skipped leads to the geometry's end, and any other to its body.
use Rattle.twkb_body.proofs.Prelude.{◌≡◌, refl, sym, ap, ◌∙◌, arith, ints, to_z, of_z, w8, member_count, Config}
use Rattle.twkb_body.proofs.Beginning.{size_stands, size_fits, x_stands, y_stands, box_hop_within, box_hop_enters, box_behind, box_leads}
use Rattle.twkb_body.proofs.Remaining.{none_left}
use Rattle.twkb_body.proofs.step.enter_boxed.Goals as goal

pub unreachable-requires : goal.unreachable-requires
unreachable-requires g c =
    let (t, depth, before, come) = c.requires.come in
    size_stands c.args.begun t depth before c.args.cursor.now come c.requires.boxed c.in_default.field-0 c.take_number.new.cursor c.in_default.ensures

pub overflow_add-stop : goal.overflow_add-stop
overflow_add-stop g c =
    let (t, depth, before, come) = c.requires.come in
    omega (arith, c.place.ensures.value, size_fits c.args.begun t depth before c.args.cursor.now come c.requires.boxed c.in-Ok.size c.take_number.new.cursor c.in-Ok.ensures)

pub two_ranges-requires : goal.two_ranges-requires
two_ranges-requires g c =
    let (t, depth, before, come) = c.requires.come in
    record {
      x_stands = x_stands c.args.begun t depth before c.args.cursor.now come c.requires.boxed c.in-Ok.size c.take_number.new.cursor c.in-Ok.ensures;
      y_stands = y_stands c.args.begun t depth before c.args.cursor.now come c.requires.boxed c.in-Ok.size c.take_number.new.cursor c.in-Ok.ensures;
    }

pub go_to-requires : goal.go_to-requires
go_to-requires g c =
    let (t, depth, before, come) = c.requires.come in
    let (x, y) = c.two_ranges.result in
    let read = c.two_ranges.ensures in
    box_hop_within g.V.Visit.step g.V.Visit.passes (g.V.Visit.state c.args.visitor.now) come c.requires.boxed c.in-Ok.ensures x y read.x_read read.y_read
    (to_z w8 (of_z w8 c.args.begun.xy)) (omega (arith, ints)) (sym c.skips_flat.ensures ∙ c.if-skips_flat.true) _ c.place.ensures.value

pub returns-then-skips_flat : goal.returns-then-skips_flat
returns-then-skips_flat g c = λ t depth before come.
    let (x, y) = c.two_ranges.result in
    let read = c.two_ranges.ensures in
    box_hop_enters g.V.Visit.step g.V.Visit.passes (g.V.Visit.state c.args.visitor.now) come c.requires.boxed c.in-Ok.ensures x y read.x_read read.y_read
    (to_z w8 (of_z w8 c.args.begun.xy)) (omega (arith, ints)) (sym c.skips_flat.ensures ∙ c.if-skips_flat.true) _ c.place.ensures.value g.met.V.Visit.sound _ c.go_to.ensures

pub enter_flat-members-requires-clause-behind : goal.enter_flat-members-requires-clause-behind
enter_flat-members-requires-clause-behind g c =
    let (t, depth, before, come) = c.requires.come in
    let (x, y) = c.two_ranges.result in
    let read = c.two_ranges.ensures in (
      t,
      depth,
      before,
      box_behind g.V.Visit.step g.V.Visit.passes (g.V.Visit.state c.args.visitor.now) come c.requires.boxed c.in-Ok.ensures x y read.x_read read.y_read
          (to_z w8 (of_z w8 c.args.begun.xy)) (omega (arith, ints)) (sym c.skips_flat.ensures ∙ c.if-skips_flat.false) _ refl,
    )

pub go_on_after-requires : goal.go_on_after-requires
go_on_after-requires g c = λ last.
    let (t, depth, before, come) = c.requires.come in
    let (x, y) = c.two_ranges.result in
    let read = c.two_ranges.ensures in
    let xy = to_z w8 (of_z w8 c.args.begun.xy) in
    let leads = box_leads g.V.Visit.step g.V.Visit.passes (g.V.Visit.state c.args.visitor.now) come c.requires.boxed c.in-Ok.ensures x y read.x_read read.y_read xy (omega (arith, ints)) in
    let entered = c.enter_flat-members.ensures t depth before (box_behind g.V.Visit.step g.V.Visit.passes (g.V.Visit.state c.args.visitor.now) come c.requires.boxed c.in-Ok.ensures x y read.x_read read.y_read
    xy (omega (arith, ints)) (sym c.skips_flat.ensures ∙ c.if-skips_flat.false) _ refl) in
    let none : member_count entered.below ≡ 0 = sym entered.count ∙ last in
    let end = ap (λ (d : Config g.V.Visit.State). d.reading.place) (none_left _ _ _ _ none ∙ entered.left) in
    omega (arith, c.place.ensures.value, leads.stop, end)

pub returns : goal.returns
returns g c = λ t depth before come.
    let (x, y) = c.two_ranges.result in
    let read = c.two_ranges.ensures in
    rw c.go_on_after.ensures (c.enter_flat-members.ensures t depth before (box_behind g.V.Visit.step g.V.Visit.passes (g.V.Visit.state c.args.visitor.now) come c.requires.boxed c.in-Ok.ensures x y read.x_read read.y_read
    (to_z w8 (of_z w8 c.args.begun.xy)) (omega (arith, ints)) (sym c.skips_flat.ensures ∙ c.if-skips_flat.false) _ refl))
