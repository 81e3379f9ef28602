-- The body is read whole, or opened.
use Rattle.twkb_body.proofs.Prelude.{◌≡◌, ℤ, None, Ok, refl, sym, subst, arith, ints, to_z, of_z, w8, Reading, Body, shape_behind, shown_all, full_head}
use Rattle.twkb_body.proofs.HeadStands.{shape_stands, enter_shape}
use Rattle.twkb_body.proofs.body.enter_known_body.Goals as goal

pub enter_list-requires-clause-list : goal.enter_list-requires-clause-list
enter_list-requires-clause-list g c = sym c.if-is_collection.ensures

pub returns-then-is_collection : goal.returns-then-is_collection
returns-then-is_collection g c = c.enter_list.ensures

pub visit_shape-requires-clause-stands : goal.visit_shape-requires-clause-stands
visit_shape-requires-clause-stands g c =
    let b = c.requires.behind in
    let h = full_head c.args.kind c.args.axes c.args.ids b.3.size b.3.bounds b.3.start b.3.stop in
    let fits : to_z w8 (of_z w8 c.args.axes.xy) ≡ c.args.axes.xy = omega (arith, ints) in
    let t = shape_stands b.0 b.1 b.2 c.args.cursor.now h b.3.sound b.3.stands b.3.at b.3.moved refl (sym c.if-is_collection.ensures) in
    subst (λ (x : ℤ). (body : Body) × (stop : Reading) × (shape_behind (full_head c.args.kind (record c.args.axes { xy = x }) c.args.ids None None 0 0) c.args.cursor.now ≡ (Ok body, stop))) (sym fits) t

pub returns : goal.returns
returns g c = λ t depth before b.
    let h = full_head c.args.kind c.args.axes c.args.ids b.size b.bounds b.start b.stop in
    let fits : to_z w8 (of_z w8 c.args.axes.xy) ≡ c.args.axes.xy = omega (arith, ints) in
    enter_shape g.V.Visit.step g.V.Visit.passes _ t depth before _ _ h _ b.sound b.stands b.at b.moved b.stays refl (sym c.if-is_collection.ensures)
    (subst (λ (x : ℤ). (body : Body) (stop : Reading) → shape_behind (full_head c.args.kind (record c.args.axes { xy = x }) c.args.ids None None 0 0) c.args.cursor.now ≡ (Ok body, stop)
    → (c.visit_shape.new.cursor ≡ stop) × (g.V.Visit.state c.visit_shape.new.visitor ≡ shown_all g.V.Visit.step (full_head c.args.kind (record c.args.axes { xy = x }) c.args.ids None None 0 0) body (g.V.Visit.state c.args.visitor.now))) fits
    (λ body stop e. (c.visit_shape.ensures.cursor body stop e, c.visit_shape.ensures.visitor body stop e)))
