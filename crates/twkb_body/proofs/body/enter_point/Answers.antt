-- The two numbers are the point.
use Rattle.twkb_body.proofs.Prelude.{◌≡◌, pos, ◌+ℤ◌, false, None, fold, map, length, slice_index_or, rules, refl, ap, ap₂, subst, ◌∙◌, arith, ints, SFits, to_z, of_z, w64, w8, ReadsNumbers, units_of, Point, one_answer, vertex_of, points_of, Body, of_head, shape_behind, full_head, flat_axes}
use Rattle.twkb_body.proofs.HeadStands.{enter_shape, shape_stands}
use Rattle.twkb_body.proofs.NumberRuns.{two_are}
use Rattle.twkb_body.proofs.PointShapes.{point_body, point_shape, point_stands}
use Rattle.twkb_body.proofs.body.enter_point.Goals as goal

pub unreachable-requires : goal.unreachable-requires
unreachable-requires g c =
    let (t, depth, before, b) = c.requires.behind in
    let h = full_head Point (flat_axes c.args.xy) false b.size b.bounds b.start b.stop in
    let (body, stop, e) = shape_stands t depth before c.args.cursor.now h b.sound b.stands b.at b.moved refl refl in
    point_stands h c.args.cursor.now refl refl refl c.svarints.new.self stop body c.in_default.field-0 c.place_is_within.ensures e c.in_default.ensures.err

pub returns-clause-entered : goal.returns-clause-entered
returns-clause-entered g c = λ t depth before b.
    let h = full_head Point (flat_axes c.args.xy) false b.size b.bounds b.start b.stop in
    let two : length c.in-Ok.point ≡ 2 = search rules in
    let x = slice_index_or c.in-Ok.point 0 (pos 0) in
    let y = slice_index_or c.in-Ok.point 1 (pos 0) in
    let x_fits : SFits w64 x = search rules in
    let y_fits : SFits w64 y = search rules in
    let read = subst (ReadsNumbers c.args.cursor.now c.svarints.new.self) (two_are c.in-Ok.point two) c.in-Ok.ensures.ok in
    let s = g.V.Visit.state c.args.visitor.now in
    let at_x : to_z w64 (of_z w64 x) ≡ pos 0 +ℤ x = omega (arith, ints) in
    let at_y : to_z w64 (of_z w64 y) ≡ pos 0 +ℤ y = omega (arith, ints) in
    let fits : to_z w8 (of_z w8 c.args.xy) ≡ c.args.xy = omega (arith, ints) in
    let at = rw c.flat.ensures at c.add_raw.ensures in
    let same_x = ap₂ units_of at_x fits in
    let same_y = ap₂ units_of at_y fits in
    let seen = at ∙ ap (g.V.Visit.step s) (λ j. record { x = same_x j; y = same_y j; z = None; m = None }) in
    enter_shape g.V.Visit.step g.V.Visit.passes s t depth before _ _ h _ b.sound b.stands b.at b.moved b.stays refl refl
    (λ body stop e.
    let same = one_answer (shape_behind h c.args.cursor.now) (point_body x y) body _ stop (point_shape h c.args.cursor.now refl refl refl c.svarints.new.self x y c.place_is_within.ensures read x_fits y_fits) e in
    (same.1, seen ∙ ap (λ (q : Body). fold g.V.Visit.step s (map (vertex_of (of_head h)) (points_of q.polygons))) same.0))
