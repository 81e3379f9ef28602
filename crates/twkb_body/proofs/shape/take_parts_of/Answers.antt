-- The points lead to their number and their reach, by which the box is judged. If they can't be read, a second reading names the
-- malformed field.
use Rattle.twkb_body.proofs.Prelude.{not, ◌==◌, None, refl, sym, ap, subst, ◌∙◌, Reading, rest, head_said, Stopped, points_of, zeros, many_parts_at, named, HasManyIdsAfterCount, Inside, of_head, shape_behind, Refused, first, HasStopped, no_points}
use Rattle.twkb_body.proofs.ExtentJudging.{extent_read}
use Rattle.twkb_body.proofs.Noting.{first_none}
use Rattle.twkb_body.proofs.PointReads.{none_yet}
use Rattle.twkb_body.proofs.Rereading.{parts_unreadable, parts_fail}
use Rattle.twkb_body.proofs.ShapeSteps.{no_parts, shape_of_parts}
use Rattle.twkb_body.proofs.shape.take_parts_of.Goals as goal

pub take_parts-requires : goal.take_parts-requires
take_parts-requires g c = record { ready = (_, none_yet (c.new-reader.ensures (of_head (head_said c.args.raw.now)) c.requires.axes) refl) }

pub parts_fault-malformed-requires-clause-malformed : goal.parts_fault-malformed-requires-clause-malformed
parts_fault-malformed-requires-clause-malformed g c =
    let no = c.in_default.ensures.ended _ (none_yet (c.new-reader.ensures (of_head (head_said c.args.raw.now)) c.requires.axes) refl) in
    parts_unreadable c.args.raw.now.kind c.args.count g.row.AXES zeros c.args.cursor.now c.go_to.new.self c.place_is_within.ensures c.place_is_within-in_default.ensures
    (ap (λ (r : Reading). r.bytes) c.go_to.ensures ∙ c.take_parts.ensures.bytes) (ap (λ (r : Reading). r.place) c.go_to.ensures ∙ c.place-start.ensures.value) no

pub returns-in_default : goal.returns-in_default
returns-in_default g c = λ x start list before listed found counted was noted.
    let head = head_said c.args.raw.now in
    subst (λ (s : Stopped). HasStopped (shape_behind head start) (HasManyIdsAfterCount head.ids (rest start)) start s c.parts_fault-malformed.new.cursor) (sym c.stop.ensures)
    (no_parts (of_head head) start g.row.AXES c.args.cursor.now x c.args.count no_points c.requires.axes refl listed (counted ∙ found.count) _ _
    (parts_fail c.args.raw.now.kind c.args.count g.row.AXES zeros c.args.cursor.now c.go_to.new.self c.place_is_within.ensures c.place_is_within-in_default.ensures
    (ap (λ (r : Reading). r.bytes) c.go_to.ensures ∙ c.take_parts.ensures.bytes) (ap (λ (r : Reading). r.place) c.go_to.ensures ∙ c.place-start.ensures.value) _ _ c.parts_fault-malformed.ensures))

pub judge_points-claim-requires-clause-held : goal.judge_points-claim-requires-clause-held
judge_points-claim-requires-clause-held g c =
    (c.in-Ok.ensures.read _ (none_yet (c.new-reader.ensures (of_head (head_said c.args.raw.now)) c.requires.axes) refl)).there.held

pub returns : goal.returns
returns g c = λ x start list before listed found counted was noted.
    let head = head_said c.args.raw.now in
    let h = of_head head in
    let r = extent_read (many_parts_at c.args.raw.now.kind c.args.count g.row.AXES) points_of h g.row.AXES c.take_parts.new.reader.all c.take_parts.new.reader.points c.args.cursor.now c.take_parts.new.cursor
    (c.in-Ok.ensures.read _ (none_yet (c.new-reader.ensures h c.requires.axes) refl)) in
    let claim = named c.judge_points-claim.result in
    let inside : Inside = record { found = record { vertices = c.take_parts.new.reader.points; refused = None }; boxed = claim; ids = list.ids } in
    let shape = shape_of_parts h start g.row.AXES c.args.cursor.now x c.args.count no_points c.requires.axes refl listed (counted ∙ found.count) (not (g.row.TIGHT == 0)) list _ r.value head.bounds r.trail _ _ _ inside
    found refl refl r.read r.walked (sym r.many) c.judge_points-claim.ensures.boxed c.judge_points-claim.ensures.seen refl refl in
    (_, shape.0, (inside, shape.1, refl, c.note.ensures before list.ids was noted ∙ ap (λ (ids : Refused). first before (first claim ids)) (sym (first_none list.ids))))
