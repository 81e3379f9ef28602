-- A header is read, then the count of parts and their ids, then the points: the geometry is read, or stops where one of them does.
use Rattle.twkb_body.proofs.Prelude.{◌≡◌, ◌-◌, not, ◌==◌, false, Ok, refl, sym, ap, subst, ◌∙◌, arith, err_from_is_err_and, rest, deepest, is_collection, is_multi, head_said, Reach, no_body, count_at, members_under, named, HasManyIdsAfterCount, of_head, shape_behind, in_units, ReadsParts}
use Rattle.twkb_body.proofs.Ending.{shape_stops, body_stops, body_ends}
use Rattle.twkb_body.proofs.ExtentJudging.{nothing_judged}
use Rattle.twkb_body.proofs.GeometrySteps.{empty_body, shape_body, nothing_found, nothing_inside}
use Rattle.twkb_body.proofs.HeadFacts.{head_size}
use Rattle.twkb_body.proofs.Noting.{first_none}
use Rattle.twkb_body.proofs.SeenRuns.{in_units_none}
use Rattle.twkb_body.proofs.ShapeSteps.{no_count}
use Rattle.twkb_body.proofs.Stopping.{stops_outside}
use Rattle.twkb_body.proofs.shape.take_shape.Goals as goal
use Rattle.twkb_body.proofs.shape.take_shape.Goals.{in-2+in_ok-vertices-in-2, in-3+in_ok-vertices-in-3, in_default+in_ok-vertices-in_default}

pub judge_size-requires : goal.judge_size-requires
judge_size-requires g c =
    let (before, read) = c.requires.read in
    let h = c.in_ok-raw.ensures.ok before read in
    head_size before c.take_header.new.cursor (head_said c.in_ok-raw.raw) c.args.depth h.0 h.1 _ (omega (arith, c.place.ensures.value))

pub returns-then-raw : goal.returns-then-raw
returns-then-raw g c = λ before read.
    let head = head_said c.in_ok-raw.raw in
    let h = c.in_ok-raw.ensures.ok before read in
    let a = c.take_header.new.cursor in
    let saw = subst (λ (r : Reach). g.A.Above.saw c.args.above.now c.show.new.self r) (ap (in_units c.in_ok-raw.raw.axes) c.empty.ensures ∙ in_units_none c.in_ok-raw.raw.axes) c.show.ensures in
    let inside = nothing_inside (not (g.row.TIGHT == 0)) (of_head head) head.bounds a.place (λ r. g.A.Above.saw c.args.above.now c.show.new.self r) saw (sym (nothing_judged (not (g.row.TIGHT == 0)) (of_head head) head.bounds)) in
    rw (sym c.in_ok-raw.ensures.same) (body_ends (not (g.row.TIGHT == 0)) c.args.depth c.requires.shallowest c.requires.deepest before a read.sound head h.0 h.1 (λ r. g.A.Above.saw c.args.above.now c.show.new.self r) no_body a nothing_found
    (empty_body (of_head head) (members_under (deepest - c.args.depth)) a c.if-raw.true) inside c.is_refused-was_refused.result (named c.take_header.new.pass.refused) c.take_header.new.pass c.note.new.self (named c.judge_size.result) 0 c.place.result
    c.is_refused-was_refused.ensures (sym (first_none (named c.take_header.new.pass.refused))) c.note.ensures c.judge_size.ensures c.place.ensures.value refl)

pub returns-in_err-count : goal.returns-in_err-count
returns-in_err-count g c = λ before read.
    let head = head_said c.in_ok-raw.raw in
    let a = c.take_header.new.cursor in
    let h = c.in_ok-raw.ensures.ok before read in
    let single : is_collection head.kind ≡ false = c.in_ok-raw.ensures.collection ∙ c.requires.shape in
    let p = err_from_is_err_and c.from_residual-in_err-count.result c.from_residual-in_err-count.ensures.1 in
    rw p.1 (body_stops (not (g.row.TIGHT == 0)) c.args.depth c.requires.shallowest c.requires.deepest before a read.sound head h.0 h.1 c.take_count.new.pass.stopped c.take_count.new.cursor
    (shape_stops (deepest - c.args.depth) c.args.depth head a c.if-raw.false single c.take_count.new.pass.stopped c.take_count.new.cursor
    (stops_outside (count_at (is_multi head.kind) head.ids a) (shape_behind head a) (HasManyIdsAfterCount head.ids (rest a)) (HasManyIdsAfterCount head.ids (rest a)) a a _ _
    (λ m f. no_count (of_head head) _ m _ f) (λ bytes wants. (bytes, wants)) c.in_err-count.ensures)))

pub returns-in_err-vertices-in-2 : goal.returns-in_err-vertices-in-2
returns-in_err-vertices-in-2 g c = λ before read.
    let head = head_said c.in_ok-raw.raw in
    let a = c.take_header.new.cursor in
    let h = c.in_ok-raw.ensures.ok before read in
    let single : is_collection head.kind ≡ false = c.in_ok-raw.ensures.collection ∙ c.requires.shape in
    let p = err_from_is_err_and c.from_residual-in_err-vertices-in-2.result c.from_residual-in_err-vertices-in-2.ensures.1 in
    let list = c.in_ok-count.ensures in
    rw p.1 (body_stops (not (g.row.TIGHT == 0)) c.args.depth c.requires.shallowest c.requires.deepest before a read.sound head h.0 h.1 c.take_parts_of.new.pass.stopped c.take_parts_of.new.cursor
    (shape_stops (deepest - c.args.depth) c.args.depth head a c.if-raw.false single c.take_parts_of.new.pass.stopped c.take_parts_of.new.cursor
    (c.in_err-vertices-in-2.ensures list.0 a list.2.0 (named c.take_header.new.pass.refused) list.1 list.2.1 list.2.2 c.is_refused-was_refused.ensures list.2.3)))

pub returns-in_err-vertices-in-3 : goal.returns-in_err-vertices-in-3
returns-in_err-vertices-in-3 g c = λ before read.
    let head = head_said c.in_ok-raw.raw in
    let a = c.take_header.new.cursor in
    let h = c.in_ok-raw.ensures.ok before read in
    let single : is_collection head.kind ≡ false = c.in_ok-raw.ensures.collection ∙ c.requires.shape in
    let p = err_from_is_err_and c.from_residual-in_err-vertices-in-3.result c.from_residual-in_err-vertices-in-3.ensures.1 in
    let list = c.in_ok-count.ensures in
    rw p.1 (body_stops (not (g.row.TIGHT == 0)) c.args.depth c.requires.shallowest c.requires.deepest before a read.sound head h.0 h.1 c.take_parts_of-in-3.new.pass.stopped c.take_parts_of-in-3.new.cursor
    (shape_stops (deepest - c.args.depth) c.args.depth head a c.if-raw.false single c.take_parts_of-in-3.new.pass.stopped c.take_parts_of-in-3.new.cursor
    (c.in_err-vertices-in-3.ensures list.0 a list.2.0 (named c.take_header.new.pass.refused) list.1 list.2.1 list.2.2 c.is_refused-was_refused.ensures list.2.3)))

pub returns-in_err-vertices-in_default : goal.returns-in_err-vertices-in_default
returns-in_err-vertices-in_default g c = λ before read.
    let head = head_said c.in_ok-raw.raw in
    let a = c.take_header.new.cursor in
    let h = c.in_ok-raw.ensures.ok before read in
    let single : is_collection head.kind ≡ false = c.in_ok-raw.ensures.collection ∙ c.requires.shape in
    let p = err_from_is_err_and c.from_residual-in_err-vertices-in_default.result c.from_residual-in_err-vertices-in_default.ensures.1 in
    let list = c.in_ok-count.ensures in
    rw p.1 (body_stops (not (g.row.TIGHT == 0)) c.args.depth c.requires.shallowest c.requires.deepest before a read.sound head h.0 h.1 c.take_parts_of-in_default.new.pass.stopped c.take_parts_of-in_default.new.cursor
    (shape_stops (deepest - c.args.depth) c.args.depth head a c.if-raw.false single c.take_parts_of-in_default.new.pass.stopped c.take_parts_of-in_default.new.cursor
    (c.in_err-vertices-in_default.ensures list.0 a list.2.0 (named c.take_header.new.pass.refused) list.1 list.2.1 list.2.2 c.is_refused-was_refused.ensures list.2.3)))

pub judge_size-requires-2 : goal.judge_size-requires-2
judge_size-requires-2 g c =
    let (before, read) = c.requires.read in
    let head = head_said c.in_ok-raw.raw in
    let a = c.take_header.new.cursor in
    let h = c.in_ok-raw.ensures.ok before read in
    let list = c.in_ok-count.ensures in
    let parts : ReadsParts (not (g.row.TIGHT == 0)) head c.in_ok-count.count c.is_refused-was_refused.result (λ r. g.A.Above.saw c.args.above.now c.match-axes_of.above r) c.take_count.new.pass c.match-axes_of.pass
    c.take_count.new.cursor (Ok c.match-axes_of.vertices) c.match-axes_of.cursor =
    elim c.match-axes_of.branch [
      | in-2+in_ok-vertices-in-2 w ↦ rw (w.pass-is, w.cursor-is, w.above-is, w.vertices-is) w.in_ok-vertices-in-2.ensures
      | in-3+in_ok-vertices-in-3 w ↦ rw (w.pass-is, w.cursor-is, w.above-is, w.vertices-is) w.in_ok-vertices-in-3.ensures
      | in_default+in_ok-vertices-in_default w ↦ rw (w.pass-is, w.cursor-is, w.above-is, w.vertices-is) w.in_ok-vertices-in_default.ensures
    ] in
    let ended = parts list.0 a list.2.0 (named c.take_header.new.pass.refused) list.1 list.2.1 list.2.2 c.is_refused-was_refused.ensures list.2.3 in
    head_size before a head c.args.depth h.0 h.1 _ (omega (arith, c.place-2.ensures.value, ended.2.1.few))

pub returns : goal.returns
returns g c = λ before read.
    let head = head_said c.in_ok-raw.raw in
    let a = c.take_header.new.cursor in
    let h = c.in_ok-raw.ensures.ok before read in
    let list = c.in_ok-count.ensures in
    let parts : ReadsParts (not (g.row.TIGHT == 0)) head c.in_ok-count.count c.is_refused-was_refused.result (λ r. g.A.Above.saw c.args.above.now c.match-axes_of.above r) c.take_count.new.pass c.match-axes_of.pass
    c.take_count.new.cursor (Ok c.match-axes_of.vertices) c.match-axes_of.cursor =
    elim c.match-axes_of.branch [
      | in-2+in_ok-vertices-in-2 w ↦ rw (w.pass-is, w.cursor-is, w.above-is, w.vertices-is) w.in_ok-vertices-in-2.ensures
      | in-3+in_ok-vertices-in-3 w ↦ rw (w.pass-is, w.cursor-is, w.above-is, w.vertices-is) w.in_ok-vertices-in-3.ensures
      | in_default+in_ok-vertices-in_default w ↦ rw (w.pass-is, w.cursor-is, w.above-is, w.vertices-is) w.in_ok-vertices-in_default.ensures
    ] in
    let ended = parts list.0 a list.2.0 (named c.take_header.new.pass.refused) list.1 list.2.1 list.2.2 c.is_refused-was_refused.ensures list.2.3 in
    let single : is_collection head.kind ≡ false = c.in_ok-raw.ensures.collection ∙ c.requires.shape in
    rw (sym c.in_ok-raw.ensures.same) (body_ends (not (g.row.TIGHT == 0)) c.args.depth c.requires.shallowest c.requires.deepest before a read.sound head h.0 h.1 (λ r. g.A.Above.saw c.args.above.now c.match-axes_of.above r) ended.0 c.match-axes_of.cursor ended.2.0
    (shape_body (of_head head) (members_under (deepest - c.args.depth)) a c.if-raw.false single ∙ ended.1) ended.2.1 c.is_refused-was_refused.result (named c.take_header.new.pass.refused) c.match-axes_of.pass c.note-2.new.self (named c.judge_size-2.result)
    c.match-axes_of.vertices c.place-2.result c.is_refused-was_refused.ensures ended.2.3 c.note-2.ensures c.judge_size-2.ensures c.place-2.ensures.value ended.2.2)
