-- A count is read, and as many parts are shown to the visitor.
use Rattle.twkb_body.proofs.Prelude.{rules, ◌≡◌, ℕ, true, Ok, refl, ap, ◌∙◌, arith, Reading, one_answer, no_failure, Reader, PointValue, points_of, Body, of_head, shape_behind, shown_all, Stage, IsBefore, no_points, shown, many_parts_at}
use Rattle.twkb_body.proofs.CertifiedWalks.{walk_shown, lent_back}
use Rattle.twkb_body.proofs.ShapeSteps.{no_count, shape_shown, parts_read}
use Rattle.twkb_body.proofs.shape.visit_shape.Goals as goal

-- a reader that can read a value is before it
before : {A S : Type 0} {stands : Stage S → Type 0} {each : ℕ → PointValue → Reader A} {at : Stage S} {r : Reading} (value : A) (stop : Reading) → stands at → at.trail.points ≡ 0 → each at.axes at.trail.last r ≡ (Ok value, stop) → IsBefore stands true each r at
before value stop there none read = record { there = there; counted = omega (arith, none); readable = λ t. (value, stop, read) }

pub unreachable-requires : goal.unreachable-requires
unreachable-requires g c =
    let s = c.requires.stands in
    no_failure (shape_behind c.args.head.now c.args.cursor.now) s.0 s.1 _ c.in_default.field-0 s.2 (no_count (of_head c.args.head.now) c.args.cursor.now c.in_default.field-0 _ c.in_default.ensures)

pub take_parts-requires : goal.take_parts-requires
take_parts-requires g c =
    let (body, stop, e) = c.requires.stands in
    let list = c.in-Ok.ensures in
    let p = parts_read (of_head c.args.head.now) c.args.cursor.now _ _ list.0 c.in-Ok.count no_points c.axes-axes.ensures.value refl list.1 list.2 body stop e in
    record { ready = (_, before p.0 stop c.new-walk.ensures.stands refl p.1) }

pub unreachable-requires-in_default-take_parts : goal.unreachable-requires-in_default-take_parts
unreachable-requires-in_default-take_parts g c =
    let (body, stop, e) = c.requires.stands in
    let list = c.in-Ok.ensures in
    let p = parts_read (of_head c.args.head.now) c.args.cursor.now _ _ list.0 c.in-Ok.count no_points c.axes-axes.ensures.value refl list.1 list.2 body stop e in
    no_failure (many_parts_at c.args.head.now.kind c.in-Ok.count c.axes-axes.result no_points.last c.pass_count.new.cursor) p.0 stop _ _ p.1 (c.in_default-take_parts.ensures.ended _ (before p.0 stop c.new-walk.ensures.stands refl p.1))

pub returns-clause-cursor : goal.returns-clause-cursor
returns-clause-cursor g c = λ body stop e.
    let list = c.in-Ok.ensures in
    let p = parts_read (of_head c.args.head.now) c.args.cursor.now _ _ list.0 c.in-Ok.count no_points c.axes-axes.ensures.value refl list.1 list.2 body stop e in
    let read = c.in-Ok-take_parts.ensures.read _ (before p.0 stop c.new-walk.ensures.stands refl p.1) in
    (one_answer (many_parts_at c.args.head.now.kind c.in-Ok.count c.axes-axes.result no_points.last c.pass_count.new.cursor) read.value p.0 c.take_parts.new.cursor stop read.read p.1).1

pub returns-clause-visitor : goal.returns-clause-visitor
returns-clause-visitor g c = λ body stop e.
    let list = c.in-Ok.ensures in
    let step = g.V.Visit.step in
    let p = parts_read (of_head c.args.head.now) c.args.cursor.now _ _ list.0 c.in-Ok.count no_points c.axes-axes.ensures.value refl list.1 list.2 body stop e in
    let read = walk_shown (shown step) (many_parts_at c.args.head.now.kind c.in-Ok.count c.axes-axes.result) points_of (of_head c.args.head.now) _ c.axes-axes.result no_points _ _ _ _ _ _ _ c.pass_count.new.cursor c.take_parts.new.cursor
    (c.in-Ok-take_parts.ensures.read _ (before p.0 stop c.new-walk.ensures.stands refl p.1)) in
    let (shown, is, seen) = shape_shown (of_head c.args.head.now) c.args.cursor.now _ _ list.0 c.in-Ok.count no_points c.axes-axes.ensures.value refl list.1 list.2 step read.2 (g.V.Visit.state c.args.visitor.now) (g.V.Visit.state c.take_parts.new.reader.visitor.now) (Ok tt) c.take_parts.new.cursor
    (read.0, read.1, read.3) in
    lent_back g.V.Visit.state _ _ _ _ _ read.4
    (seen ∙ ap (λ (b : Body). shown_all step c.args.head.now b (g.V.Visit.state c.args.visitor.now)) (one_answer (shape_behind c.args.head.now c.args.cursor.now) shown body c.take_parts.new.cursor stop is e).0) (search rules)
