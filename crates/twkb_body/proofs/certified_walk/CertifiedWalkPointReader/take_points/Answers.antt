-- Points are shown up to where the visitor is settled, and the others are passed.
use Rattle.twkb_body.proofs.Prelude.{◌-◌, ℕ, refl, subst, ap, ◌∙◌, arith, Axes, vertex_at, vertex_of, of_head, IsStill, shown}
use Rattle.twkb_body.proofs.CertifiedWalks.{point_shown, shown_none, shown_reads, shown_counted, shown_rest, shown_ends, shown_passed}
use Rattle.twkb_body.proofs.PointReads.{points_read}
use Rattle.twkb_body.proofs.Settling.{ArePassed}
use Rattle.twkb_body.proofs.certified_walk.CertifiedWalkPointReader.take_points.Goals as goal

pub loop-done-init : goal.loop-done-init
loop-done-init g c = record { head = refl; axes = refl; name = refl; within = omega arith; shown = λ at before. shown_none _ _ _ _ _ _ _ _ _ at before }

pub take_known_point-requires-clause-counted : goal.take_known_point-requires-clause-counted
take_known_point-requires-clause-counted g c =
    let i = c.loop-done.invariant in
    let (at, before) = c.requires.ready in
    shown_counted _ _ _ _ _ _ _ _ _ at before c.loop-done.done c.loop-done.self.lost c.loop-done.trail _ c.loop-done.cursor c.if-not-self.true (i.shown at before)

pub take_known_point-requires-clause-known : goal.take_known_point-requires-clause-known
take_known_point-requires-clause-known g c =
    let i = c.loop-done.invariant in
    let (at, before) = c.requires.ready in
    rw i.axes (shown_reads _ _ _ _ _ _ _ _ _ at before c.loop-done.done c.loop-done.self.lost c.loop-done.trail _ c.loop-done.cursor c.loop-done-test.true c.if-not-self.true (i.shown at before))

pub loop-done-preserved : goal.loop-done-preserved
loop-done-preserved g c =
    let i = c.loop-done.invariant in
    let (point, read, taken) = c.take_known_point.ensures in
    record {
      head = i.head;
      axes = i.axes;
      name = i.name;
      within = omega (arith, c.loop-done-test.true);
      shown = λ at before.
          point_shown _ _ _ _ _ _ _ _ _ at before c.loop-done.self.axes c.loop-done.done c.loop-done.self.lost c.loop-done.trail c.take_known_point.new.trail _ _ c.loop-done.cursor c.take_known_point.new.cursor point i.axes c.if-not-self.true read taken
          (c.add_raw.ensures ∙ ap (λ (axes : Axes). g.V.Visit.step (g.V.Visit.state c.loop-done.self.visitor.now) (vertex_at axes c.take_known_point.new.trail.last)) c.precisions-axes.ensures) (i.shown at before);
    }

pub pass_points-requires : goal.pass_points-requires
pass_points-requires g c =
    let i = c.loop-done.invariant in
    let (at, before) = c.requires.ready in
    record { known = rw i.axes (shown_rest _ _ _ _ _ _ _ _ _ at before c.loop-done.done c.loop-done.self.lost _ _ _ i.within (i.shown at before)) }

pub returns-then-done-count : goal.returns-then-done-count
returns-then-done-count g c = points_read c.args.count c.requires.ready (λ at before.
    let i = c.loop-done.invariant in
    let h = i.shown at before in
    let still : IsStill (shown g.V.Visit.step (of_head c.args.self.now.head.now)) (g.V.Visit.state c.loop-done.self.visitor.now) = elim c.loop-done-test.branch [
      | goal.then-loop-done-test+then-not-self+else-not-is_settled w ↦ λ point. w.is_settled.ensures w.if-not-is_settled.false (vertex_of (of_head c.args.self.now.head.now) point)
      | goal.then-loop-done-test+else-not-self w ↦ h.still w.if-not-self.false
      | goal.else-loop-done-test w ↦ absurd (omega (arith, w.loop-done-test.false, c.if-done-count.true))
    ] in
    rw (i.head, i.axes, i.name) (shown_passed _ _ _ _ _ _ _ _ _ at before c.loop-done.done c.loop-done.self.lost c.loop-done.trail _ c.loop-done.cursor c.pass_points.new.cursor i.within still
    (subst (λ (n : ℕ). ArePassed (shown g.V.Visit.step (of_head c.args.self.now.head.now)) n (c.args.count - c.loop-done.done) c.loop-done.cursor c.pass_points.new.cursor) i.axes c.pass_points.ensures) h))

pub returns-else-done-count : goal.returns-else-done-count
returns-else-done-count g c = points_read c.args.count c.requires.ready (λ at before.
    let i = c.loop-done.invariant in
    rw (i.head, i.axes, i.name) (shown_ends _ _ _ _ _ _ _ _ _ at before c.loop-done.done c.loop-done.self.lost c.loop-done.trail _ c.loop-done.cursor (omega (arith, i.within, c.if-done-count.false)) (i.shown at before)))
