-- The points so far were shown, and are no more than `count`.
use Rattle.twkb_body.proofs.Prelude.{◌≡◌, ◌-◌, ◌≤◌, GName, Header, Stage, shown}
use Rattle.twkb_body.proofs.CertifiedWalks.{AreBefore, HasShown}
use Rattle.twkb_body.proofs.certified_walk.CertifiedWalkPointReader.take_points.Given as goal

abbrev pub invariant-loop-done : goal.invariant-loop-done
invariant-loop-done g l = record {
  head : l.self.head.now ≡ l.fn.self.head.now;
  axes : l.self.axes ≡ l.fn.self.axes;
  name : l.self.visitor.ghost_name ≡ l.fn.self.visitor.ghost_name;
  within : l.done ≤ l.count;
  shown : (at : Stage ((Header × GName) × g.V.Visit.State)) (before : AreBefore (shown g.V.Visit.step) l.fn.self.head.now l.fn.self.axes l.fn.self.lost l.fn.self.trail l.fn.self.visitor.ghost_name (g.V.Visit.state l.fn.self.visitor.now) l.count l.fn.cursor at)
      → HasShown (shown g.V.Visit.step) l.fn.self.head.now l.fn.self.axes l.fn.self.lost l.fn.self.trail l.fn.self.visitor.ghost_name (g.V.Visit.state l.fn.self.visitor.now) l.count l.fn.cursor at before l.done l.self.lost l.trail (g.V.Visit.state l.self.visitor.now) l.cursor;
}

abbrev pub decreases-loop-done : goal.decreases-loop-done
decreases-loop-done g l = l.count - l.done
