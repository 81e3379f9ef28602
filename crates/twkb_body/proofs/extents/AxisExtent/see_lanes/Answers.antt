-- The range of the lanes is joined to the range before, if there is one.
use Rattle.twkb_body.proofs.Prelude.{◌≡◌, [], ◌∷◌, Option, ap, ◌∙◌, arith, ints, w64, to_z, of_z, Span, joined, span_of}
use Rattle.twkb_body.proofs.ExtentLanes.{ends_joined, no_ends}
use Rattle.twkb_body.proofs.extents.AxisExtent.see_lanes.Goals as goal
use Rattle.twkb_body.proofs.extents.AxisExtent.see_lanes.Goals.{then-least-greatest, else-least-greatest}

pub returns-clause-range : goal.returns-clause-range
returns-clause-range c fit =
    elim c.if-least-greatest.branch [
      | then-least-greatest w ↦
          let base : to_z w64 (of_z w64 c.args.self.now.last) ≡ c.args.self.now.last = omega (arith, ints) in
          let least : to_z w64 (of_z w64 w.coordinate_at.result) ≡ w.coordinate_at.result = omega (arith, ints) in
          let greatest : to_z w64 (of_z w64 w.coordinate_at-then-least-greatest.result) ≡ w.coordinate_at-then-least-greatest.result = omega (arith, ints) in
          let fits = fit w.if-least-greatest.true in
          let low = (rw base at w.coordinate_at.ensures) fits.0 in
          let high = (rw base at w.coordinate_at-then-least-greatest.ensures) fits.1 in
          ap (λ e. e.range) w.self-is ∙ (rw greatest at w.add-then-least-greatest.ensures)
          ∙ ap (λ (t : Option Span). joined t (span_of (w.coordinate_at-then-least-greatest.result ∷ []))) (rw least at w.add.ensures)
          ∙ ends_joined c.args.self.now.range c.args.self.now.last c.args.least c.args.greatest w.coordinate_at.result w.coordinate_at-then-least-greatest.result w.if-least-greatest.true low high
      | else-least-greatest w ↦ ap (λ e. e.range) w.self-is ∙ no_ends c.args.self.now.range c.args.self.now.last c.args.least c.args.greatest w.if-least-greatest.false
    ]
