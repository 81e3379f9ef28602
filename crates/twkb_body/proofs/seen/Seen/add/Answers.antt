-- Ranges of the same axes are joined in raw coordinates, which is joining them in units.
use Rattle.twkb_body.proofs.Prelude.{◌≡◌, sym, ap, ◌∙◌, Axes, both, Seen, in_units, reach_if}
use Rattle.twkb_body.proofs.SeenRuns.{raw_grows}
use Rattle.twkb_body.proofs.seen.Seen.add.Goals as goal

pub returns-then-are-clause-extent : goal.returns-then-are-clause-extent
returns-then-are-clause-extent c =
    let s = c.self.inside in
    let more = c.args.ranges.now in
    let same : c.args.axes ≡ s.axes = sym (c.are.ensures.0 c.if-are.true) in
    ap (λ (a : Axes). both (in_units a c.join.new.self) (reach_if s.others)) (sym same)
    ∙ raw_grows (in_units c.args.axes c.join.new.self) (in_units c.args.axes s.raw) (reach_if s.others) (in_units c.args.axes more) c.join.ensures
    ∙ ap (λ (a : Axes). both (both (in_units a s.raw) (reach_if s.others)) (in_units c.args.axes more)) same
    ∙ ap (λ (t : Seen). both t.extent (in_units c.args.axes more)) c.self.view_is
