-- The header is read once more, and its field is the one that a geometry read from there is malformed at.
use Rattle.twkb_body.proofs.Prelude.{◌-◌, ap, subst, sym, ◌∙◌, Reading, rest, deepest, head_fails, Stopped, HasLongList, geometry_at, HasStopped}
use Rattle.twkb_body.proofs.GeometrySteps.{header_fails}
use Rattle.twkb_body.proofs.Rereading.{refused_again}
use Rattle.twkb_body.proofs.fields.stop_at_header.Goals as goal

pub returns : goal.returns
returns c = record {
  stopped = λ before bytes place sound.
      let same = ap (λ (r : Reading). r.bytes) c.go_to.ensures ∙ sym bytes in
      subst (λ (s : Stopped). HasStopped (geometry_at (deepest - c.args.depth) before) (HasLongList c.args.depth (rest before)) before s c.read_raw.new.cursor) (sym c.stop.ensures)
      (header_fails (deepest - c.args.depth) before c.in-Err.malformed _
      (head_fails c.args.depth c.requires.shallowest c.requires.deepest before _ c.in-Err.malformed sound (ap (λ (r : Reading). r.bytes) c.in-Err.ensures.still ∙ same)
      (refused_again c.in-Err.malformed c.args.depth before c.go_to.new.self same (ap (λ (r : Reading). r.place) c.go_to.ensures ∙ sym place) c.in-Err.ensures.refused)));
}
