-- If all vertices are under headers of the box's own axes, the box is compared with their raw ranges.
use Rattle.twkb_body.proofs.Prelude.{◌≡◌, not, ◌==◌, sym, ap, ◌∙◌, false≢true, head_said, Reach, both, box_judged, of_head, Seen, in_units, reach_if}
use Rattle.twkb_body.proofs.ExtentJudging.{held_judged}
use Rattle.twkb_body.proofs.SeenRuns.{only_raw}
use Rattle.twkb_body.proofs.seen.Seen.are_held_by.Goals as goal
use Rattle.twkb_body.proofs.seen.Seen.are_held_by.Goals.{then-is_none, else-is_none}

pub returns-then-are : goal.returns-then-are
returns-then-are g c = λ held.
    let raw = c.args.raw.now in
    let s = c.self.inside in
    let alone : both (in_units s.axes s.raw) (reach_if s.others) ≡ in_units raw.axes s.raw = elim c.if-is_none.branch [
      | then-is_none w ↦ only_raw s.axes raw.axes s.raw s.others (w.are.ensures.0 (sym w.value-is ∙ c.if-are.true)) (c.is_none.ensures ∙ ap not w.if-is_none.true)
      | else-is_none w ↦ absurd (false≢true (sym w.if-is_none.false ∙ (sym w.value-is ∙ c.if-are.true)))
    ] in
    ap (λ (r : Reach). box_judged (not (g.row.TIGHT == 0)) (of_head (head_said raw)) (head_said raw).bounds r) (sym (ap (λ (t : Seen). t.extent) c.self.view_is) ∙ alone)
    ∙ held_judged (not (g.row.TIGHT == 0)) raw c.in-Some.bounds s.raw c.in-Some.is (c.are_held_by.ensures held)
