-- Vertices in units are merged with the others.
use Rattle.twkb_body.proofs.Prelude.{sym, ap, ◌∙◌, both, Seen, in_units, reach_if}
use Rattle.twkb_body.proofs.Reaches.{both-assoc}
use Rattle.twkb_body.proofs.seen.Seen.add_others.Goals as goal

pub returns-in-Some-clause-extent : goal.returns-in-Some-clause-extent
returns-in-Some-clause-extent c =
    let raw = in_units c.self.inside.axes c.self.inside.raw in
    let more = c.args.extent.now in
    ap (both raw) (c.merge.ensures ∙ ap (λ r. both r more) (ap reach_if (sym c.in-Some.is))) ∙ sym (both-assoc raw (reach_if c.self.inside.others) more)
    ∙ ap (λ (s : Seen). both s.extent more) c.self.view_is
