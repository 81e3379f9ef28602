-- The ranges and the other vertices below are added one after another, which is adding their whole reach.
use Rattle.twkb_body.proofs.Prelude.{sym, ap, ◌∙◌, both, Seen, in_units, reach_if}
use Rattle.twkb_body.proofs.Reaches.{both-assoc, both-none}
use Rattle.twkb_body.proofs.seen.Seen.show_all.Goals as goal

pub returns-in-Some : goal.returns-in-Some
returns-in-Some c = record {
  asked = c.add_others.ensures.asked ∙ c.add.ensures.asked;
  extent = λ asked.
      let before = c.args.self.now.extent in
      let raw = in_units c.below.inside.axes c.below.inside.raw in
      c.add_others.ensures.extent ∙ ap (λ r. both r c.in-Some.others) c.add.ensures.extent ∙ both-assoc before raw c.in-Some.others
      ∙ ap (λ o. both before (both raw (reach_if o))) (sym c.in-Some.is) ∙ ap (λ (s : Seen). both before s.extent) c.below.view_is;
}

pub returns-in_default : goal.returns-in_default
returns-in_default c = record {
  asked = c.add.ensures.asked;
  extent = λ asked.
      let before = c.args.self.now.extent in
      let raw = in_units c.below.inside.axes c.below.inside.raw in
      c.add.ensures.extent ∙ ap (both before) (sym (both-none raw))
      ∙ ap (λ o. both before (both raw (reach_if o))) (sym c.in_default.is) ∙ ap (λ (s : Seen). both before s.extent) c.below.view_is;
}
