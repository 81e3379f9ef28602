-- The reach of a joined list is the reach of both lists, and a box holds it exactly if it holds each vertex.
use Rattle.twkb_body.proofs.Reaches.{reach_of-append, within_from_all, all_from_within}
use Rattle.twkb_body.proofs.laws.extents.Goals as goal

pub returns : goal.returns
returns c = record {
  join = reach_of-append;
  stand_for_all = λ vs box. (all_from_within box vs, within_from_all box vs);
}
