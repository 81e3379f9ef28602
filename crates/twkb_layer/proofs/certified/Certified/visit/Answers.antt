-- The visitor has seen all blobs.
use Rattle.twkb_layer.proofs.Prelude.{rules, ap, ◌∙◌, added, walk, lent_back}
use Rattle.twkb_layer.proofs.EachBlob.{lent_ends, lent_read}
use Rattle.twkb_layer.proofs.Visits.{sees, all_seen, all_walked}
use Rattle.twkb_layer.proofs.certified.Certified.visit.Goals as goal

pub returns-clause-visitor : goal.returns-clause-visitor
returns-clause-visitor g c = λ trees h.
    let v = g.V.Visit in
    let ends = lent_ends (sees v.State v.step v.passes) trees _ _ _ _ (c.for_each_blob.ensures.state trees (rw (← c.self.view_is) at h)) in
    lent_back v.state _ _ _ _ _ ends.1 (ends.0 ∙ all_seen v.State v.step v.passes 0 0 trees _) (search rules)

pub returns-clause-count : goal.returns-clause-count
returns-clause-count g c = λ trees h.
    let v = g.V.Visit in
    rw (← c.self.view_is) (c.for_each_blob.ensures.count trees (rw (← c.self.view_is) at h)
    ∙ ap (added c.self.inside.cursor.count) (lent_read (sees v.State v.step v.passes) (λ s tree. walk tree v.State v.step v.passes s) trees _ _ ∙ all_walked v.State v.step v.passes 0 0 trees _))
