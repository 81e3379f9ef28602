-- The room has the slots of all blobs.
use Rattle.twkb_layer.proofs.Prelude.{rules, refl, arith, [], take, drop, ◌∙◌, lent_back, entry_of, adds, entries_kept}
use Rattle.twkb_layer.proofs.EachBlob.{lent_ends, all_added}
use Rattle.twkb_layer.proofs.placing.put_slots.Goals as goal

pub returns-clause-directory : goal.returns-clause-directory
returns-clause-directory c = λ trees h.
    let ends = lent_ends (adds entry_of) trees _ _ _ _ (c.for_each_blob.ensures.state trees h) in
    lent_back (λ room. entries_kept (take c.for_each_blob.new.each.used room)) _ _ _ _ _ ends.1 (ends.0 ∙ all_added entry_of [] 0 0 trees) (search rules)

pub returns-clause-rest : goal.returns-clause-rest
returns-clause-rest c =
    let ends = lent_ends (adds entry_of) c.requires.0 _ _ _ _ (c.for_each_blob.ensures.state c.requires.0 c.requires.1) in
    let kept = c.for_each_blob.ensures.keeps c.requires.0 c.requires.1 (omega arith, refl) in
    lent_back (drop c.for_each_blob.new.each.used) _ _ _ _ _ ends.1 kept.2.1 (search rules)
