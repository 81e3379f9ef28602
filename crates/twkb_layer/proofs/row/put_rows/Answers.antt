-- The room has the rows of the blobs that were taken, in its form.
use Rattle.twkb_layer.proofs.Prelude.{rules, ◌∙◌, arith, length, take, lent_back}
use Rattle.twkb_layer.proofs.EachBlob.{lent_ends}
use Rattle.twkb_layer.proofs.Keeping.{puts, rows_filled}
use Rattle.twkb_layer.proofs.row.put_rows.Goals as goal

pub returns-clause-room : goal.returns-clause-room
returns-clause-room g c = λ trees h.
    let of = g.R.FromRow.of in
    let places = length c.args.room.now in
    let ends = lent_ends (puts of) (take places trees) _ _ _ _ (c.for_each_blob.ensures.state trees h) in
    lent_back (λ room. room) _ _ _ _ _ ends.1 (ends.0 ∙ rows_filled of c.args.room.now places trees (omega arith)) (search rules)
