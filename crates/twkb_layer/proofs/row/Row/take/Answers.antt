-- The header says the fields of the row, and the skim counts the vertices.
use Rattle.twkb_layer.proofs.Prelude.{ℕ, fold, refl, ap, ◌∙◌, arith, to_z-of_z, counts_on, vertices, past_blob}
use Rattle.twkb_layer.proofs.Keeping.{says_of, counted_whole, row_says}
use Rattle.twkb_layer.proofs.row.Row.take.Goals as goal

pub overflow_sub-result : goal.overflow_sub-result
overflow_sub-result c =
    let past = c.read_and_skim-raw.ensures.cursor c.requires.0 c.requires.1 in
    omega (arith, c.place-offset.ensures.value, c.place.ensures.value, ap (λ r. r.place) past)

pub returns-clause-says : goal.returns-clause-says
returns-clause-says c = λ g at.
    let past = c.read_and_skim-raw.ensures.cursor g at in
    let says = says_of g c.args.cursor.now.place c.read_and_skim-raw.result (c.read_and_skim-raw.ensures.header g at) in
    row_says _ c.read_and_skim-raw.result g c.args.cursor.now c.place-offset.ensures.sound.length_fits at says (record {
      offset = c.place-offset.ensures.value;
      bytes = omega (arith, c.place-offset.ensures.value, c.place.ensures.value, ap (λ r. r.place) past);
      vertices = c.vertices.ensures ∙ c.read_and_skim-raw.ensures.visitor g at ∙ ap (λ (n : ℕ). fold counts_on n (vertices g)) c.new-summary.ensures;
      kind = refl;
      precision = search to_z-of_z;
      sized = c.is_some.ensures;
      boxed = c.is_some-2.ensures;
    })

pub returns-clause-cursor : goal.returns-clause-cursor
returns-clause-cursor c = λ g at. c.read_and_skim-raw.ensures.cursor g at ∙ ap (λ (n : ℕ). past_blob n g c.args.cursor.now) (counted_whole g _ _ _ at)
