-- Each turn takes one more blob.
use Rattle.twkb_layer.proofs.Prelude.{ap, arith, length, ◌∙◌, Reading}
use Rattle.twkb_layer.proofs.EachBlob.{turn_of, no_turn, walk_begins, walk_goes_on, walk_fits, walk_done, walk_ends, blob_few}
use Rattle.twkb_layer.proofs.Layers.{layer_once}
use Rattle.twkb_layer.proofs.each_blob.for_each_blob.Goals as goal

pub loop-limit-init : goal.loop-limit-init
loop-limit-init g c =
    let first = c.place_is_within.ensures in
    record {
      bytes = ap (λ (r : Reading). r.bytes) c.go_to.ensures;
      kept = λ kept. kept;
      small = first.length_fits;
      going = (c.requires.0, rw c.go_to.ensures (walk_begins _ _ _ _ _ _ _ _ c.requires.1 c.requires.2 (omega (arith, first.count_fits))));
    }

pub take_blob-requires-clause-stands : goal.take_blob-requires-clause-stands
take_blob-requires-clause-stands g c =
    let inv = c.loop-limit.invariant in
    let turn = turn_of inv.going.0 _ _ _ _ _ inv.going.1.left inv.bytes c.has_next.ensures c.loop-limit-test.true in
    (turn.next.tree, turn.stands)

pub take_blob-requires-clause-fits : goal.take_blob-requires-clause-fits
take_blob-requires-clause-fits g c =
    let inv = c.loop-limit.invariant in
    let turn = turn_of inv.going.0 _ _ _ _ _ inv.going.1.left inv.bytes c.has_next.ensures c.loop-limit-test.true in
    walk_fits _ _ _ _ _ _ _ _ _ _ _ _ inv.going.1 turn.next turn.is_taken

pub overflow_add-blob : goal.overflow_add-blob
overflow_add-blob g c =
    let inv = c.loop-limit.invariant in
    let turn = turn_of inv.going.0 _ _ _ _ _ inv.going.1.left inv.bytes c.has_next.ensures c.loop-limit-test.true in
    omega (arith, blob_few _ _ _ _ _ _ _ _ _ _ _ _ inv.going.1 turn.next, inv.small)

pub loop-limit-smaller : goal.loop-limit-smaller
loop-limit-smaller g c =
    let inv = c.loop-limit.invariant in
    let turn = turn_of inv.going.0 _ _ _ _ _ inv.going.1.left inv.bytes c.has_next.ensures c.loop-limit-test.true in
    let moved = c.advance.ensures ∙ c.take_blob.ensures.cursor turn.next.tree turn.stands in
    omega (arith, ap (λ (r : Reading). r.place) moved, ap (λ (r : Reading). length r.bytes) moved, ap length inv.bytes, turn.next.ahead, turn.next.within)

pub loop-limit-preserved : goal.loop-limit-preserved
loop-limit-preserved g c =
    let inv = c.loop-limit.invariant in
    let turn = turn_of inv.going.0 _ _ _ _ _ inv.going.1.left inv.bytes c.has_next.ensures c.loop-limit-test.true in
    let took = c.take_blob.ensures in
    let moved = c.advance.ensures ∙ took.cursor turn.next.tree turn.stands in
    record {
      bytes = ap (λ (r : Reading). r.bytes) moved ∙ inv.bytes;
      kept = λ kept. took.keeps c.args.each.now c.loop-limit.blob (inv.kept kept);
      small = inv.small;
      going = (turn.next.after, rw moved (walk_goes_on _ _ _ _ _ _ _ _ _ _ _ _ inv.going.1 turn.next turn.is_taken (took.few turn.next.tree turn.stands) _ (took.state turn.next.tree turn.stands) _ took.fits));
    }

pub returns-clause-state : goal.returns-clause-state
returns-clause-state g c = λ trees h.
    let inv = c.loop-limit.invariant in
    (walk_ends _ _ _ _ _ _ _ _ _ _ _ _ inv.going.1 (walk_done _ _ _ _ _ _ _ _ _ _ _ _ inv.going.1 (no_turn _ _ _ _ _ inv.bytes c.has_next.ensures c.loop-limit-test.false)) trees h).0

pub returns-clause-keeps : goal.returns-clause-keeps
returns-clause-keeps g c = λ trees h kept.
    let inv = c.loop-limit.invariant in
    let w = inv.going.1 in
    (c.loop-limit.blob, omega (arith, w.blob_is, ap length (layer_once w.trees trees _ w.whole.layer h.layer)), inv.kept kept)

pub returns-clause-count : goal.returns-clause-count
returns-clause-count g c = λ trees h.
    let inv = c.loop-limit.invariant in
    (walk_ends _ _ _ _ _ _ _ _ _ _ _ _ inv.going.1 (walk_done _ _ _ _ _ _ _ _ _ _ _ _ inv.going.1 (no_turn _ _ _ _ _ inv.bytes c.has_next.ensures c.loop-limit-test.false)) trees h).1
