-- Each turn looks at the blob of the next slots.
use Rattle.twkb_layer.proofs.Prelude.{refl, ◌∙◌, arith}
use Rattle.twkb_layer.proofs.Looking.{entry_fits, entry_stands, look_begins, look_ends, look_known, look_past}
use Rattle.twkb_layer.proofs.scans.scan_slots.Goals as goal

pub loop-entry-init : goal.loop-entry-init
loop-entry-init g c = record {
  bytes = refl;
  small = c.place_is_within.ensures.length_fits;
  going = look_begins g.R.FromFound.of _ _ _ _ _ c.requires.0 c.requires.1 c.requires.2 c.place_is_within.ensures.length_fits (let s = c.place_is_within.ensures in omega arith);
}

pub look_at-requires-clause-stands : goal.look_at-requires-clause-stands
look_at-requires-clause-stands g c =
    let inv = c.loop-entry.invariant in
    let next = look_known g.R.FromFound.of _ _ _ _ _ _ _ _ _ _ inv.going c.in-Some.ensures.some in
    entry_stands g.R.FromFound.of _ _ _ _ next inv.bytes

pub overflow_add-blob : goal.overflow_add-blob
overflow_add-blob g c =
    let inv = c.loop-entry.invariant in
    let next = look_known g.R.FromFound.of _ _ _ _ _ _ _ _ _ _ inv.going c.in-Some.ensures.some in
    omega (arith, (entry_fits g.R.FromFound.of _ _ _ _ next).0, inv.small)

pub loop-entry-preserved : goal.loop-entry-preserved
loop-entry-preserved g c =
    let inv = c.loop-entry.invariant in
    let next = look_known g.R.FromFound.of _ _ _ _ _ _ _ _ _ _ inv.going c.in-Some.ensures.some in
    record {
      bytes = c.look_at.ensures.bytes ∙ inv.bytes;
      small = inv.small;
      going = look_past g.R.FromFound.of _ _ _ _ next inv.bytes c.new-windows.ensures c.look_at.ensures.found c.look_at.ensures.count;
    }

pub returns-clause-answer : goal.returns-clause-answer
returns-clause-answer g c = λ trees h. (look_ends g.R.FromFound.of _ _ _ _ _ _ _ _ _ c.loop-entry.invariant.going (c.first.ensures.none c.in_default.is) trees h).0

pub returns-clause-room : goal.returns-clause-room
returns-clause-room g c = λ trees h. (look_ends g.R.FromFound.of _ _ _ _ _ _ _ _ _ c.loop-entry.invariant.going (c.first.ensures.none c.in_default.is) trees h).1

pub returns-clause-count : goal.returns-clause-count
returns-clause-count g c = λ trees h. (look_ends g.R.FromFound.of _ _ _ _ _ _ _ _ _ c.loop-entry.invariant.going (c.first.ensures.none c.in_default.is) trees h).2
