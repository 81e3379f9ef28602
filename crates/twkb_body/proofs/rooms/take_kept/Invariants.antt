-- The ids kept are the ids read, in order, from the start to the cursor's place.
use Rattle.twkb_body.proofs.Prelude.{IsTrue}
use Rattle.twkb_body.proofs.IdLoops.{IsIdLoop, IsRisingLoop}
use Rattle.twkb_body.proofs.rooms.take_kept.Given as goal

abbrev pub invariant-loop : goal.invariant-loop
invariant-loop g l = record {
  going : IsIdLoop l.count l.fn.cursor l.counter (g.S.IdStore.ids l.ids) l.cursor;
  roomy : g.S.IdStore.is_roomy l.ids;
  rise : IsTrue l.rising → IsRisingLoop l.count l.fn.cursor l.counter l.last l.cursor;
}
