-- The slots before this one were pushed.
use Rattle.twkb_layer.proofs.Prelude.{◌≡◌, ◌+◌, ◌++◌, take, vec_capacity, vec_len}
use Rattle.twkb_layer.proofs.placing.push.Given as goal

abbrev pub invariant-loop-slot : goal.invariant-loop-slot
invariant-loop-slot g l = record {
  items : l.slots.items ≡ l.initial.slots.items ++ take l.slot-index l.own;
  len : vec_len l.slots ≡ vec_len l.initial.slots + l.slot-index;
  capacity : vec_capacity l.slots ≡ vec_capacity l.initial.slots;
}
