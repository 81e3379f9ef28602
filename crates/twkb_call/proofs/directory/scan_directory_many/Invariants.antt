-- The windows before the next one are answered, and all their hits are in the room.
use Rattle.twkb_call.proofs.Prelude.{◌≡◌, ◌≤◌, length, OfLayer}
use Rattle.twkb_call.proofs.Answered.{Answered}
use Rattle.twkb_call.proofs.directory.scan_directory_many.Given as goal

abbrev pub invariant-loop-asked : goal.invariant-loop-asked
invariant-loop-asked l = record {
  fits : l.used ≤ length l.fn.room;
  same : length l.room ≡ length l.fn.room;
  so_far : OfLayer l.layer.bytes.now (λ trees. Answered trees l.windows l.asked l.used l.fn.scanned l.scanned l.fn.room l.room);
}
