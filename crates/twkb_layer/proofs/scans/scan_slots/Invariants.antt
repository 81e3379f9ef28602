-- Hits and cost so far are the ones of the blobs before; the slots that are left are of the blobs still to come.
use Rattle.twkb_layer.proofs.Prelude.{◌≡◌, ◌<◌, ◌^◌, length, entries_kept}
use Rattle.twkb_layer.proofs.Looking.{Looking}
use Rattle.twkb_layer.proofs.scans.scan_slots.Given as goal

abbrev pub invariant-loop-entry : goal.invariant-loop-entry
invariant-loop-entry g l = record {
  bytes : l.cursor.bytes ≡ l.fn.cursor.bytes;
  small : length l.fn.cursor.bytes < 2 ^ 64;
  going : Looking g.R.FromFound.of l.fn.window l.fn.cursor.bytes l.fn.cursor.count l.fn.room (entries_kept l.left) l.cursor.count l.blob l.found l.room;
}

abbrev pub decreases-loop-entry : goal.decreases-loop-entry
decreases-loop-entry g l = length l.left
