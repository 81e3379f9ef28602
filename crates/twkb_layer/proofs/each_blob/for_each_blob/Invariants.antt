-- The state and the count are those of the blobs before the place; the rest is a certified layer.
use Rattle.twkb_layer.proofs.Prelude.{◌≡◌, ◌<◌, ◌-◌, ◌^◌, List, length, Geometry}
use Rattle.twkb_layer.proofs.EachBlob.{Walking}
use Rattle.twkb_layer.proofs.each_blob.for_each_blob.Given as goal

abbrev pub invariant-loop-limit : goal.invariant-loop-limit
invariant-loop-limit g l = record {
  bytes : l.cursor.bytes ≡ l.fn.cursor.bytes;
  kept : g.B.EachBlob.keeps l.fn.each 0 l.fn.each → g.B.EachBlob.keeps l.fn.each l.blob l.each;
  small : length l.fn.cursor.bytes < 2 ^ 64;
  going : (rest : List Geometry) × Walking g.B.EachBlob.step g.B.EachBlob.reads l.limit l.fn.cursor.bytes l.fn.cursor.count (g.B.EachBlob.state l.fn.each) rest l.blob l.cursor.place l.cursor.count (g.B.EachBlob.state l.each) (g.B.EachBlob.fits l.each);
}

abbrev pub decreases-loop-limit : goal.decreases-loop-limit
decreases-loop-limit g l = length l.cursor.bytes - l.cursor.place
