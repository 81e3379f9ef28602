-- Hits as other languages get them.
use Rattle.std.specs.Prelude.{List, length, map, sum_by, flat_map}
use Rattle.twkb_num.specs.Cursor.{added}
use Rattle.twkb_body.specs.Geometry.{Geometry}
use Rattle.twkb_layer.specs.Directory.{directory_cost}
use Rattle.twkb_layer.specs.Hits.{hits, found_blobs}
use Rattle.twkb_layer.specs.declared.hits.Found.{Found}
use Rattle.twkb_call.specs.Window.{ranges_of}
use Rattle.twkb_call.specs.declared.scans.Hit.{Hit}
use Rattle.twkb_call.specs.declared.scans.Scanned.{Scanned}
use Rattle.twkb_call.specs.declared.window.Window.{Window}

-- the number, the offset and the length of a blob
abbrev pub hit_from : Found → Hit
hit_from found = record { blob = found.blob; offset = found.offset; bytes = found.bytes }

-- the hits in each of the windows, one window after another
abbrev pub hits_in_all : List Geometry → List Window → List Hit
hits_in_all trees windows = flat_map (λ w. map hit_from (found_blobs trees (ranges_of w))) windows

-- what a scan with a directory says of a window: how many hits it has, and how many bytes it reads
abbrev pub scanned_with : List Geometry → Window → Scanned
scanned_with trees w = record {
  hits = length (hits trees (ranges_of w));
  bytes_read = added 0 (sum_by (directory_cost (ranges_of w)) trees);
}
