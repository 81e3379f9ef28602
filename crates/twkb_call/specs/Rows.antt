-- Rows in a form that can be passed to other languages: only numbers and flags.
use Rattle.twkb_head.specs.Header.{code_of}
use Rattle.twkb_layer.specs.declared.row.Row as layer
use Rattle.twkb_call.specs.declared.rows.Row.{Row}

-- a row as numbers and flags
abbrev pub in_numbers : layer.Row → Row
in_numbers row = record {
  blob = row.blob;
  offset = row.offset;
  bytes = row.bytes;
  vertices = row.vertices;
  kind = code_of row.kind;
  precision = row.precision;
  has_size = row.has_size;
  has_box = row.has_box;
}
