-- The text that is printed for the bytes of a file.
use Rattle.std.specs.Prelude.{◌≡◌, ◌==◌, ℕ, Bool, List, [], ◌∷◌, ◌++◌, length, flat_map, sum_by, codes, decimal, Option, Some, None, if◌then◌else◌}
use Rattle.std.specs.Fmt.{signed_decimal}
use Rattle.twkb_head.specs.declared.boxes.Bounds.{Bounds}
use Rattle.twkb_head.specs.declared.kinds.Kind.{Kind}
use Rattle.twkb_head.specs.declared.kinds.Kind.TheVariants.{Point, LineString, Polygon, MultiPoint, MultiLineString, MultiPolygon, GeometryCollection}
use Rattle.twkb_body.specs.Geometry.{Geometry}
use Rattle.twkb_body.specs.Claims.{Claim, IsTrueClaim}
use Rattle.twkb_body.specs.Tight.{IsTightlyTrue}
use Rattle.twkb_layer.specs.Directory.{directory_cost}
use Rattle.twkb_layer.specs.Hits.{hits, cost}
use Rattle.twkb_layer.specs.Layer.{IsCertifiedLayer, vertex_count}
use Rattle.twkb_layer.specs.Refusal.{IsRefusal}
use Rattle.twkb_layer.specs.Rows.{rows}
use Rattle.twkb_layer.specs.Tight.{IsTightLayer}
use Rattle.twkb_layer.specs.declared.hits.Hit.{Hit}
use Rattle.twkb_layer.specs.declared.row.Row.{Row}
use Rattle.twkb_tool.specs.declared.judge.Verdict.{Verdict}
use Rattle.twkb_tool.specs.declared.judge.Verdict.TheVariants.{Yes, No}
use Rattle.twkb_tool.specs.declared.request.Request.{Request}
use Rattle.twkb_tool.specs.declared.request.Request.TheVariants.{Check, CheckTight, List as ListBlobs, Scan}

-- ---- words

-- the word for a kind of refusal; a number that is no kind has none
unfoldable pub word_of : ℕ → Option (List ℕ)
word_of kind =
    if kind == 1 then Some (codes "cut")
    else if kind == 2 then Some (codes "varint")
    else if kind == 3 then Some (codes "type")
    else if kind == 4 then Some (codes "depth")
    else if kind == 5 then Some (codes "range")
    else if kind == 6 then Some (codes "size")
    else if kind == 7 then Some (codes "box")
    else if kind == 8 then Some (codes "ids")
    else if kind == 9 then Some (codes "loose")
    else None

-- the name of a type
unfoldable pub name_of : Kind → List ℕ
name_of Point = codes "point"
name_of LineString = codes "linestring"
name_of Polygon = codes "polygon"
name_of MultiPoint = codes "multipoint"
name_of MultiLineString = codes "multilinestring"
name_of MultiPolygon = codes "multipolygon"
name_of GeometryCollection = codes "geometrycollection"

-- the word for whether a blob has a size, or a box
unfoldable pub yes_no : Bool → List ℕ
yes_no is = if is then codes "yes" else codes "no"

-- ---- lines

-- the line for a refused file
unfoldable pub no_line : ℕ → ℕ → List ℕ → List ℕ
no_line blob offset word =
    codes "no blob=" ++ decimal blob ++ codes " offset=" ++ decimal offset ++ codes " kind=" ++ word ++ codes "\n"

-- the line for a certified layer that is only checked
unfoldable pub ok_line : ℕ → ℕ → List ℕ
ok_line blobs vertices = codes "ok blobs=" ++ decimal blobs ++ codes " vertices=" ++ decimal vertices ++ codes "\n"

-- the line of a blob in a list
unfoldable pub row_line : Row → List ℕ
row_line row = codes "blob=" ++ decimal row.blob ++ codes " offset=" ++ decimal row.offset
    ++ codes " bytes=" ++ decimal row.bytes ++ codes " type=" ++ name_of row.kind
    ++ codes " precision=" ++ signed_decimal row.precision ++ codes " vertices=" ++ decimal row.vertices
    ++ codes " size=" ++ yes_no row.has_size ++ codes " box=" ++ yes_no row.has_box ++ codes "\n"

-- the line of a blob that has a vertex inside the window
unfoldable pub hit_line : Hit → List ℕ
hit_line hit = codes "hit blob=" ++ decimal hit.blob ++ codes " offset=" ++ decimal hit.offset ++ codes "\n"

-- the line after the hits of a window: how many there are, and how many bytes were read, of how many
unfoldable pub end_line : ℕ → ℕ → ℕ → List ℕ
end_line found read len =
    codes "hits=" ++ decimal found ++ codes " read=" ++ decimal read ++ codes " of=" ++ decimal len ++ codes "\n"

-- ---- the text for a certified layer of this length

-- the lines of a window; `reads` is how many bytes are read of each blob
abbrev pub window_text : (Bounds → Geometry → ℕ) → List Geometry → ℕ → Bounds → List ℕ
window_text reads trees len w =
    flat_map hit_line (hits trees w) ++ end_line (length (hits trees w)) (sum_by (reads w) trees) len

-- how many bytes are read of a blob: for one window by a scan, for several by a scan with a directory
abbrev pub reading : List Bounds → Bounds → Geometry → ℕ
reading (window ∷ []) = cost
reading windows = directory_cost

-- the lines of each window, in the order given
abbrev pub scan_text : List Bounds → List Geometry → ℕ → List ℕ
scan_text windows trees len = flat_map (window_text (reading windows) trees len) windows

-- the text for the request
abbrev pub layer_text : Request → List Geometry → ℕ → List ℕ
layer_text Check trees len = ok_line (length trees) (vertex_count trees)
layer_text CheckTight trees len = ok_line (length trees) (vertex_count trees)
layer_text ListBlobs trees len = flat_map row_line (rows trees)
layer_text (Scan windows) trees len = scan_text windows.items trees len

-- ---- the text for a file

-- the layers that are accepted for a request: the certified ones, and in tight checking those without a loose box
abbrev pub IsAccepted : Request → List Geometry → List ℕ → Type 0
IsAccepted CheckTight trees bytes = IsTightLayer trees bytes
IsAccepted _ trees bytes = IsCertifiedLayer trees bytes

-- the claims that the check for a request takes for true
abbrev pub IsTrueFor : Request → Claim → Type 0
IsTrueFor CheckTight = IsTightlyTrue
IsTrueFor _ = IsTrueClaim

-- the bytes are a layer that is accepted, and this is its text
pub record IsLayerText (request : Request) (bytes text : List ℕ) : Type 0 where
  pub trees : List Geometry
  pub layer : IsAccepted request trees bytes
  pub text_is : text ≡ layer_text request trees (length bytes)

-- the bytes are no layer that is accepted, and this is the line that says why
pub record IsNoLine (request : Request) (bytes text : List ℕ) : Type 0 where
  pub blob : ℕ
  pub offset : ℕ
  pub kind : ℕ
  pub word : List ℕ
  pub none : (trees : List Geometry) → IsAccepted request trees bytes → ⊥
  pub refused : IsRefusal (IsTrueFor request) bytes blob offset kind
  pub named : word_of kind ≡ Some word
  pub text_is : text ≡ no_line blob offset word

-- the text and the verdict for the bytes
abbrev pub IsOutput : Request → List ℕ → List ℕ → Verdict → Type 0
IsOutput request bytes text Yes = IsLayerText request bytes text
IsOutput request bytes text No = IsNoLine request bytes text
