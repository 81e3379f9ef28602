-- The words for numbers, as the program prints them.
use Rattle.std.specs.Prelude.{ℕ, ◌-◌, ◌==◌, if◌then◌else◌, List, [], ◌++◌, length, codes, replicate}

-- the type of a geometry, by its number in the format
unfoldable pub type_name : ℕ → List ℕ
type_name type =
    if type == 1 then codes "point"
    else if type == 2 then codes "linestring"
    else if type == 3 then codes "polygon"
    else if type == 4 then codes "multipoint"
    else if type == 5 then codes "multilinestring"
    else if type == 6 then codes "multipolygon"
    else if type == 7 then codes "geometrycollection"
    else []

-- the kind of a refusal, by its number
unfoldable pub kind_name : ℕ → List ℕ
kind_name kind =
    if kind == 1 then codes "cut"
    else if kind == 2 then codes "varint"
    else if kind == 3 then codes "type"
    else if kind == 4 then codes "depth"
    else if kind == 5 then codes "range"
    else if kind == 6 then codes "size"
    else if kind == 7 then codes "box"
    else if kind == 8 then codes "ids"
    else if kind == 9 then codes "loose"
    else []

-- the answer of a verdict, by its number
unfoldable pub answer_name : ℕ → List ℕ
answer_name answer =
    if answer == 0 then codes "certified"
    else if answer == 1 then codes "refused"
    else if answer == 2 then codes "no memory"
    else []

-- a word of fewer than 24 bytes, with zeros up to 24
unfoldable pub with_zeros : List ℕ → List ℕ
with_zeros word = word ++ replicate (24 - length word) 0
