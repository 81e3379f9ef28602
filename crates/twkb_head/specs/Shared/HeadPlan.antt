-- Shared between crates: private contracts alone name them, here and in crates above.
-- The plan of a header: which fields it has, in order, and the header that they make.
use Rattle.std.specs.Prelude.{ℕ, ◌+◌, ◌*◌, ◌/◌, ◌%◌, List, [], ◌∷◌, ℤ, ◌+ℤ◌, Option, unwrap_or}
use Rattle.twkb_num.specs.Varint.{zigzag_value}
use Rattle.twkb_head.specs.declared.kinds.Kind.{Kind}
use Rattle.twkb_head.specs.declared.kinds.Kind.TheVariants.{Point}
use Rattle.twkb_head.specs.Header.{Header, axes_with, has_bit, has_ids, z_in, m_in}
use Rattle.twkb_head.specs.Shared.Plan.{kind_of_code, Plan, done, bind, measure, optional, type_plan, byte_plan, number_plan, signeds_plan}

-- ranges from their numbers: minimum and width of each
abbrev pub ranges_of : List ℤ → List (ℤ × ℤ)
ranges_of [] = []
ranges_of (low ∷ []) = []
ranges_of (low ∷ width ∷ zs) = (low, low +ℤ width) ∷ ranges_of zs

-- a box, by the number of axes
abbrev pub box_plan : ℕ → Plan (List (ℤ × ℤ))
box_plan axes = bind (signeds_plan (2 * axes)) (λ zs. done (ranges_of zs))

-- a header, with the length of the fields before size and box, and the length of the size
pub record HeadValue : Type 0 where
  pub header : Header
  pub before : ℕ
  pub size : ℕ

-- the kind that a type byte names
abbrev pub kind_from : ℕ → Kind
kind_from t = unwrap_or (kind_of_code (t % 16)) Point

-- the header that these fields are, each with its length where that is asked for
abbrev pub head_from : ℕ → ℕ → Option ℕ × ℕ → Option ℕ × ℕ → Option (List (ℤ × ℤ)) → HeadValue
head_from t metadata extended size box = record {
  header = record {
    kind = kind_from t;
    xy = zigzag_value (t / 16);
    z = z_in extended.0;
    m = m_in extended.0;
    size = size.0;
    box = box;
    ids = has_ids (kind_from t) metadata;
    empty = has_bit metadata 16;
  };
  before = 2 + extended.1;
  size = size.1;
}

-- the rest of a header after its size
abbrev pub after_size : ℕ → ℕ → Option ℕ × ℕ → Option ℕ × ℕ → Plan HeadValue
after_size t metadata extended size =
    bind (optional (has_bit metadata 1) (box_plan (axes_with (z_in extended.0) (m_in extended.0))))
    (λ box. done (head_from t metadata extended size box))

-- the rest of a header after its extended dimensions byte
abbrev pub after_extended : ℕ → ℕ → Option ℕ × ℕ → Plan HeadValue
after_extended t metadata extended =
    bind (measure 0 (optional (has_bit metadata 2) number_plan)) (after_size t metadata extended)

-- the rest of a header after its metadata byte
abbrev pub after_metadata : ℕ → ℕ → Plan HeadValue
after_metadata t metadata = bind (measure 0 (optional (has_bit metadata 8) byte_plan)) (after_extended t metadata)

-- the rest of a header after its type byte
abbrev pub after_type : ℕ → Plan HeadValue
after_type t = bind byte_plan (after_metadata t)

-- a header, with this many levels below it
abbrev pub head_plan : ℕ → Plan HeadValue
head_plan levels = bind (type_plan levels) after_type
