-- Devices of proofs: nothing public names them.
-- What one pass keeps of a geometry, in place of its tree, and the tests of its claims.
use Rattle.std.specs.Prelude.{◌≡◌, ℕ, Bool, true, false, ◌&&◌, not, List, [], ◌∷◌, length, ℤ, pos, ◌-ℤ◌, int_le, int_lt, Option, Some, None, All}
use Rattle.std.specs.Ordering.{int_eq}
use Rattle.std.specs.Option.{option_or}
use Rattle.twkb_head.specs.declared.boxes.Bounds.{Bounds}
use Rattle.twkb_head.specs.declared.boxes.Span.{Span}
use Rattle.twkb_num.specs.Units.{units_of}
use Rattle.twkb_body.specs.Geometry.{Geometry, Members, vertices, member_vertices}
use Rattle.twkb_body.specs.Extent.{Reach, reach_of}
use Rattle.twkb_body.specs.Claims.{Claim, IsFirstFalse, offset_of, claims, member_claims}
use Rattle.twkb_body.specs.Audited.{IsRefusedAs}
use Rattle.twkb_body.specs.Shared.Tight.{IsTrueBy}

-- offset and kind of a false claim, if there is one
abbrev pub Refused : Type 0
Refused = Option (ℕ × ℕ)

-- how many vertices there are, their ranges, and the first false claim
pub record Summary : Type 0 where
  pub count : ℕ
  pub reach : Reach
  pub refused : Refused

-- the first of two false claims, if there is any
abbrev pub first : Refused → Refused → Refused
first = option_or

-- None where all claims are taken for true, otherwise offset and kind of the first that isn't
abbrev pub NamesFirstFalse : (Claim → Type 0) → List Claim → Refused → Type 0
NamesFirstFalse IsTrue list None = All IsTrue list
NamesFirstFalse IsTrue list (Some at) =
    (claim : Claim) × IsFirstFalse IsTrue list claim × (at.0 ≡ offset_of claim) × IsRefusedAs at.1 claim

-- `NamesFirstFalse` for the claims of a geometry, and for the claims of members
abbrev pub NamesFirstOf : Bool → Geometry → ℕ → Refused → Type 0
NamesFirstOf tight g start refused = NamesFirstFalse (IsTrueBy tight) (claims g start) refused

abbrev pub NamesFirstOfMembers : Bool → Members → ℕ → Refused → Type 0
NamesFirstOfMembers tight gs start refused = NamesFirstFalse (IsTrueBy tight) (member_claims gs start) refused

-- the summary is of these vertices and claims
pub record Sums (tight : Bool) (g : Geometry) (start : ℕ) (s : Summary) : Type 0 where
  pub count : s.count ≡ length (vertices g)
  pub reach : s.reach ≡ reach_of (vertices g)
  pub refused : NamesFirstOf tight g start s.refused

-- `Sums` for members
pub record MemberSums (tight : Bool) (gs : Members) (start : ℕ) (s : Summary) : Type 0 where
  pub count : s.count ≡ length (member_vertices gs)
  pub reach : s.reach ≡ reach_of (member_vertices gs)
  pub refused : NamesFirstOfMembers tight gs start s.refused

-- ---- tests
abbrev pub covers : Option Span → Option Span → Bool
covers None range = true
covers (Some span) None = true
covers (Some span) (Some range) = int_le span.lo range.lo && int_le range.hi span.hi

-- whether a box holds the reach
abbrev pub is_within : Reach → Bounds → Bool
is_within reach box =
    covers (Some box.x) reach.x && (covers (Some box.y) reach.y && (covers box.z reach.z && covers box.m reach.m))

-- whether neither end of a span is a step or more beyond the range, if there is one
abbrev pub hugs : Span → ℤ → Option Span → Bool
hugs span step None = true
hugs span step (Some range) = int_lt (range.lo -ℤ span.lo) step && int_lt (span.hi -ℤ range.hi) step

-- `hugs`, if the box has the axis, otherwise true
abbrev pub hugs_if_both : Option Span → Option ℕ → Option Span → Bool
hugs_if_both None p range = true
hugs_if_both (Some span) None range = true
hugs_if_both (Some span) (Some p) range = hugs span (units_of (pos 1) (pos p)) range

-- whether a box is tight
abbrev pub is_tight : ℤ → Option ℕ → Option ℕ → Bounds → Reach → Bool
is_tight xy z m box reach =
    hugs box.x (units_of (pos 1) xy) reach.x
    && (hugs box.y (units_of (pos 1) xy) reach.y && (hugs_if_both box.z z reach.z && hugs_if_both box.m m reach.m))

-- whether an id differs from the ids of a list
abbrev pub differs : ℤ → List ℤ → Bool
differs a [] = true
differs a (b ∷ bs) = not (int_eq a b) && differs a bs

-- whether the ids of a list differ
abbrev pub are_distinct : List ℤ → Bool
are_distinct [] = true
are_distinct (a ∷ bs) = differs a bs && are_distinct bs

-- the claim at an offset, of a kind, if its test says no
abbrev pub false_at : Bool → ℕ → ℕ → Refused
false_at true at kind = None
false_at false at kind = Some (at, kind)

-- the claim of the ids, if two are equal
abbrev pub ids_refused : ℕ → Option (List ℤ) → Refused
ids_refused at None = None
ids_refused at (Some ids) = false_at (are_distinct ids) at 8
