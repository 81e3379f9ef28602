-- The summary of a tree: the number of its vertices, their reach, and the first claim that is false.
use Rattle.twkb_body.proofs.Prelude.{⊤, Header, bounds_of, Geometry, Members, geometry, none, more, Lengths, lengths_of, Reach, reach_of, both, Refused, Summary, false_at, first, ids_refused, is_tight, is_within}
use Rattle.std.specs.Prelude.{ℕ, ◌+◌, ◌-◌, ◌≤◌, ◌==◌, Bool, cond, List, [], ℤ, Option, Some, None}

-- the summary of no geometry
abbrev pub nothing : Summary
nothing = record { count = 0; reach = reach_of []; refused = None }

-- the summary of two parts, one after the other
abbrev pub after : Summary → Summary → Summary
after a b = record { count = a.count + b.count; reach = both a.reach b.reach; refused = first a.refused b.refused }

-- ---- false claims: a geometry's own come before the ones below it

-- the claim of the size, if it is false
abbrev pub size_refused : ℕ → Lengths → Option ℕ → Refused
size_refused start l None = None
size_refused start l (Some n) = false_at (n == l.whole - (l.before + l.size)) (start + l.before) 6

-- the claim of the box, if it is false, or in tight checking if the box is loose
abbrev pub box_refused : Bool → ℕ → Header → Reach → Option (List (ℤ × ℤ)) → Refused
box_refused tight at h reach None = None
box_refused tight at h reach (Some ranges) =
    first (false_at (is_within reach (bounds_of h.xy h.z h.m ranges)) at 7)
    (cond tight (false_at (is_tight h.xy h.z h.m (bounds_of h.xy h.z h.m ranges) reach) at 9) None)

-- the summary of a geometry, from the number and the reach of its own points and the summary of its members
abbrev pub over : Bool → Header → Lengths → Option (List ℤ) → ℕ → ℕ → Reach → Summary → Summary
over tight h l ids start count own below =
    let reach = both own below.reach in
    record {
      count = count + below.count;
      reach = reach;
      refused = first (size_refused start l h.size)
          (first (box_refused tight (start + l.before + l.size) h reach h.box) (first (ids_refused (start + l.header + l.count) ids) below.refused));
    }

-- how many bytes members take
abbrev pub member_total : Members → ℕ
member_total none = 0
member_total (more g gs) = (lengths_of g).whole + member_total gs

-- members, with one more at the end
abbrev pub pushed : Members → Geometry → Members
pushed none g = more g none
pushed (more f gs) g = more f (pushed gs g)

unfoldable mutual
  -- size and box are in the header, the ids after the count, and the members after the ids, within the whole
  pub HasOrder : Geometry → Type 0
  HasOrder (geometry h l ids polygons members) =
      (l.before + l.size ≤ l.header) × (l.count ≤ l.list) × (l.header + l.list + member_total members ≤ l.whole) × HaveOrder members

  pub HaveOrder : Members → Type 0
  HaveOrder none = ⊤
  HaveOrder (more g gs) = HasOrder g × HaveOrder gs
