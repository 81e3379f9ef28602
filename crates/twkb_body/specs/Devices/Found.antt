-- Devices of proofs: nothing public names them.
-- What the code keeps of the geometries it has read, in the words of `Pass`.
use Rattle.std.specs.Prelude.{◌≡◌, ◌==◌, ℕ, ◌+◌, ◌-◌, ◌≤◌, Bool, cond, Option, Some, None, is_some, option_map}
use Rattle.twkb_head.specs.Header.{Header}
use Rattle.twkb_head.specs.declared.header.SizeField.{SizeField}
use Rattle.twkb_head.specs.declared.header.BoxField.{BoxField}
use Rattle.twkb_body.specs.declared.found.FalseClaim.{FalseClaim}
use Rattle.twkb_body.specs.declared.found.Pass.{Pass}
use Rattle.twkb_body.specs.Geometry.{Geometry, lengths_of, vertices}
use Rattle.twkb_body.specs.Extent.{Reach, reach_of}
use Rattle.twkb_body.specs.Devices.Pass.{Summary, Refused, Sums, first, false_at, is_within, is_tight}
use Rattle.twkb_body.specs.Audited.{number_of}

-- a false claim by its offset and the number of its kind
abbrev pub named : Option FalseClaim → Refused
named refused = option_map (λ f. (f.offset, number_of f.claim)) refused

-- what was found of geometries: how many vertices they have, and the first false claim
pub record Found : Type 0 where
  pub vertices : ℕ
  pub refused : Refused

-- the summary of what was found, of geometries of this reach
abbrev pub summary : Found → Reach → Summary
summary f reach = record { count = f.vertices; reach = reach; refused = f.refused }

-- A claim was noted, if it is false: it precedes what was found since the pass had found this much.
abbrev pub Notes : Bool → Pass → Pass → Refused → Type 0
Notes was_refused old new claim = (before since : Refused) → was_refused ≡ is_some before
    → named old.refused ≡ first before since → named new.refused ≡ first before (first claim since)

-- the claim of the size, if it is false of a geometry that ends at stop
abbrev pub size_judged : Option SizeField → ℕ → Refused
size_judged None stop = None
size_judged (Some size) stop = false_at (size.value == stop - size.after) size.offset 6

-- the claim of the box, if some vertex of this reach is outside, or in tight checking if it is loose at the header's precisions
abbrev pub box_judged : Bool → Header → Option BoxField → Reach → Refused
box_judged tight h None reach = None
box_judged tight h (Some field) reach =
    first (false_at (is_within reach field.bounds) field.offset 7)
    (cond tight (false_at (is_tight h.xy h.z h.m field.bounds reach) field.offset 9) None)

-- this was found of the geometry between two places, and it has no more vertices than bytes
pub record IsFound (tight : Bool) (g : Geometry) (start stop : ℕ) (f : Found) : Type 0 where
  pub sums : Sums tight g start (summary f (reach_of (vertices g)))
  pub stop_is : stop ≡ start + (lengths_of g).whole
  pub few : f.vertices + start ≤ stop
