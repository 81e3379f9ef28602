-- Devices of proofs: nothing public names them.
-- How reading points changes the sums under one header, and the state that the points are added to.
use Rattle.std.specs.Prelude.{◌≡◌, ℕ, ◌+◌, ◌≤◌, List, [], ◌∷◌, length, fold}
use Rattle.twkb_head.specs.declared.boxes.Vertex.{Vertex}
use Rattle.twkb_head.specs.declared.header.Head.{Head}
use Rattle.twkb_head.specs.declared.raw.Axes.{Axes}
use Rattle.twkb_head.specs.Header.{Header}
use Rattle.twkb_body.specs.declared.trail.Trail.{Trail}
use Rattle.twkb_body.specs.Geometry.{PointValue, vertex_of}
use Rattle.twkb_body.specs.Devices.Body.{add, sums, zeros, map_from}

-- the precisions of a header's axes
abbrev pub precisions_of : Head → Axes
precisions_of head = record { xy = head.xy; z = head.z; m = head.m }

-- the trail of no points, from which differences start
abbrev pub no_points : Trail
no_points = record { last = zeros; points = 0 }

-- each point has this many numbers
abbrev pub HaveAxes : ℕ → List PointValue → Type 0
HaveAxes axes [] = Unit {0}
HaveAxes axes (point ∷ points) = (length point ≡ axes) × HaveAxes axes points

-- the sums that each point leaves, in all four axes
abbrev pub lasts_from : PointValue → List PointValue → List PointValue
lasts_from s numbers = map_from add add s numbers

-- the state after a point is shown as a vertex, by the precisions of a header
abbrev pub shown : {S : Type 0} → (S → Vertex → S) → Header → S → PointValue → S
shown step h s point = step s (vertex_of h point)

-- From one trail to another these numbers were read, between two places, with at least a byte for each point; and the points
-- were added, one after another.
pub record IsWalked {S : Type 0} (step : S → PointValue → S) (axes : ℕ) (old new : Trail) (state state' : S)
    (start stop : ℕ) (numbers : List PointValue) : Type 0 where
  pub last : new.last ≡ sums old.last numbers
  pub points : new.points ≡ old.points + length numbers
  pub added : state' ≡ fold step state (lasts_from old.last numbers)
  pub have : HaveAxes axes numbers
  pub ahead : length numbers + start ≤ stop

-- A point was read between two places, these numbers, one for each axis, and added to the last point.
abbrev pub IsPoint : ℕ → Trail → Trail → ℕ → ℕ → PointValue → Type 0
IsPoint axes old new start stop numbers = IsWalked {S = Unit {0}} (λ s point. s) axes old new tt tt start stop (numbers ∷ [])

-- no point changes the state
abbrev pub IsStill : {S : Type 0} → (S → PointValue → S) → S → Type 0
IsStill step s = (point : PointValue) → step s point ≡ s
