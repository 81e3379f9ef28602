use Rattle.twkb_body.proofs.Prelude.{rules, ℕ, List, Bool, ap, ap₂, ◌∙◌, w32, nat_lt, tops_compared, sel_l, zip2}
use Rattle.std.specs.Prelude.{slice_index}
use Rattle.twkb_body.proofs.LaneSums.{four_lanes_are}
use Rattle.twkb_body.proofs.ExtentLanes.{lesser_lane}
use Rattle.twkb_body.proofs.extent_lanes.lesser.Goals as goal

pub returns : goal.returns
returns k i few =
    let first = k.args.first in
    let second = k.args.second in
    ap (λ (lanes : List ℕ). slice_index lanes i)
    (ap (λ (bits : List Bool). sel_l bits first second) (tops_compared w32 nat_lt first second)
    ∙ ap₂ (λ (first second : List ℕ). sel_l (zip2 nat_lt first second) first second) (four_lanes_are first (search rules)) (four_lanes_are second (search rules)))
    ∙ lesser_lane first second i few
