use Rattle.twkb_body.proofs.Prelude.{rules, ℕ, ◌%◌, List, Bool, nat_eq, slice_index, ap, ap₂, ◌∙◌, w32, nat_le, tops_compared, mask_l, zip2}
use Rattle.twkb_body.proofs.LaneSums.{four_lanes_are, four_set}
use Rattle.twkb_body.proofs.extent_lanes.are_within.Goals as goal

pub returns : goal.returns
returns k =
    let lane = λ (lanes : List ℕ) (i : ℕ). slice_index lanes i in
    let points = k.args.lanes in
    let extent = k.args.limits in
    ap (λ (bits : List Bool). nat_eq (mask_l bits % 18446744073709551616) 15) (tops_compared w32 nat_le points extent)
    ∙ ap₂ (λ (points extent : List ℕ). nat_eq (mask_l (zip2 nat_le points extent) % 18446744073709551616) 15) (four_lanes_are points (search rules)) (four_lanes_are extent (search rules))
    ∙ four_set (nat_le (lane points 0) (lane extent 0)) (nat_le (lane points 1) (lane extent 1)) (nat_le (lane points 2) (lane extent 2)) (nat_le (lane points 3) (lane extent 3))
