use Rattle.twkb_body.proofs.Prelude.{◌≡◌, ℕ, zero, suc, ◌<◌, ◌≤◌, ◌∙◌, List, [], ◌∷◌, sym, ap, refl, slice_index, arith, nat_le, ◌&&◌, leb-true, lane_sum}
use Rattle.twkb_body.proofs.LaneSums.{both_true}
use Rattle.twkb_body.proofs.ExtentLanes.{room_at}
use Rattle.twkb_body.proofs.extent_lanes.Lanes.have_room.Goals as goal

all_at : (i : ℕ) → i < 4 → slice_index (3221225472 ∷ 3221225472 ∷ 3221225472 ∷ 3221225472 ∷ []) i ≡ 3221225472
all_at zero h = refl
all_at (suc zero) h = refl
all_at (suc (suc zero)) h = refl
all_at (suc (suc (suc zero))) h = refl
all_at (suc (suc (suc (suc i)))) h = absurd (omega (arith, h))

-- four sums that are low
low_at : (sums : List ℕ) (i : ℕ) → i < 4 → slice_index sums 0 ≤ 2147483647 → slice_index sums 1 ≤ 2147483647 → slice_index sums 2 ≤ 2147483647 → slice_index sums 3 ≤ 2147483647 → slice_index sums i ≤ 2147483647
low_at sums zero h a b c d = a
low_at sums (suc zero) h a b c d = b
low_at sums (suc (suc zero)) h a b c d = c
low_at sums (suc (suc (suc zero))) h a b c d = d
low_at sums (suc (suc (suc (suc i)))) h a b c d = absurd (omega (arith, h))

pub returns : goal.returns
returns c is fits i few =
    let sums = c.plus.result in
    let le = λ (i : ℕ). nat_le (slice_index sums i) 2147483647 in
    let all = both_true (le 0 && le 1) (le 2 && le 3) (sym c.are_within.ensures ∙ is) in
    let front = both_true (le 0) (le 1) all.0 in
    let back = both_true (le 2) (le 3) all.1 in
    room_at _ (slice_index sums i) (fits i few) (c.plus.ensures i few ∙ ap (lane_sum (slice_index c.args.self.now.last i)) (all_at i few)) (low_at sums i few (leb-true _ _ front.0) (leb-true _ _ front.1) (leb-true _ _ back.0) (leb-true _ _ back.1))
