-- The lanes are twice the numbers of two groups each.
use Rattle.twkb_num.proofs.Prelude.{ℕ, ◌+◌, ◌*◌, ◌%◌, List, sym, refl, ap, ◌∙◌, map, zip2_splat, zip2_of_maps, map-map, number_l, digits_l}
use Rattle.std.proofs.Common.{bit_and}
use Rattle.twkb_num.proofs.LaneLaws.{two_groups, twice_16}
use Rattle.twkb_num.proofs.LaneLemmas.{narrow_lanes}
use Rattle.twkb_num.proofs.vectors.doubled_numbers.Goals as goal

pub returns : goal.returns
returns c =
    let groups = c.args.groups in
    let v : List ℕ = digits_l 65536 8 (number_l 256 groups) in
    let masked = λ (mask : ℕ). zip2_splat bit_and v 8 mask refl in
    zip2_of_maps (λ a b. (a + b) % 65536) (λ n. bit_and n 0x7f7f) (λ n. bit_and n 0x7f) v (masked 0x7f7f) (masked 0x7f)
    ∙ (λ j. map (λ n. twice_16 n j) v) ∙ sym (map-map (λ n. 2 * n) two_groups v) ∙ ap (map (λ n. 2 * n)) (narrow_lanes groups c.fits-groups.0 c.fits-groups.1)
