-- The bytes of the row, lowest first.
use Rattle.twkb_num.proofs.Prelude.{◌≡◌, ◌∷◌, [], ◌+◌, ◌<◌, ℕ, get_or, ap, refl, ◌∙◌, ◌*◌, rules, arith, get_or_narrower, number_l, digits_l, WIDE_PLACES}
use Rattle.twkb_num.proofs.tables.wide.wide_places.Goals as goal

pub returns : goal.returns
returns c i h =
    let row : ℕ = get_or WIDE_PLACES c.args.bits 0 in
    let at : i ≡ 8 * 0 + i = omega arith in
    let fits : row < 18446744073709551616 = search rules in
    ap (λ k. get_or (digits_l 256 16 (number_l 18446744073709551616 (row ∷ 0 ∷ []))) k 0) at ∙
    get_or_narrower 18446744073709551616 8 256 16 (row ∷ 0 ∷ []) 0 i refl (fits, (omega arith, tt)) h (omega (arith, h))
