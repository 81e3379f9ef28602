-- Each text is parsed in one way, so its decimals determine the result.
use Rattle.twkb_layer.proofs.Prelude.{◌≡◌, sym, ◌∙◌, rules, to_z-of_z, w128}
use Rattle.twkb_layer.proofs.Rounding.{order_told, span_told}
use Rattle.twkb_layer.proofs.decimal.span_of_decimals.Goals as goal

pub returns-in_default-clause-exact : goal.returns-in_default-clause-exact
returns-in_default-clause-exact c = λ a b la hb. let no = c.in_default.ensures.exact a la in absurd (cc (no))

pub returns-in_default-parse-clause-exact : goal.returns-in_default-parse-clause-exact
returns-in_default-parse-clause-exact c = λ a b la hb. let no = c.in_default-parse.ensures.exact b hb in absurd (cc (no))

pub returns-then-is_above-clause-exact : goal.returns-then-is_above-clause-exact
returns-then-is_above-clause-exact c = λ a b la hb.
    let first = c.in-Some.ensures.exact a la in
    let second = c.in-Some-parse.ensures.exact b hb in
    let lo : c.in-Some.lo ≡ a = cc (first) in
    let hi : c.in-Some-parse.hi ≡ b = cc (second) in
    order_told a b c.in-Some.lo c.in-Some-parse.hi lo hi (sym c.is_above.ensures ∙ c.if-is_above.true)

pub returns-clause-exact : goal.returns-clause-exact
returns-clause-exact c = λ a b la hb.
    let first = c.in-Some.ensures.exact a la in
    let second = c.in-Some-parse.ensures.exact b hb in
    let lo : c.in-Some.lo ≡ a = cc (first) in
    let hi : c.in-Some-parse.hi ≡ b = cc (second) in
    span_told a b c.in-Some.lo c.in-Some-parse.hi _ _ lo hi (sym c.is_above.ensures ∙ c.if-is_above.false)
    (to_z-of_z w128 c.rounded_up.result (search rules) ∙ c.rounded_up.ensures) (to_z-of_z w128 c.rounded_down.result (search rules) ∙ c.rounded_down.ensures)
