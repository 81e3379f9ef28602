-- One more digit doesn't change the sign of a difference of 2 or more.
use Rattle.twkb_layer.proofs.Prelude.{◌≡◌, ℕ, ◌+◌, ◌-◌, ◌*◌, ◌/◌, ◌%◌, ◌^◌, ◌-ℤ◌, FitsSigned, to_z, length, ap, subst, ◌∙◌, arith, rules, w64, to_z-of_z, Decimal, signed, leaning}
use Rattle.twkb_layer.proofs.Decimals.{top_none}
use Rattle.twkb_layer.proofs.Rounding.{lean_begins, lean_goes_on, lean_answers}
use Rattle.twkb_layer.proofs.decimal.Decimal.is_above.Goals as goal

pub loop-power-init : goal.loop-power-init
loop-power-init c =
    let top = c.max.result + length c.self.inside.fraction.now + length c.other.inside.fraction.now in
    let places = ap (λ (d : Decimal). d.places) c.self.view_is in
    let others = ap (λ (d : Decimal). d.places) c.other.view_is in
    lean_begins c.args.self.now.minus c.args.other.now.minus _ _
    (top_none c.self.inside.minus c.self.inside.whole.now c.self.inside.fraction.now c.args.self.now c.args.other.now.places top c.self.view_is c.self.invariant (omega (arith, places, others, c.max.ensures)))
    (top_none c.other.inside.minus c.other.inside.whole.now c.other.inside.fraction.now c.args.other.now c.args.self.now.places top c.other.view_is c.other.invariant (omega (arith, places, others, c.max.ensures)))

pub loop-power-preserved : goal.loop-power-preserved
loop-power-preserved c =
    let self = c.args.self.now in
    let other = c.args.other.now in
    let k = c.loop-power.power - 1 in
    let one : c.loop-power.power ≡ k + 1 = omega (arith, c.loop-power-test.true) in
    let places = ap (λ (d : Decimal). d.places) c.self.view_is in
    let others = ap (λ (d : Decimal). d.places) c.other.view_is in
    let before = subst (λ (n : ℕ). to_z w64 c.loop-power.ahead-bits ≡ leaning (signed self.minus (self.number * 10 ^ other.places / 10 ^ n) -ℤ signed other.minus (other.number * 10 ^ self.places / 10 ^ n))) one c.loop-power.invariant in
    let digit = c.signed_digit-digit.ensures ∙ ap (λ (p : ℕ). signed self.minus (self.number * 10 ^ p / 10 ^ k % 10)) others in
    let opposed = c.signed_digit.ensures ∙ ap (λ (p : ℕ). signed other.minus (other.number * 10 ^ p / 10 ^ k % 10)) places in
    let digit_fits : FitsSigned w64 c.signed_digit-digit.result = search rules in
    let other_fits : FitsSigned w64 c.signed_digit.result = search rules in
    let leans = simp to_z-of_z at c.leaning-ahead.ensures in
    to_z-of_z w64 c.leaning-ahead.result (search rules)
    ∙ (leans ∙ lean_goes_on self.minus other.minus (self.number * 10 ^ other.places) (other.number * 10 ^ self.places) k (to_z w64 c.loop-power.ahead-bits) c.signed_digit-digit.result c.signed_digit.result before digit opposed)

pub returns : goal.returns
returns c = lean_answers c.args.self.now.minus c.args.other.now.minus c.args.self.now.number c.args.other.now.number (10 ^ c.args.self.now.places) (10 ^ c.args.other.now.places) c.loop-power.power (to_z w64 c.loop-power.ahead-bits) c.loop-power-test.false c.loop-power.invariant
