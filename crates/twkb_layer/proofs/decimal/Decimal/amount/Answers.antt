-- One more digit makes the amount ten times the amount plus the digit.
use Rattle.twkb_layer.proofs.Prelude.{◌≡◌, ◌*◌, ◌+◌, ◌-◌, ◌/◌, ◌%◌, ◌^◌, ℕ, min, length, sym, ap, ◌∙◌, arith, Decimal, farthest}
use Rattle.twkb_layer.proofs.Decimals.{next_digit, top_none, least_goes_on}
use Rattle.twkb_layer.proofs.decimal.Decimal.amount.Goals as goal

pub loop-power-init : goal.loop-power-init
loop-power-init c =
    let whole = c.self.inside.whole.now in
    let fraction = c.self.inside.fraction.now in
    let places = ap (λ (d : Decimal). d.places) c.self.view_is in
    let none = top_none c.self.inside.minus whole fraction c.args.self.now 7 (length whole + length fraction + 7) c.self.view_is c.self.invariant (omega arith) in
    record {
      amount_is = sym (ap (λ (n : ℕ). min n farthest) none);
      above = omega (arith, places);
    }

pub loop-power-preserved : goal.loop-power-preserved
loop-power-preserved c =
    let inv = c.loop-power.invariant in
    let x = c.args.self.now.number * 10 ^ 7 in
    let k = c.loop-power.power - 1 in
    let places = ap (λ (d : Decimal). d.places) c.self.view_is in
    let one : k + 1 ≡ c.loop-power.power = omega (arith, c.loop-power-test.true) in
    record {
      amount_is = least_goes_on (x / 10 ^ c.loop-power.power) c.loop-power.amount c.digit.result c.min-amount.result (x / 10 ^ k) farthest inv.amount_is
          (c.min-amount.ensures ∙ ap (λ (n : ℕ). min (c.loop-power.amount * 10 + n) farthest) c.from.ensures)
          (next_digit x k ∙ (ap (λ (e : ℕ). x / 10 ^ e * 10 + x / 10 ^ k % 10) one ∙ ap (λ (n : ℕ). x / 10 ^ c.loop-power.power * 10 + n) (sym c.digit.ensures)));
      above = omega (arith, places, c.loop-power-test.true);
    }
