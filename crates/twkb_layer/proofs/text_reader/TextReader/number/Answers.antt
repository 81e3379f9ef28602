-- A minus or none, and an amount, is a number.
use Rattle.twkb_layer.proofs.Prelude.{◌≡◌, ℤ, ap, Some, sym, ◌∙◌, true, false}
use Rattle.twkb_layer.proofs.Texts.{minus_once, number_is, number_same, plain_value, minus_value, value_small}
use Rattle.twkb_layer.proofs.text_reader.TextReader.number.Goals as goal

pub returns-in_err-amount-clause-exact : goal.returns-in_err-amount-clause-exact
returns-in_err-amount-clause-exact c = λ front behind value e n stop.
    let m = minus_once c.args.self.now c.skip-minus.new.self c.skip-minus.result c.skip-minus.ensures.taken c.skip-minus.ensures.still c.skip-minus.ensures.exact front behind value e n in
    let no = c.in_err-amount.ensures.exact n.amount behind n.units m.1 n.amount_is stop in
    absurd (cc (no.0))

pub returns-then-minus-clause-small : goal.returns-then-minus-clause-small
returns-then-minus-clause-small c = rw (minus_value c.in_ok-amount.field-0 c.in_ok-amount.ensures.small) (value_small c.in_ok-amount.field-0 c.in_ok-amount.ensures.small)

pub returns-else-minus-clause-small : goal.returns-else-minus-clause-small
returns-else-minus-clause-small c = rw (plain_value c.in_ok-amount.field-0 c.in_ok-amount.ensures.small) c.in_ok-amount.ensures.small

pub returns-then-minus-clause-some : goal.returns-then-minus-clause-some
returns-then-minus-clause-some c = number_is c.args.self.now _ _ true c.in_ok-amount.field-0 _ c.if-minus.ensures.taken c.in_ok-amount.ensures.some (minus_value c.in_ok-amount.field-0 c.in_ok-amount.ensures.small)

pub returns-else-minus-clause-some : goal.returns-else-minus-clause-some
returns-else-minus-clause-some c = number_is c.args.self.now _ _ false c.in_ok-amount.field-0 _ (sym c.if-minus.ensures.still) c.in_ok-amount.ensures.some (plain_value c.in_ok-amount.field-0 c.in_ok-amount.ensures.small)

pub returns-then-minus-clause-exact : goal.returns-then-minus-clause-exact
returns-then-minus-clause-exact c = λ front behind value e n stop.
    let m = minus_once c.args.self.now c.skip-minus.new.self c.skip-minus.result c.skip-minus.ensures.taken c.skip-minus.ensures.still c.skip-minus.ensures.exact front behind value e n in
    let same = c.in_ok-amount.ensures.exact n.amount behind n.units m.1 n.amount_is stop in
    let units : c.in_ok-amount.field-0 ≡ n.units = cc (same.0) in
    (ap (λ (z : ℤ). Some z) (number_same true c.in_ok-amount.field-0 front value _ n (sym c.if-minus.true ∙ m.0) units (minus_value c.in_ok-amount.field-0 c.in_ok-amount.ensures.small)), same.1)

pub returns-else-minus-clause-exact : goal.returns-else-minus-clause-exact
returns-else-minus-clause-exact c = λ front behind value e n stop.
    let m = minus_once c.args.self.now c.skip-minus.new.self c.skip-minus.result c.skip-minus.ensures.taken c.skip-minus.ensures.still c.skip-minus.ensures.exact front behind value e n in
    let same = c.in_ok-amount.ensures.exact n.amount behind n.units m.1 n.amount_is stop in
    let units : c.in_ok-amount.field-0 ≡ n.units = cc (same.0) in
    (ap (λ (z : ℤ). Some z) (number_same false c.in_ok-amount.field-0 front value _ n (sym c.if-minus.false ∙ m.0) units (plain_value c.in_ok-amount.field-0 c.in_ok-amount.ensures.small)), same.1)
