-- A decimal is parsed in one way.
use Rattle.twkb_layer.proofs.Prelude.{length, Some, ap, arith, nat_tests, Decimal}
use Rattle.twkb_layer.proofs.Decimals.{decimal_once, read_is}
use Rattle.twkb_layer.proofs.decimal.Decimal.parse.Goals as goal
use Rattle.twkb_layer.proofs.decimal.Decimal.parse.Goals.{then-is_empty-via-then-is_empty, then-is_empty-via-else-is_empty+then-not-is_empty}

pub returns-then-is_empty-clause-exact : goal.returns-then-is_empty-clause-exact
returns-then-is_empty-clause-exact c = λ d h.
    let r = decimal_once c.args.text.now c.skip-minus.new.self c.digits-whole.new.self c.fraction-fraction.new.self c.digits-whole.result.now c.fraction-fraction.result.now c.skip-minus.result (rw c.new-rest.ensures at c.skip-minus.ensures.taken) (rw c.new-rest.ensures at c.skip-minus.ensures.still) (rw c.new-rest.ensures at c.skip-minus.ensures.exact) c.digits-whole.ensures.parts c.digits-whole.ensures.digits c.digits-whole.ensures.most c.fraction-fraction.ensures.exact d h in
    let whole = ap length r.whole_is in
    absurd (elim c.then-is_empty.branch [
      | then-is_empty-via-then-is_empty w ↦ grind (arith, nat_tests, whole, r.text_is.whole_some, w.if-is_empty.true, c.is_empty.ensures)
      | then-is_empty-via-else-is_empty+then-not-is_empty w ↦ let told = w.is_empty-else-is_empty.ensures.more r.nothing_left in cc (told, w.if-not-is_empty.true)
    ])

pub returns-clause-exact : goal.returns-clause-exact
returns-clause-exact c = λ d h.
    let r = decimal_once c.args.text.now c.skip-minus.new.self c.digits-whole.new.self c.fraction-fraction.new.self c.digits-whole.result.now c.fraction-fraction.result.now c.skip-minus.result (rw c.new-rest.ensures at c.skip-minus.ensures.taken) (rw c.new-rest.ensures at c.skip-minus.ensures.still) (rw c.new-rest.ensures at c.skip-minus.ensures.exact) c.digits-whole.ensures.parts c.digits-whole.ensures.digits c.digits-whole.ensures.most c.fraction-fraction.ensures.exact d h in
    ap (λ (e : Decimal). Some e) (read_is c.args.text.now d _ _ _ _ r)
