-- At most 27 digits before the point and seven after it fit 128 bits.
use Rattle.twkb_layer.proofs.Prelude.{ap, arith, length, Some, nat_tests}
use Rattle.twkb_layer.proofs.Texts.{amount_once, amount_is, amount_small, amount_same, some_digits, units_of_parts, parts_are, whole_small}
use Rattle.twkb_layer.proofs.text_reader.TextReader.amount.Goals as goal
use Rattle.twkb_layer.proofs.text_reader.TextReader.amount.Goals.{then-is_empty-via-then-is_empty, then-is_empty-via-else-is_empty+then-whole-gt27, then-is_empty-via-else-is_empty+else-whole-gt27+then-fraction-gt7}

pub returns-then-is_empty-clause-exact : goal.returns-then-is_empty-clause-exact
returns-then-is_empty-clause-exact c = λ front behind units e h stop.
    let s = amount_once c.args.self.now _ _ c.fraction-fraction.result.now _ c.digits-whole.ensures.parts c.digits-whole.ensures.digits c.digits-whole.ensures.most c.fraction-fraction.ensures.exact front behind units e h stop in
    let whole = ap length s.whole_is in
    let fraction = ap length s.fraction_is in
    absurd (elim c.then-is_empty.branch [
      | then-is_empty-via-then-is_empty w ↦ grind (arith, nat_tests, whole, s.is.whole_some, w.if-is_empty.true, c.is_empty.ensures)
      | then-is_empty-via-else-is_empty+then-whole-gt27 w ↦ omega (arith, whole, s.is.whole_few, w.if-whole-gt27.true)
      | then-is_empty-via-else-is_empty+else-whole-gt27+then-fraction-gt7 w ↦ omega (arith, fraction, s.is.fraction_few, w.if-fraction-gt7.true)
    ])

pub overflow_mul-result : goal.overflow_mul-result
overflow_mul-result c = let s = whole_small _ _ c.digits-whole.ensures.digits c.if-whole-gt27.false c.digits_value.ensures in omega (arith, s)

pub overflow_mul-result-2 : goal.overflow_mul-result-2
overflow_mul-result-2 c =
    let s = amount_small c.digits-whole.result.now c.fraction-fraction.result.now _ _ c.place_value.result c.digits-whole.ensures.digits c.fraction-fraction.ensures.digits c.if-whole-gt27.false c.if-fraction-gt7.false c.digits_value.ensures c.digits_value-2.ensures c.place_value.ensures in
    omega (arith, s.1)

pub overflow_add-result : goal.overflow_add-result
overflow_add-result c =
    let s = amount_small c.digits-whole.result.now c.fraction-fraction.result.now _ _ c.place_value.result c.digits-whole.ensures.digits c.fraction-fraction.ensures.digits c.if-whole-gt27.false c.if-fraction-gt7.false c.digits_value.ensures c.digits_value-2.ensures c.place_value.ensures in
    omega (arith, s.2)

pub returns-clause-small : goal.returns-clause-small
returns-clause-small c =
    (amount_small c.digits-whole.result.now c.fraction-fraction.result.now _ _ c.place_value.result c.digits-whole.ensures.digits c.fraction-fraction.ensures.digits c.if-whole-gt27.false c.if-fraction-gt7.false c.digits_value.ensures c.digits_value-2.ensures c.place_value.ensures).2

pub returns-clause-some : goal.returns-clause-some
returns-clause-some c =
    amount_is _ _ _ _ _ _ c.digits-whole.ensures.parts c.fraction-fraction.ensures.parts c.digits-whole.ensures.digits c.fraction-fraction.ensures.digits (some_digits _ _ c.is_empty.ensures c.if-is_empty.false) c.if-whole-gt27.false c.if-fraction-gt7.false
    (units_of_parts c.digits-whole.result.now c.fraction-fraction.result.now _ _ _ c.if-fraction-gt7.false c.digits_value.ensures c.digits_value-2.ensures c.place_value.ensures)

pub returns-clause-exact : goal.returns-clause-exact
returns-clause-exact c = λ front behind units e h stop.
    let s = amount_once c.args.self.now _ _ c.fraction-fraction.result.now _ c.digits-whole.ensures.parts c.digits-whole.ensures.digits c.digits-whole.ensures.most c.fraction-fraction.ensures.exact front behind units e h stop in
    (ap (λ (n : _). Some n) (amount_same _ _ _ _ _ units _ c.place_value.result s c.place_value.ensures (parts_are c.digits-whole.result.now c.fraction-fraction.result.now _ _ _ c.digits_value.ensures c.digits_value-2.ensures)), s.new_is)
