-- Each turn passes one number, and then many that are short.
use Rattle.twkb_num.proofs.Prelude.{◌-◌, arith}
use Rattle.twkb_num.proofs.NumberLemmas.{short_passed, one_passed, more_passed}
use Rattle.twkb_num.proofs.cursor.Cursor.pass_further.Goals as goal

pub loop-left-preserved : goal.loop-left-preserved
loop-left-preserved c =
    let l = c.loop-left in
    let many = c.pass_varints-left in
    let one = more_passed (c.args.many - l.left) 1 (c.args.many - (l.left - 1)) c.args.self.now l.self c.uvarint.new.self l.invariant.numbers (one_passed l.self c.uvarint.new.self _ c.in-Ok.ensures.ok c.in-Ok.ensures.moved) (omega (arith, l.invariant.few, c.loop-left-test.true)) in
    record {
      few = omega (arith, l.invariant.few);
      numbers = more_passed _ many.result (c.args.many - (l.left - 1 - many.result)) _ _ _ one (short_passed _ _ _ many.ensures.passed many.ensures.moved) (omega (arith, l.invariant.few, c.loop-left-test.true, many.ensures.few));
    }
