-- All numbers were short, or further ones follow those that were.
use Rattle.twkb_num.proofs.Prelude.{◌-◌, subst, arith, PassesNumbers}
use Rattle.twkb_num.proofs.NumberLemmas.{short_passed, ok_further, err_further}
use Rattle.twkb_num.proofs.cursor.Cursor.pass_numbers.Goals as goal

pub returns-then-passed-many-clause-ok : goal.returns-then-passed-many-clause-ok
returns-then-passed-many-clause-ok c =
    let first = c.pass_varints-passed in
    subst (λ n. PassesNumbers n c.args.self.now first.new.self) c.if-passed-many.true (short_passed _ _ _ first.ensures.passed first.ensures.moved)

pub returns-clause-ok : goal.returns-clause-ok
returns-clause-ok c =
    let first = c.pass_varints-passed in
    let further = c.pass_further-further in
    let short = short_passed _ _ _ first.ensures.passed first.ensures.moved in
    ok_further first.result (c.args.many - first.result) c.args.many c.args.self.now first.new.self further.new.self further.result short (rw c.copied-ahead.ensures at further.ensures.ok) (omega (arith, first.ensures.few))

pub returns-clause-err : goal.returns-clause-err
returns-clause-err c =
    let first = c.pass_varints-passed in
    let further = c.pass_further-further in
    let short = short_passed _ _ _ first.ensures.passed first.ensures.moved in
    err_further first.result (c.args.many - first.result) c.args.many c.args.self.now first.new.self further.new.self further.result short (rw c.copied-ahead.ensures at further.ensures.err) (omega (arith, first.ensures.few))
