-- Each turn reads one number more.
use Rattle.twkb_num.proofs.Prelude.{◌≡◌, ◌<◌, [], ◌∷◌, take, length, subst, sym, ◌∙◌, arith, rules, ints, take_more_set, length-take-le, take_all, length-set, to_z, of_z, ReadsNumbers}
use Rattle.std.proofs.Common.{w64}
use Rattle.twkb_num.proofs.TakeLemmas.{one_read, more_read}
use Rattle.twkb_num.proofs.cursor.Cursor.each_svarint.Goals as goal

pub loop-i-preserved : goal.loop-i-preserved
loop-i-preserved g c =
    let l = c.loop-i in
    let z = c.in-Ok.number in
    let there : l.i < length l.numbers = omega (arith, l.invariant.all, c.loop-i-test.true) in
    let same : to_z w64 (of_z w64 z) ≡ z = omega (arith, ints) in
    let more = more_read c.args.self.now l.self c.svarint.new.self (take l.i l.numbers) (z ∷ []) l.invariant.read (one_read l.self c.svarint.new.self z c.in-Ok.ensures.ok c.in-Ok.ensures.moved) in
    record {
      all = length-set l.numbers l.i (to_z w64 (of_z w64 z)) ∙ l.invariant.all;
      read = rw same (subst (ReadsNumbers c.args.self.now c.svarint.new.self) (sym (take_more_set l.numbers l.i z there)) more);
    }

pub returns-in-Err-clause-err : goal.returns-in-Err-clause-err
returns-in-Err-clause-err g c =
    let l = c.loop-i in
    record {
      numbers = take l.i l.numbers;
      middle = l.self;
      fewer = omega (arith, length-take-le l.i l.numbers (omega (arith, l.invariant.all, c.loop-i-test.true)), c.loop-i-test.true);
      read = l.invariant.read;
      stops = search rules;
    }

pub returns-clause-ok : goal.returns-clause-ok
returns-clause-ok g c =
    let l = c.loop-i in
    subst (ReadsNumbers c.args.self.now l.self) (take_all l.i l.numbers (omega (arith, l.invariant.all, c.loop-i-test.false))) l.invariant.read
