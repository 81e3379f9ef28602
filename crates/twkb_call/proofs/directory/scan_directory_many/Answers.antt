-- A window more is answered, or its hits don't fit.
use Rattle.twkb_call.proofs.Prelude.{rules, arith}
use Rattle.twkb_call.proofs.Answered.{next_answered}
use Rattle.twkb_call.proofs.directory.scan_directory_many.Goals as goal

pub loop-asked-preserved : goal.loop-asked-preserved
loop-asked-preserved c =
    let inv = c.loop-asked.invariant in
    let scan = c.scan_directory-one.ensures in
    record {
      fits = omega (arith, c.if-one-room.false, inv.fits, inv.same);
      same = search rules;
      so_far = rw c.put_scanned.ensures (next_answered _ _ _ _ _ _ _ _ _ _ _ inv.so_far (omega (arith, c.loop-asked-test.true)) (omega (arith, inv.fits, inv.same)) inv.same scan.hits scan.read scan.room);
    }

pub returns-then-one-room : goal.returns-then-one-room
returns-then-one-room c =
    let inv = c.loop-asked.invariant in
    let scan = c.scan_directory-one.ensures in
    let next = next_answered _ _ _ _ _ _ _ _ _ _ _ inv.so_far (omega (arith, c.loop-asked-test.true)) (omega (arith, inv.fits, inv.same)) inv.same scan.hits scan.read scan.room in
    record {
      few = omega (arith, c.loop-asked-test.true);
      scanned = λ trees h. rw c.put_scanned.ensures (next trees h).told;
      room = λ trees h. (next trees h).shown;
      fit = λ trees h. omega (arith, (inv.so_far trees h).counted, inv.fits);
      full = λ trees h more. omega (arith, (next trees h).counted, c.if-one-room.true, inv.same, inv.fits);
    }
