-- For one byte, two bytes and more, the answer is the number that the bytes there spell, or their fault.
use Rattle.twkb_num.proofs.Prelude.{◌+◌, ◌-◌, ◌*◌, arith, common_steps, Reading, added, passed, IsMoved, Spells}
use Rattle.twkb_num.proofs.ReadLaws.{Ok-complete, Ok-no_fault, result_complete}
use Rattle.twkb_num.proofs.cursor.Cursor.uvarint.Goals as goal

pub returns-then-first-lt128 : goal.returns-then-first-lt128
returns-then-first-lt128 c =
    let old = c.args.self.now in
    let new : Reading = record { bytes = c.self.inside.bytes.now; place = c.self.inside.place + 1; count = added c.self.inside.counted_before (c.self.inside.place + 1 - c.self.inside.start) } in
    let spells : Spells (passed old new) c.from.result = grind (arith, common_steps) in
    let moved : IsMoved old new = grind (arith, common_steps) in
    record { ok = spells; moved = moved; complete = Ok-complete old new _ spells moved; fault = Ok-no_fault old new _ spells moved; still = tt }

pub returns-then-second-lt128 : goal.returns-then-second-lt128
returns-then-second-lt128 c =
    let old = c.args.self.now in
    let new : Reading = record { bytes = c.self.inside.bytes.now; place = c.self.inside.place + 2; count = added c.self.inside.counted_before (c.self.inside.place + 2 - c.self.inside.start) } in
    let spells : Spells (passed old new) (c.from-then-second-lt128.result + 128 * c.from-then-second-lt128-2.result) = grind (arith, common_steps) in
    let moved : IsMoved old new = grind (arith, common_steps) in
    record { ok = spells; moved = moved; complete = Ok-complete old new _ spells moved; fault = Ok-no_fault old new _ spells moved; still = tt }

pub returns-clause-complete : goal.returns-clause-complete
returns-clause-complete c =
    let reads = c.long_uvarint.ensures in
    result_complete c.args.self.now c.long_uvarint.new.self c.long_uvarint.result reads.ok reads.moved reads.fault
