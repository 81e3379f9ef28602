-- After two bytes that go on, the loop's number is the number of the whole varint.
use Rattle.twkb_num.proofs.Prelude.{arith}
use Rattle.twkb_num.proofs.CursorLemmas.{slice_range-take}
use Rattle.twkb_num.proofs.cursor.Cursor.long_uvarint.Goals as goal

pub returns-in-Ok-clause-ok : goal.returns-in-Ok-clause-ok
returns-in-Ok-clause-ok c =
    rw (← c.self.view_is) (rw (slice_range-take c.self.inside.bytes.now c.self.inside.place c.in-Ok.len (omega (arith, c.in-Ok.ensures.len))) c.in-Ok.ensures.ok)
