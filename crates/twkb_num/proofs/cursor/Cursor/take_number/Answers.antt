-- The number that was read is given to the taker.
use Rattle.twkb_num.proofs.Prelude.{◌≡◌, [], ◌∷◌, subst, refl, arith, ints, w64, to_z, of_z, Reading, passed, IsMoved, IsSigned}
use Rattle.twkb_num.proofs.TakeLemmas.{one_read}
use Rattle.twkb_num.proofs.cursor.Cursor.take_number.Goals as goal

pub returns-in-Ok-clause-ok : goal.returns-in-Ok-clause-ok
returns-in-Ok-clause-ok g c =
    let read = c.in-Ok.ensures in
    let one = subst (λ (r : Reading). IsSigned c.in-Ok.number (passed r c.svarint_called-number.new.self)) c.copied-ahead.ensures read.ok in
    let moved = subst (λ (r : Reading). IsMoved r c.svarint_called-number.new.self) c.copied-ahead.ensures read.moved in
    let same : to_z w64 (of_z w64 c.in-Ok.number) ≡ c.in-Ok.number = omega (arith, ints) in
    (c.in-Ok.number ∷ [], refl, one_read _ _ _ one moved, rw same at c.take_one.ensures)
