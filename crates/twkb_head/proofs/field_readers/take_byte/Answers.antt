-- The byte that was read, or the end, is what the reader answers.
use Rattle.twkb_head.proofs.Prelude.{refl}
use Rattle.twkb_head.proofs.Steps.{read_byte, read_no_byte}
use Rattle.twkb_head.proofs.field_readers.take_byte.Goals as goal

pub returns-in-Some : goal.returns-in-Some
returns-in-Some c = read_byte _ _ _ c.in-Some.ensures.some c.in-Some.ensures.moved

pub returns-in-None : goal.returns-in-None
returns-in-None c = rw c.place.ensures.value (read_no_byte _ _ (c.in-None.ensures.end.0 refl) (c.in-None.ensures.none) c.place.ensures.sound)
