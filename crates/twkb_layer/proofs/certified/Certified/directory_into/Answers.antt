-- Slots are put if the room has places for all of them. Otherwise room and count are unchanged.
use Rattle.twkb_layer.proofs.Prelude.{rules}
use Rattle.twkb_layer.proofs.certified.Certified.directory_into.Goals as goal

pub put_slots-requires : goal.put_slots-requires
put_slots-requires c = search rules

pub returns-clause-kept : goal.returns-clause-kept
returns-clause-kept c = search rules

pub returns-clause-rest : goal.returns-clause-rest
returns-clause-rest c = search rules
