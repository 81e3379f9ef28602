-- The slot says the offset, and the box if there is one.
use Rattle.twkb_layer.proofs.Prelude.{refl}
use Rattle.twkb_layer.proofs.Entries.{bare_says}
use Rattle.twkb_layer.proofs.slots.Slot.short.Goals as goal

pub returns-in-None : goal.returns-in-None
returns-in-None c = bare_says _ c.code_of.result c.args.offset c.args.header.now c.code_of.ensures.few refl c.in-None.is
