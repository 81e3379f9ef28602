-- The other bit of the metadata byte is the one of ids.
use Rattle.twkb_body.proofs.Prelude.{arith}
use Rattle.twkb_body.proofs.FieldBits.{field_bits, ids_bit}
use Rattle.twkb_body.proofs.fields.announced.Goals as goal

pub returns-else-this : goal.returns-else-this
returns-else-this g c = omega (arith, c.requires c.if-this.false, field_bits c.args.metadata, ids_bit c.args.metadata)
