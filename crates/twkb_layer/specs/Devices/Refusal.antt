-- Devices of proofs: nothing public names them.
-- The refusal of a layer, from the fault of one of its blobs.
use Rattle.std.specs.Prelude.{ℕ}
use Rattle.twkb_body.specs.declared.answers.AuditFault.{AuditFault}
use Rattle.twkb_body.specs.declared.answers.AuditFault.TheVariants.{Malformed as BadField, FalseClaim, Memory as NoMemory}
use Rattle.twkb_layer.specs.declared.refusal.Refusal.{Refusal}
use Rattle.twkb_layer.specs.declared.refusal.Refusal.TheVariants.{No, Memory}
use Rattle.twkb_body.specs.Audited.{number_of}
use Rattle.twkb_layer.specs.Refusal.{number_of_why}

-- the refusal of the layer for the fault of the blob with this number
abbrev pub refusal_of : ℕ → AuditFault → Refusal
refusal_of blob (BadField m) = No blob m.offset (number_of_why m.why)
refusal_of blob (FalseClaim offset claim) = No blob offset (number_of claim)
refusal_of blob NoMemory = Memory
