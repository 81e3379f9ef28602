-- Devices of proofs: nothing public names them.
-- The verdict on what is refused.
use Rattle.twkb_layer.specs.declared.refusal.Refusal.{Refusal}
use Rattle.twkb_layer.specs.declared.refusal.Refusal.TheVariants.{No, Memory}
use Rattle.twkb_call.specs.declared.verdict.Verdict.{Verdict}
use Rattle.twkb_call.specs.Verdict.{no, no_memory}

abbrev pub verdict_on : Refusal → Verdict
verdict_on (No blob offset kind) = no blob offset kind
verdict_on Memory = no_memory
