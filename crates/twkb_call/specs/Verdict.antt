-- What a verdict says of the bytes.
use Rattle.std.specs.Prelude.{◌≡◌, ℕ, List, ◌⊎◌}
use Rattle.twkb_body.specs.Claims.{Claim}
use Rattle.twkb_layer.specs.Layer.{IsCounted}
use Rattle.twkb_layer.specs.Refusal.{IsRefusal, WantsMemory}
use Rattle.twkb_call.specs.declared.verdict.Verdict.{Verdict}

-- the verdict on a certified layer
abbrev pub yes : (blobs vertices : ℕ) → Verdict
yes blobs vertices = record { answer = 0; kind = 0; blobs = blobs; vertices = vertices; blob = 0; offset = 0 }

-- the verdict on bytes that are refused
abbrev pub no : (blob offset kind : ℕ) → Verdict
no blob offset kind = record { answer = 1; kind = kind; blobs = 0; vertices = 0; blob = blob; offset = offset }

-- the verdict if a list of ids needs more memory than there is
abbrev pub no_memory : Verdict
no_memory = record { answer = 2; kind = 0; blobs = 0; vertices = 0; blob = 0; offset = 0 }

-- The verdict is one of these three, and true, in the check that takes these claims for true.
abbrev pub Says : (Claim → Type 0) → Verdict → List ℕ → Type 0
Says IsTrue v bytes =
    ((v ≡ yes v.blobs v.vertices) × IsCounted bytes v.blobs v.vertices)
    ⊎ (((v ≡ no v.blob v.offset v.kind) × IsRefusal IsTrue bytes v.blob v.offset v.kind)
    ⊎ ((v ≡ no_memory) × WantsMemory IsTrue bytes))
