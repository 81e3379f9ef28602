-- Shared between crates: private contracts alone name them, here and in crates above.
-- The law of visitors that skip no box.
use Rattle.std.specs.Prelude.{false}
use Rattle.std.proofs.lemmas.Bool.{false≢true}
use Rattle.twkb_head.specs.declared.boxes.Vertex.{Vertex}
use Rattle.twkb_body.specs.Visit.{SkipsSoundly}

-- a visitor that skips no box skips none that it needs
pub never_skips : {S : Type 0} (step : S → Vertex → S) → SkipsSoundly step (λ s box. false)
never_skips step s box v e h = absurd (false≢true e)
