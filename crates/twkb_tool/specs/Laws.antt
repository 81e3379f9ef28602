-- The law of the output.
use Rattle.std.specs.Prelude.{◌≡◌, ℕ, List}
use Rattle.twkb_tool.specs.Output.{IsOutput}
use Rattle.twkb_tool.specs.declared.judge.Verdict.{Verdict}
use Rattle.twkb_tool.specs.declared.request.Request.{Request}

-- given bytes and a request have at most one text and one verdict
abbrev pub OneOutput : Type 0
OneOutput = (request : Request) (bytes text other : List ℕ) (verdict decision : Verdict)
    → IsOutput request bytes text verdict → IsOutput request bytes other decision
    → (text ≡ other) × (verdict ≡ decision)
