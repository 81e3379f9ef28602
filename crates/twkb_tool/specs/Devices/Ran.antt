-- Devices of proofs: nothing public names them.
-- What reading a piece gives, and how it and writing a text stop.
use Rattle.std.specs.Prelude.{◌≡◌, ℕ, ◌+◌, List, ◌++◌, length, take, true}
use Rattle.twkb_tool.specs.Streams.{SourceState, SinkState, Gives}
use Rattle.twkb_tool.specs.declared.run.RunFault.{RunFault}
use Rattle.twkb_tool.specs.declared.run.RunFault.TheVariants.{Read, TooLarge, Memory, Write}
use Rattle.twkb_tool.specs.Ran.{PutsSome}

-- the source gave a piece of n bytes, which are in the buffer after the first ones, those held
abbrev pub AddsPiece : SourceState → SourceState → ℕ → List ℕ → List ℕ → ℕ → Type 0
AddsPiece s t held old new n = (given : List ℕ) × Gives s t given × (length given ≡ n)
    × (take (held + n) new ≡ take held old ++ given)

-- why no piece came
abbrev pub StopsPiece : RunFault → SourceState → SourceState → Type 0
StopsPiece Read s t = t ≡ record s { failed = true }
StopsPiece Memory s t = t ≡ s
StopsPiece TooLarge s t = ⊥
StopsPiece (Write done) s t = ⊥

-- why writing stopped
abbrev pub StopsWriting : List ℕ → RunFault → SinkState → SinkState → Type 0
StopsWriting text (Write done) k m = PutsSome text done k m
StopsWriting text Read k m = ⊥
StopsWriting text TooLarge k m = ⊥
StopsWriting text Memory k m = ⊥
