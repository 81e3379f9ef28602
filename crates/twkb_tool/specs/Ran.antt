-- What a run did.
use Rattle.std.specs.Prelude.{◌≡◌, ℕ, ◌+◌, ◌≤◌, List, [], length, take, Result, Ok, Err, IsTrue, false, true}
use Rattle.twkb_tool.specs.Streams.{SourceState, SinkState, Gives, Takes}
use Rattle.twkb_tool.specs.Output.{IsOutput}
use Rattle.twkb_tool.specs.declared.request.Request.{Request}
use Rattle.twkb_tool.specs.declared.judge.Verdict.{Verdict}
use Rattle.twkb_tool.specs.declared.run.RunFault.{RunFault}
use Rattle.twkb_tool.specs.declared.run.RunFault.TheVariants.{Read, TooLarge, Memory, Write}

-- ---- reading

-- the source gave these bytes, at most `limit`, has no more, and its last call did not fail
pub record GivesAll (limit : ℕ) (s t : SourceState) (given : List ℕ) : Type 0 where
  pub gives : Gives s t given
  pub ends : IsTrue s.tells → t.rest ≡ []
  pub fine : t.failed ≡ false
  pub within : length given ≤ limit

-- reading stopped, for this reason: the last call failed; the source gave a byte more than the limit; or, for `Memory`, neither
abbrev pub StopsReading : ℕ → RunFault → SourceState → SourceState → Type 0
StopsReading limit Read s t = (given : List ℕ) × Gives s t given × (length given ≤ limit) × IsTrue t.failed
StopsReading limit TooLarge s t = (given : List ℕ) × Gives s t given × (length given ≡ limit + 1) × (t.failed ≡ false)
StopsReading limit Memory s t = (given : List ℕ) × Gives s t given × (length given ≤ limit) × (t.failed ≡ false)
StopsReading limit (Write done) s t = ⊥

-- ---- writing

-- the sink took the whole text, and its last call was a flush, which did not fail
pub record PutsAll (text : List ℕ) (k m : SinkState) : Type 0 where
  pub takes : Takes k m text
  pub fine : m.failed ≡ false
  pub flushed : m.flushing ≡ true

-- the sink took the first bytes of the text, and its last call failed; if that was the flush, it had taken all
pub record PutsSome (text : List ℕ) (done : ℕ) (k m : SinkState) : Type 0 where
  pub within : done ≤ length text
  pub takes : Takes k m (take done text)
  pub failed : IsTrue m.failed
  pub flush : m.flushing ≡ true → done ≡ length text

-- ---- the whole run

-- what a run did, by its result: it read all and put all, or stopped reading, or stopped writing
abbrev pub Ran : Request → ℕ → SourceState → SourceState → SinkState → SinkState → Result Verdict RunFault → Type 0
Ran request limit s t k m (Ok verdict) = (given : List ℕ) × (text : List ℕ)
    × GivesAll limit s t given × IsOutput request given text verdict × PutsAll text k m
Ran request limit s t k m (Err (Write done)) = (given : List ℕ) × (text : List ℕ) × (verdict : Verdict)
    × GivesAll limit s t given × IsOutput request given text verdict × PutsSome text done k m
Ran request limit s t k m (Err fault) = StopsReading limit fault s t × (m ≡ k)
