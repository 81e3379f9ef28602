-- Sources and sinks over memory: what they still hold, and which call fails.
use Rattle.std.specs.Prelude.{ℕ, ◌+◌, ◌^◌, ◌-◌, ◌==◌, ◌||◌, ◌&&◌, Bool, false, Option, Some, None, nat_lt, if◌then◌else◌}
use Rattle.twkb_tool.specs.Streams.{SourceState, SinkState}

-- the call with this number, if it has one, is the call that fails
abbrev pub is_failing : Option ℕ → Option ℕ → Bool
is_failing (Some number) (Some fail_at) = number == fail_at
is_failing (Some number) None = false
is_failing None fail_at = false

-- the number of the next call: none past the greatest
abbrev pub number_after : Option ℕ → Option ℕ
number_after None = None
number_after (Some n) = if nat_lt n (2 ^ 64 - 1) then Some (n + 1) else None

-- a source: what every source shows, the most bytes of a call, and the numbers of the next call and of the call that fails
pub record MemSourceState : Type 0 where
  pub state : SourceState
  pub step : ℕ
  pub next : Option ℕ
  pub fail_at : Option ℕ

-- a sink: what every sink shows, the room left, the most bytes of a call, the number of the next call, and the number
-- of the call that fails
pub record MemSinkState : Type 0 where
  pub state : SinkState
  pub room : ℕ
  pub step : ℕ
  pub next : Option ℕ
  pub fail_at : Option ℕ

-- a put of this many bytes fails: it is the call that fails, or there are bytes and no room
abbrev pub puts_fail : MemSinkState → ℕ → Bool
puts_fail sink n = is_failing sink.next sink.fail_at || (sink.room == 0 && nat_lt 0 n)
