-- What a sink in memory took, what it counts, and what its next write does.
use Rattle.std.specs.Prelude.{ℕ, ◌-◌, List, Some, Bool, length, min}
use Rattle.tz_io.specs.declared.memory_sink.MemorySink.{MemorySink}
use Rattle.tz_io.specs.Calls.{next_call, fails_at}
use Rattle.tz_io.specs.Sink.{SinkState}

-- All bytes taken so far.
abbrev pub sink_bytes : MemorySink → List ℕ
sink_bytes sink = sink.bytes.items

-- these bytes, which it tells, and how often a write has failed or took nothing of a piece that was not empty
abbrev pub sink_state : MemorySink → SinkState
sink_state sink = record { bytes = Some sink.bytes.items; faults = sink.faults; stalls = sink.stalls }

-- How many writes there were, up to the greatest that 64 bits hold.
abbrev pub sink_calls : MemorySink → ℕ
sink_calls sink = sink.calls

-- What no write changes: the most bytes of a write, the most bytes of all, and the numbers of the writes that fail.
abbrev pub sink_limits : MemorySink → ℕ × ℕ × List ℕ
sink_limits sink = (sink.piece, sink.room, sink.failing.items)

-- Whether the next write is one that fails.
abbrev pub write_fails_next : MemorySink → Bool
write_fails_next sink = fails_at sink.failing.items (next_call sink.calls)

-- How much of a piece the next write takes where it does not fail: all that both limits leave.
abbrev pub taken_next : MemorySink → List ℕ → ℕ
taken_next sink piece = min (min (length piece) sink.piece) (sink.room - length sink.bytes.items)
