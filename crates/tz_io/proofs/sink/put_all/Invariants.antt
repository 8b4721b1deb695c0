-- The sink took as much of the text as is done, and nothing was counted.
use Rattle.std.proofs.Common.{◌≡◌, ◌-◌, ◌≤◌, length, take}
use Rattle.tz_io.specs.Sink.{with_bytes}
use Rattle.tz_io.proofs.sink.put_all.Given as goal

abbrev pub invariant-loop-done : goal.invariant-loop-done
invariant-loop-done g l = record {
  within : l.done ≤ length l.text;
  state : g.S.Sink.state l.sink ≡ with_bytes (g.S.Sink.state l.initial.sink) (take l.done l.text);
}

abbrev pub decreases-loop-done : goal.decreases-loop-done
decreases-loop-done g l = length l.text - l.done
