use Rattle.std.proofs.Common.{◌≡◌, ◌++◌, List, ℕ, length}
use Rattle.tz_io.specs.Sink.{with_bytes}
use Rattle.tz_cli.proofs.pieces.write_text.Given as goal

-- what was taken, and what is left, are the whole text, and nothing was counted
abbrev pub invariant-loop-rest : goal.invariant-loop-rest
invariant-loop-rest g l = record {
  done : List ℕ;
  state : g.S.Sink.state l.sink ≡ with_bytes (g.S.Sink.state l.initial.sink) done;
  all : done ++ l.rest ≡ l.text;
}

abbrev pub decreases-loop-rest : goal.decreases-loop-rest
decreases-loop-rest g l = length l.rest
