use Rattle.std.proofs.Common.{◌≡◌, ◌++◌, ℕ, List, [], length}
use Rattle.tz_cli.specs.Dumping.{compiled_texts, IsPut}
use Rattle.tz_cli.proofs.dump.write_zones.Given as goal

-- the text so far was put, and it and that of the zones that are left are the whole text
abbrev pub invariant-loop-rest : goal.invariant-loop-rest
invariant-loop-rest g l = record {
  done : List ℕ;
  put : IsPut (g.S.Sink.state l.initial.sink) (g.S.Sink.state l.sink) [] l.waiting.items done;
  all : done ++ compiled_texts l.from l.to l.rest ≡ compiled_texts l.from l.to l.zones;
}

abbrev pub decreases-loop-rest : goal.decreases-loop-rest
decreases-loop-rest g l = length l.rest
