use Rattle.std.proofs.Common.{take}
use Rattle.tz_cli.specs.Dumping.{compiled_texts, IsPut}
use Rattle.tz_cli.proofs.dump.put_zones.Given as goal

abbrev pub invariant-loop-place : goal.invariant-loop-place
invariant-loop-place g l =
    IsPut (g.S.Sink.state l.initial.sink) (g.S.Sink.state l.sink) l.initial.waiting.items l.waiting.items (compiled_texts l.from l.to (take l.place l.zones))
