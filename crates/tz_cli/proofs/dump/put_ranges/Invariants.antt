use Rattle.std.proofs.Common.{take}
use Rattle.std.specs.List.{flat_map}
use Rattle.tz_cli.specs.Line.{range_line}
use Rattle.tz_cli.specs.Dumping.{IsPut}
use Rattle.tz_cli.proofs.dump.put_ranges.Given as goal

abbrev pub invariant-loop-range : goal.invariant-loop-range
invariant-loop-range g l =
    IsPut (g.S.Sink.state l.initial.sink) (g.S.Sink.state l.sink) l.initial.waiting.items l.waiting.items (flat_map range_line (take l.range-index l.ranges))
