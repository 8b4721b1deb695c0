use Rattle.std.proofs.Common.{◌-◌, length}
use Rattle.tz_expand.specs.Compiled.{period_of}
use Rattle.tz_expand.proofs.Told.{Telling}
use Rattle.tz_expand.proofs.expansion.push_changes.Given as goal

abbrev pub invariant-loop-back : goal.invariant-loop-back
invariant-loop-back l =
    Telling (period_of l.line) l.from l.to l.list (length l.list - l.back) l.initial.ranges.items l.ranges.items l.end
