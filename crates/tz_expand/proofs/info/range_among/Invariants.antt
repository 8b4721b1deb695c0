use Rattle.std.proofs.Common.{◌≡◌, drop}
use Rattle.tz_expand.proofs.Lines.{AreLeft}
use Rattle.tz_expand.proofs.info.range_among.Given as goal

-- the lines that are left lead from an instant that isn't later to the end of time
abbrev pub invariant-loop-line : goal.invariant-loop-line
invariant-loop-line g l =
    record { left : AreLeft (drop l.line-index l.lines) l.t; steps : l.steps ≡ l.initial.steps }
