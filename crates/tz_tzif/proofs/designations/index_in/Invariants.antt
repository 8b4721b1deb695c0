use Rattle.std.proofs.Common.{◌≡◌, ◌≤◌, ◌+◌, ◌*◌, drop}
use Rattle.tz_tzif.specs.Designations.{index_in}
use Rattle.tz_tzif.proofs.designations.index_in.Given as goal

abbrev pub invariant-loop-other : goal.invariant-loop-other
invariant-loop-other l =
    (l.index + index_in (drop l.other-index l.designations) l.designation ≡ index_in l.designations l.designation) × (l.index ≤ 33 * l.other-index)
