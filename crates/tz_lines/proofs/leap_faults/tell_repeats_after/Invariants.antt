use Rattle.std.proofs.Common.{◌≡◌, drop}
use Rattle.tz_lines.specs.LeapFaults.{repeats_after}
use Rattle.tz_database.specs.LeastFault.{told_with}
use Rattle.tz_lines.proofs.leap_faults.tell_repeats_after.Given as goal

-- the least, when those that are left are told too
abbrev pub invariant-loop-leap : goal.invariant-loop-leap
invariant-loop-leap l =
    told_with l.told.least (repeats_after l.before (drop l.leap-index l.later)) ≡ told_with l.fn.told.least (repeats_after l.first l.later)
