use Rattle.std.proofs.Common.{◌≡◌, drop}
use Rattle.tz_lines.specs.LeapFaults.{early_expiries}
use Rattle.tz_database.specs.LeastFault.{told_with}
use Rattle.tz_lines.proofs.leap_faults.tell_early_expiries.Given as goal

-- the least, when those that are left are told too
abbrev pub invariant-loop-expiry : goal.invariant-loop-expiry
invariant-loop-expiry l =
    told_with l.told.least (early_expiries l.last (drop l.expiry-index l.expiries)) ≡ told_with l.fn.told.least (early_expiries l.last l.expiries)
