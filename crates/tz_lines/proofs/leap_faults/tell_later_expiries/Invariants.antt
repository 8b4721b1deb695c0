use Rattle.std.proofs.Common.{◌≡◌, map, drop}
use Rattle.tz_types.specs.declared.cause.Cause.TheVariants as causes
use Rattle.tz_specs.specs.LeapText.{leap_fault}
use Rattle.tz_lines.specs.LeapFaults.{later_expiries}
use Rattle.tz_database.specs.LeastFault.{told_with}
use Rattle.tz_lines.proofs.leap_faults.tell_later_expiries.Given as goal

-- the least, when those that are left are told too
abbrev pub invariant-loop-expiry : goal.invariant-loop-expiry
invariant-loop-expiry l =
    told_with l.told.least (map (λ later. leap_fault later.line causes.ExpiresTwice) (drop l.expiry-index l.later)) ≡ told_with l.fn.told.least (later_expiries l.expiries)
