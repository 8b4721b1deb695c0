use Rattle.std.proofs.Common.{◌≡◌, ◌++◌, None}
use Rattle.tz_lines.specs.LeapFaults.{repeats, later_expiries, last_date, early_expiries}
use Rattle.tz_database.specs.LeastFault.{told_with}
use Rattle.tz_database.proofs.ToldLists.{told_next}
use Rattle.tz_lines.proofs.leap_faults.least_leap_fault.Goals as goal

pub returns : goal.returns
returns c =
    let repeated = repeats c.args.leaps.now in
    let later = later_expiries c.args.expiries.now in
    let early = early_expiries (last_date c.args.leaps.now) c.args.expiries.now in
    let told_repeats : c.tell_repeats.new.told.least ≡ told_with None repeated = rw c.new-told.ensures at c.tell_repeats.ensures in
    let told_later = told_next repeated later None c.tell_repeats.new.told.least c.tell_later_expiries.new.told.least told_repeats c.tell_later_expiries.ensures in
    told_next (repeated ++ later) early None c.tell_later_expiries.new.told.least c.tell_early_expiries.new.told.least told_later (rw c.last_date.ensures at c.tell_early_expiries.ensures)
