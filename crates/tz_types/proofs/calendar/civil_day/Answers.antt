use Rattle.std.proofs.Common.{◌≡◌, arith, rules}
use Rattle.std.specs.Int.{IsInRange}
use Rattle.jiff_core.specs.Calendar.{days_from_civil}
use Rattle.jiff_core.proofs.SignedLemmas.{signed_casts}
use Rattle.tz_types.specs.Calendar.{month_number}
use Rattle.tz_types.proofs.Days.{rule_year_days}
use Rattle.tz_types.proofs.calendar.civil_day.Goals as goal

pub returns-clause-bound : goal.returns-clause-bound
returns-clause-bound c =
    let value : c.from.result ≡ days_from_civil c.args.year (month_number c.args.month) c.args.day = search rules in
    let month_in : IsInRange 1 12 (month_number c.args.month) = rw c.number.ensures.value at c.number.ensures.bound in
    let bound = rule_year_days c.args.year (month_number c.args.month) c.args.day c.requires.year_in month_in c.requires.day_in in
    let is = rw (← value) at bound in
    (omega (arith, signed_casts), omega (arith, signed_casts))
