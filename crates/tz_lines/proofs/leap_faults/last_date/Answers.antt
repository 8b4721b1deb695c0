use Rattle.std.proofs.Common.{sym, FitsSigned, rules}
use Rattle.std.specs.Int.{w64}
use Rattle.std.proofs.lemmas.Int.{to_z-of_z}
use Rattle.tz_lines.proofs.LeapDates.{last_is}
use Rattle.tz_lines.proofs.leap_faults.last_date.Goals as goal

pub returns-in-Some : goal.returns-in-Some
returns-in-Some c =
    let fits : FitsSigned w64 c.in-Some.leap.now.date = search rules in
    let item = c.in-Some.ensures.value in
    simp to_z-of_z (sym (last_is c.args.leaps.now c.in-Some.leap.now (sym item)))
