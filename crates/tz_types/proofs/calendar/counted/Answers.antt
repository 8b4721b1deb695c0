use Rattle.std.proofs.Common.{arith}
use Rattle.jiff_core.proofs.SignedLemmas.{signed_casts}
use Rattle.tz_types.proofs.Days.{day_of_longest}
use Rattle.tz_types.proofs.calendar.counted.Goals as goal

pub returns-clause-bound : goal.returns-clause-bound
returns-clause-bound c =
    let in_month = day_of_longest c.args.month c.args.day c.requires.day_in in
    (omega (arith, signed_casts, in_month), omega (arith, signed_casts, in_month))
