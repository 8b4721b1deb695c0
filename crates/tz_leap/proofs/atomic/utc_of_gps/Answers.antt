use Rattle.std.proofs.Common.{◌≤ℤ◌, pos, arith, FitsSigned}
use Rattle.std.specs.Int.{w64}
use Rattle.std.proofs.lemmas.Int.{ints}
use Rattle.tz_types.specs.declared.limit.TheConstants.{MOST_LEAPS}
use Rattle.tz_specs.specs.LeapSecond.{all_seconds}
use Rattle.tz_leap.proofs.SearchLemmas.{all_within}
use Rattle.tz_leap.proofs.atomic.utc_of_gps.Goals as goal

pub returns-in_default-2-clause-in_range : goal.returns-in_default-2-clause-in_range
returns-in_default-2-clause-in_range c =
    let leaps = c.args.leaps.now in
    let few : all_seconds leaps.entries ≤ℤ pos MOST_LEAPS = all_within leaps.entries leaps.few_enough in
    let fits : FitsSigned w64 c.args.gps = c.ranges.gps in (
      λ bad. absurd (cc),
      λ is. absurd (c.in_default.ensures (omega (arith, ints, is.0, is.1, few))),
    )
