use Rattle.std.proofs.Common.{refl, arith, FitsSigned}
use Rattle.std.specs.Int.{w64}
use Rattle.std.proofs.lemmas.Int.{ints}
use Rattle.tz_rules.proofs.BeforeMark.{last_by_mark}
use Rattle.tz_rules.proofs.previous_occurrence.last_by.Goals as goal

pub returns-clause-last : goal.returns-clause-last
returns-clause-last g c =
    let fits : FitsSigned w64 c.args.second = c.ranges.second in
    last_by_mark c.args.set.now c.args.second _ c.last_before_mark.result (omega (arith, ints)) refl c.last_before_mark.ensures.last
