use Rattle.std.proofs.Common.{FitsSigned}
use Rattle.std.specs.Int.{w64}
use Rattle.std.proofs.lemmas.Int.{to_z-of_z}
use Rattle.tz_zoned.proofs.zoned_time.ZonedTime.from_local.Goals as goal

pub returns-in-Err-clause-undecided : goal.returns-in-Err-clause-undecided
returns-in-Err-clause-undecided c = λ info.
    let fits : FitsSigned w64 c.args.l = c.ranges.l in
    let refused = simp to_z-of_z at (c.in-Err.ensures.undecided info) in
    (λ same. refused.0 (cc), λ facts. let is = refused.1 facts in cc)
