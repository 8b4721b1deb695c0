use Rattle.std.proofs.Common.{FitsSigned}
use Rattle.std.specs.Int.{w64}
use Rattle.std.proofs.lemmas.Int.{to_z-of_z}
use Rattle.tz_rules.proofs.TakenLaws.{last_some, last_none}
use Rattle.tz_rules.proofs.taken.last_at_or_before.Goals as goal

pub returns-clause-some : goal.returns-clause-some
returns-clause-some g c =
    let stdoff_fits : FitsSigned w64 c.args.stdoff = c.ranges.stdoff in
    let t_fits : FitsSigned w64 c.args.t = c.ranges.t in
    let is = simp to_z-of_z at c.last_taken.ensures.last in
    last_some c.args.set.now c.args.stdoff c.args.t c.last_taken.result is

pub returns-clause-none : goal.returns-clause-none
returns-clause-none g c =
    let stdoff_fits : FitsSigned w64 c.args.stdoff = c.ranges.stdoff in
    let t_fits : FitsSigned w64 c.args.t = c.ranges.t in
    let is = simp to_z-of_z at c.last_taken.ensures.last in
    last_none c.args.set.now c.args.stdoff c.args.t c.last_taken.result is
