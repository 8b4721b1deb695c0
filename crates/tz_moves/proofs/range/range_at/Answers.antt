use Rattle.std.proofs.Common.{sym, ◌∙◌, FitsSigned}
use Rattle.std.specs.Int.{w64}
use Rattle.std.proofs.lemmas.Int.{to_z-of_z}
use Rattle.tz_local.proofs.InfoLemmas.{range_near}
use Rattle.tz_moves.proofs.WalkLemmas.{range_in_time, range_holds}
use Rattle.tz_moves.proofs.range.range_at.Goals as goal

pub returns-clause-near : goal.returns-clause-near
returns-clause-near g c =
    range_near c.args.zone.now _ c.in-Some.range (sym c.info_at.ensures.range ∙ c.in-Some.is)

pub returns-clause-in_time : goal.returns-clause-in_time
returns-clause-in_time g c =
    range_in_time c.args.zone.now _ c.in-Some.range (sym c.info_at.ensures.range ∙ c.in-Some.is)

pub returns-clause-holds : goal.returns-clause-holds
returns-clause-holds g c =
    let fits : FitsSigned w64 c.args.t = c.ranges.t in
    let told = simp to_z-of_z at c.info_at.ensures.range in
    range_holds c.args.zone.now c.args.t c.in-Some.range (sym told ∙ c.in-Some.is)
