use Rattle.std.proofs.Common.{sym, ◌∙◌}
use Rattle.tz_local.proofs.InfoLemmas.{range_near}
use Rattle.tz_local.proofs.info.range_at.Goals as goal

pub returns-clause-near : goal.returns-clause-near
returns-clause-near g c =
    range_near c.args.zone.now _ c.in-Some.range (sym c.info_at.ensures.range ∙ c.in-Some.is)
