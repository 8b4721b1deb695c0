use Rattle.std.proofs.Common.{FitsSigned}
use Rattle.std.specs.Int.{w64}
use Rattle.std.proofs.lemmas.Int.{to_z-of_z}
use Rattle.tz_cli.specs.Days.{AreDays, AreDaysOf}
use Rattle.tz_cli.proofs.ZoneAnswer.{zone_gives}
use Rattle.tz_cli.proofs.days.days.Goals as goal

pub returns-in-Ok : goal.returns-in-Ok
returns-in-Ok c =
    let fits : FitsSigned w64 c.args.first = c.ranges.first in
    let told = simp to_z-of_z at c.days_in.ensures in
    zone_gives c.args.source.now c.args.name.now (AreDays c.args.first c.args.count) (AreDaysOf c.args.first c.args.count) c.in-Ok.zone c.days_in.result c.in-Ok.ensures.ok told
