use Rattle.std.proofs.Common.{FitsSigned}
use Rattle.std.specs.Int.{w32}
use Rattle.std.proofs.lemmas.Int.{to_z-of_z}
use Rattle.tz_cli.specs.Tzif.{AreYears, IsFileOf}
use Rattle.tz_cli.proofs.ZoneAnswer.{zone_gives}
use Rattle.tz_cli.proofs.tzif.tzif.Goals as goal

pub returns-in-Ok : goal.returns-in-Ok
returns-in-Ok c =
    let first_fits : FitsSigned w32 c.args.first = c.ranges.first in
    let last_fits : FitsSigned w32 c.args.last = c.ranges.last in
    let told = simp to_z-of_z at c.tzif_in.ensures in
    zone_gives c.args.source.now c.args.name.now (AreYears c.args.first c.args.last) (IsFileOf c.args.first c.args.last) c.in-Ok.zone c.tzif_in.result c.in-Ok.ensures.ok told
