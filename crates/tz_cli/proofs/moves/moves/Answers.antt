use Rattle.std.proofs.Common.{FitsSigned}
use Rattle.std.specs.Int.{w64}
use Rattle.std.proofs.lemmas.Int.{to_z-of_z}
use Rattle.tz_expand.specs.Stretch.{IsStretch}
use Rattle.tz_cli.specs.Moves.{AreMovesOf}
use Rattle.tz_cli.proofs.ZoneAnswer.{zone_gives}
use Rattle.tz_cli.proofs.moves.moves.Goals as goal

pub returns-in-Ok : goal.returns-in-Ok
returns-in-Ok c =
    let from_fits : FitsSigned w64 c.args.from = c.ranges.from in
    let to_fits : FitsSigned w64 c.args.to = c.ranges.to in
    let told = simp to_z-of_z at c.moves_in.ensures in
    zone_gives c.args.source.now c.args.name.now (IsStretch c.args.from c.args.to) (AreMovesOf c.args.from c.args.to) c.in-Ok.zone c.moves_in.result c.in-Ok.ensures.ok told
