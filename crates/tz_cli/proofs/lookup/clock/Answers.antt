use Rattle.std.proofs.Common.{FitsSigned}
use Rattle.std.specs.Int.{w64}
use Rattle.std.proofs.lemmas.Int.{to_z-of_z}
use Rattle.tz_cli.proofs.Lookups.{clock_gives}
use Rattle.tz_cli.proofs.lookup.clock.Goals as goal

pub returns-clause-answers : goal.returns-clause-answers
returns-clause-answers c =
    let fits : FitsSigned w64 c.args.number = c.ranges.number in
    let finds = simp to_z-of_z at c.find_count.ensures in
    clock_gives c.args.text.now c.args.conversion c.args.number c.find_count.result c.output_of.result (c.in-Ok.leaps, c.in-Ok.ensures.ok, finds) c.output_of.ensures.line
