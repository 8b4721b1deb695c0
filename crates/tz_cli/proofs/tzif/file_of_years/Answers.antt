use Rattle.std.proofs.Common.{◌≡◌, rules, FitsSigned, pos, ◌+ℤ◌}
use Rattle.std.specs.Int.{w32, w64}
use Rattle.std.proofs.lemmas.Int.{to_z-of_z}
use Rattle.tz_types.specs.Calendar.{year_start}
use Rattle.tz_cli.specs.Tzif.{AreYears}
use Rattle.tz_cli.proofs.ZoneFiles.{years_stretch, next_fits}
use Rattle.tz_cli.proofs.tzif.file_of_years.Goals as goal

pub tzif-requires : goal.tzif-requires
tzif-requires c =
    let first_fits : FitsSigned w32 c.args.first = c.ranges.first in
    let last_fits : FitsSigned w32 c.args.last = c.ranges.last in
    let are : AreYears c.args.first c.args.last = c.requires in
    let later_fits : FitsSigned w32 (c.args.last +ℤ pos 1) = next_fits c.args.first c.args.last are in
    let begins : c.year_start.result ≡ year_start c.args.first = simp to_z-of_z at c.year_start.ensures in
    let ends : c.year_start-2.result ≡ year_start (c.args.last +ℤ pos 1) = simp to_z-of_z at c.year_start-2.ensures in
    let begin_fits : FitsSigned w64 c.year_start.result = search rules in
    let end_fits : FitsSigned w64 c.year_start-2.result = search rules in
    rw (to_z-of_z, to_z-of_z, begins, ends) (years_stretch c.args.first c.args.last are)

pub returns-clause-answers : goal.returns-clause-answers
returns-clause-answers c =
    let first_fits : FitsSigned w32 c.args.first = c.ranges.first in
    let last_fits : FitsSigned w32 c.args.last = c.ranges.last in
    let are : AreYears c.args.first c.args.last = c.requires in
    let later_fits : FitsSigned w32 (c.args.last +ℤ pos 1) = next_fits c.args.first c.args.last are in
    let begins : c.year_start.result ≡ year_start c.args.first = simp to_z-of_z at c.year_start.ensures in
    let ends : c.year_start-2.result ≡ year_start (c.args.last +ℤ pos 1) = simp to_z-of_z at c.year_start-2.ensures in
    let begin_fits : FitsSigned w64 c.year_start.result = search rules in
    let end_fits : FitsSigned w64 c.year_start-2.result = search rules in
    let told = rw (begins, ends) at (simp to_z-of_z at c.tzif.ensures.answers) in told

pub returns-clause-means : goal.returns-clause-means
returns-clause-means c =
    let first_fits : FitsSigned w32 c.args.first = c.ranges.first in
    let last_fits : FitsSigned w32 c.args.last = c.ranges.last in
    let are : AreYears c.args.first c.args.last = c.requires in
    let later_fits : FitsSigned w32 (c.args.last +ℤ pos 1) = next_fits c.args.first c.args.last are in
    let begins : c.year_start.result ≡ year_start c.args.first = simp to_z-of_z at c.year_start.ensures in
    let ends : c.year_start-2.result ≡ year_start (c.args.last +ℤ pos 1) = simp to_z-of_z at c.year_start-2.ensures in
    let begin_fits : FitsSigned w64 c.year_start.result = search rules in
    let end_fits : FitsSigned w64 c.year_start-2.result = search rules in
    let told = rw (begins, ends) at (simp to_z-of_z at c.tzif.ensures.means) in told
