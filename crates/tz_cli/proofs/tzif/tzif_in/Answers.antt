use Rattle.std.proofs.Common.{◌≡◌, Ok, Err, rules, FitsSigned}
use Rattle.std.specs.Int.{w32}
use Rattle.std.proofs.lemmas.Int.{to_z-of_z}
use Rattle.tz_cli.specs.Tzif.{AreYears}
use Rattle.tz_cli.proofs.ZoneFiles.{no_file}
use Rattle.tz_cli.proofs.tzif.tzif_in.Goals as goal

pub returns-in-Ok : goal.returns-in-Ok
returns-in-Ok c =
    let first_fits : FitsSigned w32 c.args.first = c.ranges.first in
    let last_fits : FitsSigned w32 c.args.last = c.ranges.last in
    let test = simp to_z-of_z at c.are_years.ensures in
    let are : AreYears c.args.first c.args.last = search rules in
    let is : c.file_of_years.result ≡ Ok c.in-Ok.file = search rules in
    let given = rw is at (simp to_z-of_z at c.file_of_years.ensures.answers) in
    let means = rw is at (simp to_z-of_z at c.file_of_years.ensures.means) in
    (are, (given.0, given.1, given.2, means))

pub returns-in-Err : goal.returns-in-Err
returns-in-Err c =
    let first_fits : FitsSigned w32 c.args.first = c.ranges.first in
    let last_fits : FitsSigned w32 c.args.last = c.ranges.last in
    let test = simp to_z-of_z at c.are_years.ensures in
    let are : AreYears c.args.first c.args.last = search rules in
    let is : c.file_of_years.result ≡ Err c.in-Err.error = search rules in
    let given = rw is at (simp to_z-of_z at c.file_of_years.ensures.answers) in
    rw c.refusal_of.ensures (no_file c.args.first c.args.last c.args.zone.now c.in-Err.error are given)
