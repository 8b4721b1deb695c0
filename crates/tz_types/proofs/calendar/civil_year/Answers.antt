use Rattle.std.proofs.Common.{◌≡◌, pos, ◌+ℤ◌, ◌*ℤ◌, ◌≤ℤ◌, ◌<ℤ◌, FitsSigned, rules, ◌∙◌, arith}
use Rattle.std.specs.Int.{w16, w32, w64, int_div_euclid}
use Rattle.std.proofs.lemmas.Int.{to_z-of_z}
use Rattle.jiff_core.specs.Date.{epoch_day}
use Rattle.jiff_core.proofs.SignedLemmas.{signed_arith}
use Rattle.tz_types.proofs.Days.{second_in_year}
use Rattle.tz_types.proofs.calendar.civil_year.Goals as goal

pub returns-clause-year : goal.returns-clause-year
returns-clause-year c =
    let date = c.date_of.result in
    let t_fits : FitsSigned w64 c.args.t = c.ranges.t in
    let day_fits : FitsSigned w64 c.div_euclid.result = search rules in
    let year_fits : FitsSigned w16 date.year = search rules in
    let same_fits : FitsSigned w32 date.year = search rules in
    let quotient : c.div_euclid.result ≡ int_div_euclid c.args.t (pos 86_400) = simp to_z-of_z at c.div_euclid.ensures in
    let day : epoch_day date ≡ int_div_euclid c.args.t (pos 86_400) = (simp to_z-of_z at c.date_of.ensures) ∙ quotient in
    let year : c.from.result ≡ date.year = simp to_z-of_z at c.from.ensures in
    let low : (pos 86_400 *ℤ epoch_day date) ≤ℤ c.args.t = rw day (omega (arith, signed_arith)) in
    let high : c.args.t <ℤ ((pos 86_400 *ℤ epoch_day date) +ℤ pos 86_400) = rw day (omega (arith, signed_arith)) in
    let lies = second_in_year date.year date.month date.day c.args.t date.year_in date.month_in date.day_in low high in
    rw year (rw to_z-of_z lies)
