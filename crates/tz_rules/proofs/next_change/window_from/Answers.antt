use Rattle.std.proofs.Common.{refl, rules, arith, FitsSigned}
use Rattle.std.specs.Int.{w32, w64}
use Rattle.std.proofs.lemmas.Int.{ints, to_z-of_z}
use Rattle.tz_rules.proofs.ChangeSearch.{window_is}
use Rattle.tz_rules.proofs.next_change.window_from.Goals as goal

pub returns-clause-window : goal.returns-clause-window
returns-clause-window c =
    let nominal_fits : FitsSigned w64 c.nominal.result = search rules in
    let earliest_fits : FitsSigned w32 c.earliest_year.result = search rules in
    let latest_fits : FitsSigned w32 c.latest_year.result = search rules in
    let second_fits : FitsSigned w64 c.args.mark.second = search rules in
    let nominal = c.nominal.ensures.value in
    let earliest = simp to_z-of_z at c.earliest_year.ensures.earliest in
    let latest = simp to_z-of_z at c.latest_year.ensures.latest in
    λ set first. window_is set c.args.mark _ c.args.first.now refl (rw (← nominal) (omega (arith, ints))) (simp to_z-of_z earliest) (simp to_z-of_z latest) first
