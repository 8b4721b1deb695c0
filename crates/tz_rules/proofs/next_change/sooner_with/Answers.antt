use Rattle.std.proofs.Common.{◌<ℤ◌, refl, rules, arith, FitsSigned}
use Rattle.std.specs.Int.{w32, w64}
use Rattle.std.proofs.lemmas.Int.{ints, to_z-of_z}
use Rattle.tz_specs.specs.Occurrence.{nominal_of}
use Rattle.tz_rules.proofs.BeforeMark.{rule_at}
use Rattle.tz_rules.proofs.ChangeSearch.{sooner_none, sooner_past, sooner_same, sooner_is}
use Rattle.tz_rules.proofs.next_change.sooner_with.Goals as goal

pub returns-in-None-clause-soonest : goal.returns-in-None-clause-soonest
returns-in-None-clause-soonest g c =
    let rule = c.index-as_slice-place.result in
    let here = rule_at c.args.set.now c.as_slice.result.now c.args.place rule c.as_slice.ensures c.requires.place_in c.index-as_slice-place.is in
    let latest_fits : FitsSigned w32 c.args.window.latest = search rules in
    sooner_none c.args.set.now c.args.stdoff c.args.window c.args.place rule _ _ c.args.soonest c.requires.stdoff_in (to_z-of_z w32 c.args.window.latest latest_fits) refl c.requires.window here c.in-None.ensures.first c.requires.so_far

pub returns-then-nominal-window-clause-soonest : goal.returns-then-nominal-window-clause-soonest
returns-then-nominal-window-clause-soonest g c =
    let rule = c.index-as_slice-place.result in
    let here = rule_at c.args.set.now c.as_slice.result.now c.args.place rule c.as_slice.ensures c.requires.place_in c.index-as_slice-place.is in
    let limit_fits : FitsSigned w64 c.args.window.limit = search rules in
    let nominal_fits : FitsSigned w64 c.nominal.result = search rules in
    let past : c.args.window.limit <ℤ c.nominal.result = omega (arith, ints) in
    let nominal = c.nominal.ensures.value in
    let past' : c.args.window.limit <ℤ nominal_of c.in-Some.found.occurrence = rw (← nominal) past in
    sooner_past c.args.set.now c.args.stdoff c.args.window c.args.place rule c.in-Some.found c.args.soonest c.requires.stdoff_in c.requires.window here c.in-Some.ensures.first c.requires.so_far past'

pub returns-then-is_same-clause-soonest : goal.returns-then-is_same-clause-soonest
returns-then-is_same-clause-soonest g c =
    let rule = c.index-as_slice-place.result in
    let here = rule_at c.args.set.now c.as_slice.result.now c.args.place rule c.as_slice.ensures c.requires.place_in c.index-as_slice-place.is in
    sooner_same c.args.set.now c.args.stdoff c.args.window c.args.place rule c.in-Some.found c.args.soonest c.requires.stdoff_in c.requires.window here c.in-Some.ensures.first c.requires.so_far (c.is_same.ensures.0 c.if-is_same.true)

pub returns-else-is_same-clause-soonest : goal.returns-else-is_same-clause-soonest
returns-else-is_same-clause-soonest g c =
    let stdoff_fits : FitsSigned w64 c.args.stdoff = c.ranges.stdoff in
    let at_fits : FitsSigned w64 c.instant_of-at.result = search rules in
    let rule = c.index-as_slice-place.result in
    let here = rule_at c.args.set.now c.as_slice.result.now c.args.place rule c.as_slice.ensures c.requires.place_in c.index-as_slice-place.is in
    let comes = simp to_z-of_z at c.instant_of-at.ensures.comes in
    let is = simp to_z-of_z at c.sooner.ensures in
    rw is (sooner_is c.args.set.now c.args.stdoff c.args.window c.args.place rule (record { placed = c.in-Some.found; at = c.instant_of-at.result }) c.args.soonest c.requires.stdoff_in c.requires.window here c.in-Some.ensures.first comes c.requires.so_far)
