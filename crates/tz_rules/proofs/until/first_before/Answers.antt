use Rattle.std.proofs.Common.{◌≤ℤ◌, ◌<ℤ◌, arith, rules, FitsSigned}
use Rattle.std.specs.Int.{w64}
use Rattle.std.proofs.lemmas.Int.{ints, to_z-of_z}
use Rattle.tz_rules.proofs.UntilLemmas.{first_passes, first_stops, none_stops}
use Rattle.tz_rules.proofs.until.first_before.Goals as goal

pub returns-in-None : goal.returns-in-None
returns-in-None g c =
    let second_fits : FitsSigned w64 c.args.second = c.ranges.second in
    let after = simp to_z-of_z at c.in-None.ensures.first in
    none_stops c.args.set.now c.args.stdoff c.args.until.now.year c.args.until.now.moment c.args.second _ c.requires.none after

pub returns-then-instant_after-until_with : goal.returns-then-instant_after-until_with
returns-then-instant_after-until_with g c =
    let stdoff_fits : FitsSigned w64 c.args.stdoff = c.ranges.stdoff in
    let second_fits : FitsSigned w64 c.args.second = c.ranges.second in
    let instant_fits : FitsSigned w64 c.instant_after.result = search rules in
    let until_fits : FitsSigned w64 c.until_with.result = search rules in
    let after = simp to_z-of_z at c.in-Some.ensures.first in
    let instant = simp to_z-of_z at c.instant_after.ensures.value in
    let until = simp to_z-of_z at c.until_with.ensures.value in
    let tested = simp to_z-of_z at c.if-instant_after-until_with.true in
    let early : c.instant_after.result <ℤ c.until_with.result = omega (arith, ints, tested) in
    first_passes c.args.set.now c.args.stdoff c.args.until.now.year c.args.until.now.moment c.args.second _ c.in-Some.first c.instant_after.result c.until_with.result c.requires.none after instant until early

pub returns-else-instant_after-until_with : goal.returns-else-instant_after-until_with
returns-else-instant_after-until_with g c =
    let stdoff_fits : FitsSigned w64 c.args.stdoff = c.ranges.stdoff in
    let second_fits : FitsSigned w64 c.args.second = c.ranges.second in
    let instant_fits : FitsSigned w64 c.instant_after.result = search rules in
    let until_fits : FitsSigned w64 c.until_with.result = search rules in
    let after = simp to_z-of_z at c.in-Some.ensures.first in
    let instant = simp to_z-of_z at c.instant_after.ensures.value in
    let until = simp to_z-of_z at c.until_with.ensures.value in
    let tested = simp to_z-of_z at c.if-instant_after-until_with.false in
    let reached : c.until_with.result ≤ℤ c.instant_after.result = omega (arith, ints, tested) in
    first_stops c.args.set.now c.args.stdoff c.args.until.now.year c.args.until.now.moment c.args.second _ c.in-Some.first c.instant_after.result c.until_with.result c.requires.none after instant until reached
