use Rattle.std.proofs.Common.{◌≤ℤ◌, ◌<ℤ◌, arith, rules, FitsSigned}
use Rattle.std.specs.Int.{w64}
use Rattle.std.proofs.lemmas.Int.{ints, to_z-of_z}
use Rattle.tz_rules.proofs.UntilLemmas.{next_passes, next_stops, ends_under_last}
use Rattle.tz_rules.proofs.until.next_before.Goals as goal

pub returns-in-None : goal.returns-in-None
returns-in-None g c =
    ends_under_last c.args.set.now c.args.stdoff c.args.until.now.year c.args.until.now.moment c.args.under.now.occurrence c.requires.passed c.in-None.ensures.first

pub returns-then-instant_after-until_with : goal.returns-then-instant_after-until_with
returns-then-instant_after-until_with g c =
    let stdoff_fits : FitsSigned w64 c.args.stdoff = c.ranges.stdoff in
    let save_fits : FitsSigned w64 c.save-save.result = search rules in
    let instant_fits : FitsSigned w64 c.instant_after.result = search rules in
    let until_fits : FitsSigned w64 c.until_with.result = search rules in
    let instant_by = simp to_z-of_z at c.instant_after.ensures.value in
    let until_by = simp to_z-of_z at c.until_with.ensures.value in
    let instant = rw c.save-save.ensures.value at instant_by in
    let until = rw c.save-save.ensures.value at until_by in
    let tested = simp to_z-of_z at c.if-instant_after-until_with.true in
    let early : c.instant_after.result <ℤ c.until_with.result = omega (arith, ints, tested) in
    next_passes c.args.set.now c.args.stdoff c.args.until.now.year c.args.until.now.moment c.args.under.now.occurrence c.in-Some.next c.instant_after.result c.until_with.result c.requires.passed c.in-Some.ensures.first instant until early

pub returns-else-instant_after-until_with : goal.returns-else-instant_after-until_with
returns-else-instant_after-until_with g c =
    let stdoff_fits : FitsSigned w64 c.args.stdoff = c.ranges.stdoff in
    let save_fits : FitsSigned w64 c.save-save.result = search rules in
    let instant_fits : FitsSigned w64 c.instant_after.result = search rules in
    let until_fits : FitsSigned w64 c.until_with.result = search rules in
    let instant_by = simp to_z-of_z at c.instant_after.ensures.value in
    let until_by = simp to_z-of_z at c.until_with.ensures.value in
    let instant = rw c.save-save.ensures.value at instant_by in
    let until = rw c.save-save.ensures.value at until_by in
    let tested = simp to_z-of_z at c.if-instant_after-until_with.false in
    let reached : c.until_with.result ≤ℤ c.instant_after.result = omega (arith, ints, tested) in
    next_stops c.args.set.now c.args.stdoff c.args.until.now.year c.args.until.now.moment c.args.under.now.occurrence c.in-Some.next c.instant_after.result c.until_with.result c.requires.passed c.in-Some.ensures.first instant until reached
