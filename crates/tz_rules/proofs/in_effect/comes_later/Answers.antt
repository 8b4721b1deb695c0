use Rattle.std.proofs.Common.{◌≤ℤ◌, ◌<ℤ◌, ◌-ℤ◌, pos, sym, ◌∙◌, rules, arith, FitsSigned}
use Rattle.std.specs.Int.{w64}
use Rattle.std.proofs.lemmas.Int.{ints, to_z-of_z}
use Rattle.tz_types.specs.declared.limit.TheConstants.{LONGEST_OFFSET}
use Rattle.tz_specs.specs.Occurrence.{nominal_of}
use Rattle.tz_specs.proofs.Tests.{int_le-true, int_le-false}
use Rattle.tz_rules.proofs.BeforeMark.{is_of_stands}
use Rattle.tz_rules.proofs.EffectSearch.{comes_later_is, not_come_yet, not_near, not_following}
use Rattle.tz_rules.proofs.in_effect.comes_later.Goals as goal

pub returns-then-nominal-t-clause-not_later : goal.returns-then-nominal-t-clause-not_later
returns-then-nominal-t-clause-not_later g c =
    let t_fits : FitsSigned w64 c.args.t = c.ranges.t in
    let nominal_fits : FitsSigned w64 c.nominal.result = search rules in
    let by : c.nominal.result ≤ℤ (c.args.t -ℤ pos LONGEST_OFFSET) = omega (arith, ints) in
    let nominal = c.nominal.ensures.value in
    let by' : nominal_of c.args.found.now.occurrence ≤ℤ (c.args.t -ℤ pos LONGEST_OFFSET) = rw (← nominal) by in
    λ is. not_near c.args.set.now c.args.stdoff c.args.t c.args.last.now c.args.found.now by'

pub returns-then-follows-clause-later : goal.returns-then-follows-clause-later
returns-then-follows-clause-later g c =
    let t_fits : FitsSigned w64 c.args.t = c.ranges.t in
    let stdoff_fits : FitsSigned w64 c.args.stdoff = c.ranges.stdoff in
    let nominal_fits : FitsSigned w64 c.nominal.result = search rules in
    let instant_fits : FitsSigned w64 c.instant_of.result = search rules in
    let after : (c.args.t -ℤ pos LONGEST_OFFSET) <ℤ c.nominal.result = omega (arith, ints) in
    let nominal = c.nominal.ensures.value in
    let after' : (c.args.t -ℤ pos LONGEST_OFFSET) <ℤ nominal_of c.args.found.now.occurrence = rw (← nominal) after in
    let comes = simp to_z-of_z at c.instant_of.ensures.comes in
    simp to_z-of_z (λ is. comes_later_is c.args.set.now c.args.stdoff c.args.t c.args.last.now c.args.found.now c.instant_of.result after' (sym c.follows.ensures ∙ c.if-follows.true) comes (int_le-true c.instant_of.result c.args.t is))

pub returns-then-follows-clause-not_later : goal.returns-then-follows-clause-not_later
returns-then-follows-clause-not_later g c =
    let t_fits : FitsSigned w64 c.args.t = c.ranges.t in
    let stdoff_fits : FitsSigned w64 c.args.stdoff = c.ranges.stdoff in
    let instant_fits : FitsSigned w64 c.instant_of.result = search rules in
    let comes = simp to_z-of_z at c.instant_of.ensures.comes in
    simp to_z-of_z (λ is. not_come_yet c.args.set.now c.args.stdoff c.args.t c.args.last.now c.args.found.now c.instant_of.result (is_of_stands c.args.set.now c.args.found.now c.requires.stands) comes (int_le-false c.instant_of.result c.args.t is))

pub returns-clause-not_later : goal.returns-clause-not_later
returns-clause-not_later g c =
    λ is. not_following c.args.set.now c.args.stdoff c.args.t c.args.last.now c.args.found.now (sym c.follows.ensures ∙ c.if-follows.false)
