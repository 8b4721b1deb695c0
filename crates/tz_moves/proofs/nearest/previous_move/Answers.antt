use Rattle.std.proofs.Common.{ℤ, ◌≡◌, ◌+◌, ◌*◌, ◌≤ℤ◌, ◌<ℤ◌, ◌-ℤ◌, pos, rules, arith, true, false, FitsSigned, refl}
use Rattle.std.specs.Int.{w64}
use Rattle.std.proofs.lemmas.Int.{ints, to_z-of_z}
use Rattle.tz_specs.specs.Expansion.{first_instant}
use Rattle.tz_specs.specs.RulesFollowed.{most_rules_followed}
use Rattle.tz_expand.specs.Compiled.{periods}
use Rattle.tz_moves.specs.Moves.{runs_alike}
use Rattle.tz_moves.proofs.WalkLemmas.{IsFoundBackward, begin_backward, step_backward, found_backward, done_backward, previous_not_none, walks_back}
use Rattle.tz_moves.proofs.nearest.previous_move.Given as given
use Rattle.tz_moves.proofs.nearest.previous_move.Goals as goal

pub loop-range-init : goal.loop-range-init
loop-range-init g c =
    let t_fits : FitsSigned w64 c.args.t = c.ranges.t in
    let rules = most_rules_followed (periods c.args.zone.now.lines) in
    let begun : c.range_at-range.result.begin ≤ℤ c.args.t = omega (arith, ints, c.range_at-range.ensures.holds) in
    let ends : c.args.t <ℤ c.range_at-range.result.end = omega (arith, ints, c.range_at-range.ensures.holds) in
    let walk = begin_backward c.args.zone.now c.args.t _ c.range_at-range.result c.args.steps.now c.range_at-range.new.steps (16 * (rules * (rules + 2))) c.range_at-range.ensures.range begun ends c.range_at-range.ensures.steps in
    rw to_z-of_z walk

before_fits_too : (begin : ℤ) → FitsSigned w64 begin → first_instant <ℤ begin → FitsSigned w64 (begin -ℤ pos 1)
before_fits_too begin fits begins = search rules

pub loop-range-smaller : goal.loop-range-smaller
loop-range-smaller g c =
    let begin_fits : FitsSigned w64 c.loop-range.range.begin = search rules in
    let begins : first_instant <ℤ c.loop-range.range.begin = omega (arith, ints, c.loop-range-test.true) in
    let before_begins : FitsSigned w64 c.range_at-before.result.begin = search rules in
    let before_fits : FitsSigned w64 (c.loop-range.range.begin -ℤ pos 1) = search (rules, c.loop-range-test.true) in
    let holds = simp to_z-of_z at c.range_at-before.ensures.holds in
    walks_back first_instant c.range_at-before.result.begin c.loop-range.range.begin (omega (arith, ints, holds.0)) begins

pub loop-range-preserved : goal.loop-range-preserved
loop-range-preserved g c =
    let begins_fits : FitsSigned w64 c.loop-range.range.begin = search rules in
    let rules = most_rules_followed (periods c.args.zone.now.lines) in
    let begins : first_instant <ℤ c.loop-range.range.begin = omega (arith, ints, c.loop-range-test.true) in
    let before_fits : FitsSigned w64 (c.loop-range.range.begin -ℤ pos 1) = before_fits_too c.loop-range.range.begin begins_fits begins in
    let found = simp to_z-of_z at c.range_at-before.ensures.range in
    let alike : runs_alike c.range_at-before.result c.loop-range.range ≡ true = grind arith in
    step_backward c.args.zone.now _ c.loop-range.range c.range_at-before.result c.args.steps.now c.loop-range.steps c.range_at-before.new.steps (16 * (rules * (rules + 2))) c.loop-range.invariant begins found alike c.range_at-before.ensures.steps

found_on : (g : given.Over) (c : goal.After-struct_told-then-not-runs_alike-1 g) → IsFoundBackward c.args.zone.now c.args.t c.loop-range.range.begin c.args.steps.now c.range_at-before.new.steps (16 * (most_rules_followed (periods c.args.zone.now.lines) * (most_rules_followed (periods c.args.zone.now.lines) + 2)))
found_on g c =
    let t_fits : FitsSigned w64 c.args.t = c.ranges.t in
    let begins_fits : FitsSigned w64 c.loop-range.range.begin = search rules in
    let rules = most_rules_followed (periods c.args.zone.now.lines) in
    let begins : first_instant <ℤ c.loop-range.range.begin = omega (arith, ints, c.loop-range-test.true) in
    let before_fits : FitsSigned w64 (c.loop-range.range.begin -ℤ pos 1) = before_fits_too c.loop-range.range.begin begins_fits begins in
    let found = simp to_z-of_z at c.range_at-before.ensures.range in
    let walk = simp to_z-of_z at c.loop-range.invariant in
    let differs : runs_alike c.range_at-before.result c.loop-range.range ≡ false = grind arith in
    found_backward c.args.zone.now c.args.t c.loop-range.range c.range_at-before.result c.args.steps.now c.loop-range.steps c.range_at-before.new.steps (16 * (rules * (rules + 2))) walk begins found differs c.range_at-before.ensures.steps

pub returns-then-not-runs_alike-clause-at : goal.returns-then-not-runs_alike-clause-at
returns-then-not-runs_alike-clause-at g c =
    let begin_fits : FitsSigned w64 c.loop-range.range.begin = search rules in
    let found = found_on g c in
    rw to_z-of_z found.is

pub returns-then-not-runs_alike-clause-none : goal.returns-then-not-runs_alike-clause-none
returns-then-not-runs_alike-clause-none g c =
    let found = found_on g c in
    (λ is. cc, λ none. absurd (previous_not_none c.args.zone.now c.args.t c.loop-range.range.begin found.is none))

pub returns-then-not-runs_alike-clause-steps : goal.returns-then-not-runs_alike-clause-steps
returns-then-not-runs_alike-clause-steps g c =
    let begin_fits : FitsSigned w64 c.loop-range.range.begin = search rules in
    let found = found_on g c in
    rw to_z-of_z found.few

pub returns-clause-none : goal.returns-clause-none
returns-clause-none g c =
    let t_fits : FitsSigned w64 c.args.t = c.ranges.t in
    let begins_fits : FitsSigned w64 c.loop-range.range.begin = search rules in
    let rules = most_rules_followed (periods c.args.zone.now.lines) in
    let past : c.loop-range.range.begin ≤ℤ first_instant = omega (arith, ints, c.loop-range-test.false) in
    let walk = simp to_z-of_z at c.loop-range.invariant in
    let done = done_backward c.args.zone.now c.args.t c.loop-range.range c.args.steps.now c.loop-range.steps (16 * (rules * (rules + 2))) walk past in
    (λ is. done.none, λ all. refl)

pub returns-clause-steps : goal.returns-clause-steps
returns-clause-steps g c =
    let t_fits : FitsSigned w64 c.args.t = c.ranges.t in
    let begins_fits : FitsSigned w64 c.loop-range.range.begin = search rules in
    let rules = most_rules_followed (periods c.args.zone.now.lines) in
    let past : c.loop-range.range.begin ≤ℤ first_instant = omega (arith, ints, c.loop-range-test.false) in
    let walk = simp to_z-of_z at c.loop-range.invariant in
    let done = done_backward c.args.zone.now c.args.t c.loop-range.range c.args.steps.now c.loop-range.steps (16 * (rules * (rules + 2))) walk past in
    done.few
