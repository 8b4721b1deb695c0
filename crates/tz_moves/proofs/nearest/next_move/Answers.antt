use Rattle.std.proofs.Common.{◌≡◌, ◌+◌, ◌*◌, ◌≤ℤ◌, ◌<ℤ◌, rules, arith, true, false, FitsSigned, refl}
use Rattle.std.specs.Int.{w64}
use Rattle.std.proofs.lemmas.Int.{ints, to_z-of_z}
use Rattle.tz_specs.specs.Expansion.{end_of_time}
use Rattle.tz_specs.specs.RulesFollowed.{most_rules_followed}
use Rattle.tz_expand.specs.Compiled.{periods}
use Rattle.tz_moves.specs.Moves.{runs_alike}
use Rattle.tz_moves.proofs.WalkLemmas.{IsFoundOnward, begin_onward, step_onward, found_onward, done_onward, next_not_none}
use Rattle.tz_moves.proofs.nearest.next_move.Given as given
use Rattle.tz_moves.proofs.nearest.next_move.Goals as goal

pub loop-before-init : goal.loop-before-init
loop-before-init g c =
    let t_fits : FitsSigned w64 c.args.t = c.ranges.t in
    let rules = most_rules_followed (periods c.args.zone.now.lines) in
    let begun : c.range_at-before.result.begin ≤ℤ c.args.t = omega (arith, ints, c.range_at-before.ensures.holds) in
    let ends : c.args.t <ℤ c.range_at-before.result.end = omega (arith, ints, c.range_at-before.ensures.holds) in
    let walk = begin_onward c.args.zone.now c.args.t _ c.range_at-before.result c.args.steps.now c.range_at-before.new.steps (16 * (rules * (rules + 2))) c.range_at-before.ensures.range begun ends c.range_at-before.ensures.steps in
    rw to_z-of_z walk

pub loop-before-preserved : goal.loop-before-preserved
loop-before-preserved g c =
    let end_fits : FitsSigned w64 c.loop-before.before.end = search rules in
    let rules = most_rules_followed (periods c.args.zone.now.lines) in
    let found = simp to_z-of_z at c.range_at-range.ensures.range in
    let alike : runs_alike c.loop-before.before c.range_at-range.result ≡ true = grind arith in
    step_onward c.args.zone.now _ c.loop-before.before c.range_at-range.result c.args.steps.now c.loop-before.steps c.range_at-range.new.steps (16 * (rules * (rules + 2))) c.loop-before.invariant found alike c.range_at-range.ensures.steps

found_on : (g : given.Over) (c : goal.After-struct_told-then-not-runs_alike-1 g) → IsFoundOnward c.args.zone.now c.args.t c.range_at-range.result.begin c.args.steps.now c.range_at-range.new.steps (16 * (most_rules_followed (periods c.args.zone.now.lines) * (most_rules_followed (periods c.args.zone.now.lines) + 2)))
found_on g c =
    let t_fits : FitsSigned w64 c.args.t = c.ranges.t in
    let end_fits : FitsSigned w64 c.loop-before.before.end = search rules in
    let rules = most_rules_followed (periods c.args.zone.now.lines) in
    let found = simp to_z-of_z at c.range_at-range.ensures.range in
    let walk = simp to_z-of_z at c.loop-before.invariant in
    let differs : runs_alike c.loop-before.before c.range_at-range.result ≡ false = grind arith in
    found_onward c.args.zone.now c.args.t c.loop-before.before c.range_at-range.result c.args.steps.now c.loop-before.steps c.range_at-range.new.steps (16 * (rules * (rules + 2))) walk found differs c.range_at-range.ensures.steps

pub returns-then-not-runs_alike-clause-at : goal.returns-then-not-runs_alike-clause-at
returns-then-not-runs_alike-clause-at g c =
    let begin_fits : FitsSigned w64 c.range_at-range.result.begin = search rules in
    let found = found_on g c in
    rw to_z-of_z found.is

pub returns-then-not-runs_alike-clause-none : goal.returns-then-not-runs_alike-clause-none
returns-then-not-runs_alike-clause-none g c =
    let found = found_on g c in
    (λ is. cc, λ none. absurd (next_not_none c.args.zone.now c.args.t c.range_at-range.result.begin found.is none))

pub returns-then-not-runs_alike-clause-steps : goal.returns-then-not-runs_alike-clause-steps
returns-then-not-runs_alike-clause-steps g c =
    let begin_fits : FitsSigned w64 c.range_at-range.result.begin = search rules in
    let found = found_on g c in
    rw to_z-of_z found.few

pub returns-clause-none : goal.returns-clause-none
returns-clause-none g c =
    let t_fits : FitsSigned w64 c.args.t = c.ranges.t in
    let end_fits : FitsSigned w64 c.loop-before.before.end = search rules in
    let rules = most_rules_followed (periods c.args.zone.now.lines) in
    let past : end_of_time ≤ℤ c.loop-before.before.end = omega (arith, ints, c.loop-before-test.false) in
    let walk = simp to_z-of_z at c.loop-before.invariant in
    let done = done_onward c.args.zone.now c.args.t c.loop-before.before c.args.steps.now c.loop-before.steps (16 * (rules * (rules + 2))) walk past in
    (λ is. done.none, λ all. refl)

pub returns-clause-steps : goal.returns-clause-steps
returns-clause-steps g c =
    let t_fits : FitsSigned w64 c.args.t = c.ranges.t in
    let end_fits : FitsSigned w64 c.loop-before.before.end = search rules in
    let rules = most_rules_followed (periods c.args.zone.now.lines) in
    let past : end_of_time ≤ℤ c.loop-before.before.end = omega (arith, ints, c.loop-before-test.false) in
    let walk = simp to_z-of_z at c.loop-before.invariant in
    let done = done_onward c.args.zone.now c.args.t c.loop-before.before c.args.steps.now c.loop-before.steps (16 * (rules * (rules + 2))) walk past in
    done.few
