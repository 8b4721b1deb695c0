use Rattle.std.proofs.Common.{◌+◌, ◌-◌, length, get_or, pos, arith, rules, FitsSigned, ◌≤ℤ◌, ◌<ℤ◌}
use Rattle.std.specs.Int.{w64}
use Rattle.std.proofs.lemmas.Int.{ints, to_z-of_z}
use Rattle.rule_rows.proofs.States.{state_first, state_here, state_below}
use Rattle.rule_rows.proofs.state.state_at.Goals as goal

pub loop-back-init : goal.loop-back-init
loop-back-init c =
    let fits : FitsSigned w64 c.args.t = c.ranges.t in
    rw to_z-of_z (state_first c.args.instants.now c.args.t (length c.args.instants.now - 0) (omega arith))

pub loop-back-preserved : goal.loop-back-preserved
loop-back-preserved c =
    let fits : FitsSigned w64 c.args.t = c.ranges.t in
    let us = c.args.instants.now in
    let place = length us - c.loop-back.back - 1 in
    let item_fits : FitsSigned w64 (get_or us place (pos 0)) = search rules in
    let later : c.args.t <ℤ get_or us place (pos 0) = omega (arith, ints) in
    let so_far = simp to_z-of_z at c.loop-back.invariant in
    rw to_z-of_z (state_below us c.args.t (length us - c.loop-back.back) place (length us - (c.loop-back.back + 1)) (pos 0) (omega arith) (omega arith) (omega arith) later so_far)

pub returns-then-instants-number-clause-value : goal.returns-then-instants-number-clause-value
returns-then-instants-number-clause-value c =
    let fits : FitsSigned w64 c.args.t = c.ranges.t in
    let us = c.args.instants.now in
    let place = length us - c.loop-back.back - 1 in
    let item_fits : FitsSigned w64 (get_or us place (pos 0)) = search rules in
    let come : get_or us place (pos 0) ≤ℤ c.args.t = omega (arith, ints) in
    let so_far = simp to_z-of_z at c.loop-back.invariant in
    state_here us c.args.t (length us - c.loop-back.back) place (pos 0) (omega arith) (omega arith) come so_far
