use Rattle.std.proofs.Common.{◌≡◌, ◌∙◌, length, arith, rules, FitsSigned, to_z, of_z}
use Rattle.std.specs.Int.{w64, int_max, int_min}
use Rattle.std.proofs.lemmas.Int.{ints, clamps, to_z-of_z}
use Rattle.tz_expand.proofs.Between.{inner_touched, inner_steps, looks_of_line}
use Rattle.tz_expand.proofs.expansion.push_followed.Goals as goal

pub looks_near-requires-clause-ordered : goal.looks_near-requires-clause-ordered
looks_near-requires-clause-ordered g c = omega (arith, ints, clamps)

pub returns-in_err-list-clause-steps : goal.returns-in_err-list-clause-steps
returns-in_err-list-clause-steps g c = λ years touches.
    let begin = to_z w64 (of_z w64 c.max.result) in
    let end = to_z w64 (of_z w64 c.min.result) in
    let inner = inner_touched c.args.from c.args.to begin end years c.requires.stretch (omega (arith, ints, clamps)) (omega (arith, ints, clamps)) (omega (arith, ints, clamps)) touches in
    inner_steps (length c.args.set.now.rules) c.args.steps.now c.looks_near.new.steps years inner.0 inner.2 (c.looks_near.ensures.steps inner.0 inner.1)

pub push_changes-requires-clause-looked : goal.push_changes-requires-clause-looked
push_changes-requires-clause-looked g c =
    let from_fits : FitsSigned w64 c.args.from = c.ranges.from in
    let to_fits : FitsSigned w64 c.args.to = c.ranges.to in
    let start_fits : FitsSigned w64 c.args.line.now.start = search rules in
    let end_fits : FitsSigned w64 c.args.line.now.end = search rules in
    let begin = to_z w64 (of_z w64 c.max.result) in
    let end = to_z w64 (of_z w64 c.min.result) in
    let begin_fits : FitsSigned w64 c.max.result = search rules in
    let end_fits_too : FitsSigned w64 c.min.result = search rules in
    let begins_at = simp to_z-of_z at c.max.ensures.value in
    let ends_at = simp to_z-of_z at c.min.ensures.value in
    let begins : begin ≡ int_max c.args.from c.args.line.now.start = to_z-of_z w64 c.max.result begin_fits ∙ begins_at in
    let ends : end ≡ int_min c.args.to c.args.line.now.end = to_z-of_z w64 c.min.result end_fits_too ∙ ends_at in
    simp to_z-of_z (looks_of_line c.args.line.now c.args.set.now c.args.from c.args.to begin end c.in_ok-list.list.items c.as_slice.result.now c.requires.follows begins ends c.as_slice.ensures.value c.in_ok-list.ensures.looks)

pub returns-clause-steps : goal.returns-clause-steps
returns-clause-steps g c = λ years touches.
    let begin = to_z w64 (of_z w64 c.max.result) in
    let end = to_z w64 (of_z w64 c.min.result) in
    let inner = inner_touched c.args.from c.args.to begin end years c.requires.stretch (omega (arith, ints, clamps)) (omega (arith, ints, clamps)) (omega (arith, ints, clamps)) touches in
    inner_steps (length c.args.set.now.rules) c.args.steps.now c.looks_near.new.steps years inner.0 inner.2 (c.looks_near.ensures.steps inner.0 inner.1)
