use Rattle.std.proofs.Common.{◌≤◌, ◌*◌, ◌+◌, length, arith, FitsSigned}
use Rattle.std.specs.Int.{w64}
use Rattle.std.proofs.Math.Nat.{mul-le-mul_left}
use Rattle.std.proofs.lemmas.Int.{to_z-of_z}
use Rattle.std.proofs.lemmas.Result.{IfOk-weaker}
use Rattle.tz_expand.specs.Looks.{AreLooksNear, AreInOrder, looks_of_set, years_through}
use Rattle.tz_expand.proofs.LookLemmas.{years_touched}
use Rattle.tz_expand.proofs.looks.looks_near.Goals as goal

pub returns-clause-looks : goal.returns-clause-looks
returns-clause-looks g c =
    let from_fits : FitsSigned w64 c.args.from = c.ranges.from in
    let to_fits : FitsSigned w64 c.args.to = c.ranges.to in
    let near = simp to_z-of_z at c.near.ensures.near in
    let first = c.near.result.first in
    let last = c.near.result.last in
    IfOk-weaker c.looks_in_years.result (λ list. AreInOrder (looks_of_set first last c.args.set.now) list.items) (λ list. AreLooksNear c.args.set.now c.args.from c.args.to list.items)
    (λ list in_order. record {
      first = first;
      last = last;
      span = c.near.ensures.span;
      near = near;
      in_order = in_order;
    })
    c.looks_in_years.ensures.looks

pub returns-clause-steps : goal.returns-clause-steps
returns-clause-steps g c = λ years touches.
    let from_fits : FitsSigned w64 c.args.from = c.ranges.from in
    let to_fits : FitsSigned w64 c.args.to = c.ranges.to in
    let near = simp to_z-of_z at c.near.ensures.near in
    let first = c.near.result.first in
    let last = c.near.result.last in
    let few = years_touched c.args.from c.args.to first last years c.near.ensures.span near touches in
    let less : length c.args.set.now.rules * years_through first last ≤ length c.args.set.now.rules * (years + 12) =
    mul-le-mul_left (length c.args.set.now.rules) few in
    let counted = c.looks_in_years.ensures.steps in
    omega arith
