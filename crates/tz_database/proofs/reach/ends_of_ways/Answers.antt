use Rattle.std.proofs.Common.{◌≡◌, map, length, arith, ap, ◌∙◌, sym, rules}
use Rattle.tz_database.specs.Stops.{next_stop, stop_after}
use Rattle.tz_database.proofs.Ways.{even_round, odd_round, none_left}
use Rattle.tz_database.proofs.reach.ends_of_ways.Goals.{then-left-eq1+in_ok-ends-2, else-left-eq1}
use Rattle.tz_database.proofs.reach.ends_of_ways.Goals as goal

pub loop-left-preserved : goal.loop-left-preserved
loop-left-preserved c =
    let wanted = map (stop_after c.args.targets.now (length c.args.targets.now)) c.args.targets.now in
    let doubled : c.in_ok-ahead-2.ahead.items ≡ map (next_stop c.loop-left.ahead.items) c.loop-left.ahead.items = search rules in
    elim c.if-left-eq1.branch [
      | then-left-eq1+in_ok-ends-2 w ↦
          (let one : c.if-left-eq1.ends.items ≡ map (next_stop c.loop-left.ahead.items) c.loop-left.ends.items = rw w.ends-is (search rules) in
          odd_round c.loop-left.ahead.items c.in_ok-ahead-2.ahead.items c.loop-left.ends.items c.if-left-eq1.ends.items wanted c.loop-left.left doubled one w.if-left-eq1.true c.loop-left.invariant)
      | else-left-eq1 w ↦
          even_round c.loop-left.ahead.items c.in_ok-ahead-2.ahead.items c.loop-left.ends.items c.if-left-eq1.ends.items wanted c.loop-left.left doubled (ap (λ ends. ends.items) w.ends-is) w.if-left-eq1.false c.loop-left.invariant
    ]

pub returns : goal.returns
returns c =
    let none : c.loop-left.left ≡ 0 = omega arith in
    sym (none_left c.loop-left.ahead.items c.loop-left.ends.items) ∙ ap (λ left. map (stop_after c.loop-left.ahead.items left) c.loop-left.ends.items) (sym none) ∙ c.loop-left.invariant
