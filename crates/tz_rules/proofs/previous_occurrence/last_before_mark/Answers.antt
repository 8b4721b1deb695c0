use Rattle.std.proofs.Common.{◌≡◌, ◌+◌, ◌-◌, length, arith, subst, ℕ}
use Rattle.tz_rules.specs.Search.{IsLastFrom}
use Rattle.tz_rules.proofs.BeforeMark.{last_of_all}
use Rattle.tz_rules.proofs.previous_occurrence.last_before_mark.Goals as goal

pub last_with-last-requires-clause-so_far : goal.last_with-last-requires-clause-so_far
last_with-last-requires-clause-so_far g c =
    let same : length c.args.set.now.rules - c.loop-back.back ≡ c.len.result - 1 - c.loop-back.back + 1 = omega arith in
    subst (λ (n : ℕ). IsLastFrom c.args.set.now c.args.mark n c.loop-back.last) same c.loop-back.invariant.so_far

pub loop-back-preserved : goal.loop-back-preserved
loop-back-preserved g c =
    let same : c.len.result - 1 - c.loop-back.back ≡ length c.args.set.now.rules - (c.loop-back.back + 1) = omega arith in
    record {
      so_far = subst (λ (n : ℕ). IsLastFrom c.args.set.now c.args.mark n c.last_with-last.result) same c.last_with-last.ensures.last;
      steps = omega arith;
    }

pub returns-clause-last : goal.returns-clause-last
returns-clause-last g c =
    last_of_all c.args.set.now c.args.mark (length c.args.set.now.rules - c.loop-back.back) c.loop-back.last (omega arith) c.loop-back.invariant.so_far
