use Rattle.std.proofs.Common.{◌≡◌, ◌+◌, ◌-◌, length, arith, subst, ℕ}
use Rattle.tz_rules.specs.Search.{IsFirstFrom}
use Rattle.tz_rules.proofs.AfterMark.{first_of_all}
use Rattle.tz_rules.proofs.next_occurrence.first_after_mark.Goals as goal

pub first_with-first-requires-clause-so_far : goal.first_with-first-requires-clause-so_far
first_with-first-requires-clause-so_far g c =
    let same : length c.args.set.now.rules - c.loop-back.back ≡ c.len.result - 1 - c.loop-back.back + 1 = omega arith in
    subst (λ (n : ℕ). IsFirstFrom c.args.set.now c.args.mark n c.loop-back.first) same c.loop-back.invariant.so_far

pub loop-back-preserved : goal.loop-back-preserved
loop-back-preserved g c =
    let same : c.len.result - 1 - c.loop-back.back ≡ length c.args.set.now.rules - (c.loop-back.back + 1) = omega arith in
    record {
      so_far = subst (λ (n : ℕ). IsFirstFrom c.args.set.now c.args.mark n c.first_with-first.result) same c.first_with-first.ensures.first;
      steps = omega arith;
    }

pub returns-clause-first : goal.returns-clause-first
returns-clause-first g c =
    first_of_all c.args.set.now c.args.mark (length c.args.set.now.rules - c.loop-back.back) c.loop-back.first (omega arith) c.loop-back.invariant.so_far
