use Rattle.std.proofs.Common.{◌+◌, ◌≤ℤ◌, rules, arith, FitsSigned, to_z, of_z}
use Rattle.std.specs.Int.{w32}
use Rattle.std.proofs.lemmas.Int.{ints}
use Rattle.tz_expand.specs.Looks.{since, through}
use Rattle.tz_expand.proofs.LookLemmas.{within_years, look_low, look_high, since-years, through-years, look_pushed}
use Rattle.tz_expand.proofs.looks.put_looks.Goals as goal

pub look-requires : goal.look-requires
look-requires g c =
    let year_fits : FitsSigned w32 c.ahead.result = search rules in
    let rule = c.args.rule.now in
    let years = c.of_rule-years in
    let low : since rule ≤ℤ years.result.first = rw years.ensures.first (look_low (since rule) (through rule) c.args.near.first) in
    let high : years.result.last ≤ℤ through rule = rw years.ensures.last (look_high (since rule) (through rule) c.args.near.last) in
    let within = within_years years.result.first years.result.last c.loop-ahead.ahead (omega arith) in
    let year = c.ahead.ensures in
    record {
      since = omega (arith, ints, since-years rule years.result.first low);
      through = omega (arith, ints, through-years rule years.result.last high);
      year_in = (omega (arith, ints, since-years rule years.result.first low), omega (arith, ints, through-years rule years.result.last high));
    }

pub loop-ahead-preserved : goal.loop-ahead-preserved
loop-ahead-preserved g c =
    let year_fits : FitsSigned w32 c.ahead.result = search rules in
    let year = c.ahead.ensures in
    record {
      looks = look_pushed c.args.rule.now c.of_rule-years.result.first (to_z w32 (of_z w32 c.ahead.result)) c.loop-ahead.ahead (c.loop-ahead.ahead + 1) c.args.list.now.items c.loop-ahead.list.items c.push.new.self.items c.look.result (omega arith) c.loop-ahead.invariant.looks c.look.ensures.value (omega (arith, ints)) c.in_ok-push.ensures.items;
      steps = omega (arith, c.look.ensures.steps, c.loop-ahead.invariant.steps);
    }
