use Rattle.std.proofs.Common.{refl, arith}
use Rattle.std.proofs.lemmas.Int.{ints}
use Rattle.rule_rows.proofs.InOrder.{year_back, all_years}
use Rattle.rule_rows.proofs.listing.put_rule.Goals as goal

pub loop-back-preserved : goal.loop-back-preserved
loop-back-preserved c =
    year_back 19_997 c.loop-back.back c.args.rule.now _ c.args.list.now.items c.loop-back.list.items c.put_year.new.list.items refl c.loop-back-test.true (omega (arith, ints)) c.loop-back.invariant c.in_ok-put_year.ensures

pub returns : goal.returns
returns c =
    all_years 19_997 c.loop-back.back c.args.rule.now c.args.list.now.items c.loop-back.list.items refl c.loop-back-test.false c.loop-back.auto.back-end c.loop-back.invariant
