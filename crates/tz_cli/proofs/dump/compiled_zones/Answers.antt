use Rattle.std.proofs.Common.{◌<◌, rules, arith}
use Rattle.tz_cli.proofs.Dumps.{next_compiled}
use Rattle.tz_cli.proofs.dump.compiled_zones.Goals as goal

pub loop-more-preserved : goal.loop-more-preserved
loop-more-preserved c = λ from to.
    let below : c.loop-more.more < c.args.count = search rules in
    next_compiled c.args.db.now c.args.first c.loop-more.more from to c.loop-more.compiled.items c.push_compiled.new.compiled.items (omega (arith, below, c.requires.known)) (c.loop-more.invariant from to) (λ zone at. c.in_ok-push_compiled.ensures zone from to at)
