use Rattle.std.proofs.Common.{◌≡◌, take, drop, ℤ}
use Rattle.tz_cli.specs.Dump.{dump_text}
use Rattle.tz_cli.specs.Dumping.{compiled_texts}
use Rattle.tz_cli.proofs.dump.compiled_zones.Given as goal

abbrev pub invariant-loop-more : goal.invariant-loop-more
invariant-loop-more l =
    (from to : ℤ) → compiled_texts from to l.compiled.items ≡ dump_text l.db from to (take l.more (drop l.first l.db.zones))
