use Rattle.std.proofs.Common.{◌≡◌, refl}
use Rattle.tz_specs.specs.Written.{set_names, written_rules}
use Rattle.tz_database.specs.Settled.{settled_rules}
use Rattle.tz_database.proofs.SettledLines.{settled_written}
use Rattle.tz_database.proofs.settled_lines.settle_line.Goals as goal

pub returns-clause-written : goal.returns-clause-written
returns-clause-written c sets names are =
    let same : written_rules (set_names sets) (settled_rules c.args.places.now c.args.line.now.rules) ≡ written_rules names c.args.line.now.rules = rw are (settled_written sets names c.args.line.now.rules (rw are at c.requires)) in
    let rules : written_rules (set_names sets) c.settled_rules-line.result ≡ written_rules names c.args.line.now.rules = rw c.settled_rules-line.ensures same in
    rw rules refl
