use Rattle.std.proofs.Common.{sym}
use Rattle.tz_cli.proofs.Texts.{place_within}
use Rattle.tz_cli.proofs.NamedZone.{found_zone}
use Rattle.tz_cli.proofs.named_zone.named_zone.Goals as goal

pub compile-requires-clause-known : goal.compile-requires-clause-known
compile-requires-clause-known c =
    place_within c.args.name.now c.in-Ok.db c.in-Some.place c.in-Ok.ensures.sound (sym c.in-Some.ensures)

pub returns-in-Ok-compile-clause-ok : goal.returns-in-Ok-compile-clause-ok
returns-in-Ok-compile-clause-ok c =
    let db = c.in-Ok.db in
    let named = sym c.in-Some.ensures in
    let low = place_within c.args.name.now db c.in-Some.place c.in-Ok.ensures.sound named in
    found_zone c.args.source.now c.args.name.now db c.in-Some.place c.in-Ok-compile.zone c.in-Ok.ensures.ok named low c.in-Ok-compile.ensures

pub returns-in-None-clause-refused : goal.returns-in-None-clause-refused
returns-in-None-clause-refused c = record { db = c.in-Ok.db; reads = c.in-Ok.ensures.ok; none = sym c.in-None.ensures }
