use Rattle.std.proofs.Common.{◌≡◌, take, drop, refl, rules, FitsSigned}
use Rattle.std.specs.Int.{w64}
use Rattle.std.proofs.lemmas.Int.{to_z-of_z}
use Rattle.tz_cli.specs.Dump.{asked_for, dump_text}
use Rattle.tz_cli.specs.Dumping.{compiled_texts}
use Rattle.tz_cli.proofs.Asked.{missing, out_of_dump}
use Rattle.tz_cli.proofs.zones.dump.Goals as goal

pub returns-in_default-clause-refused : goal.returns-in_default-clause-refused
returns-in_default-clause-refused c =
    let none = c.in_default.ensures.missing (search rules) in
    (missing c.args.source.now c.args.word.now (asked_for c.args.word.now) c.in-Ok.db none.0 c.in-Ok.ensures.ok none.1, refl)

pub returns-then-not-is_dumped-clause-refused : goal.returns-then-not-is_dumped-clause-refused
returns-then-not-is_dumped-clause-refused c =
    let from_fits : FitsSigned w64 c.args.from = c.ranges.from in
    let to_fits : FitsSigned w64 c.args.to = c.ranges.to in
    let dumped = simp to_z-of_z at c.is_dumped.ensures in
    let db = c.in-Ok.db in
    (out_of_dump c.args.source.now c.args.from c.args.to (asked_for c.args.word.now) db (take c.in-Some.count (drop c.in-Some.first db.zones)) c.in-Ok.ensures.ok (rw (← c.in-Some.first-is, ← c.in-Some.count-is) c.in-Some.ensures.are) (λ is. search rules), refl)

pub returns-in-Ok-compiled_zones-clause-ok : goal.returns-in-Ok-compiled_zones-clause-ok
returns-in-Ok-compiled_zones-clause-ok c =
    let from_fits : FitsSigned w64 c.args.from = c.ranges.from in
    let to_fits : FitsSigned w64 c.args.to = c.ranges.to in
    let dumped = simp to_z-of_z at c.is_dumped.ensures in
    let db = c.in-Ok.db in
    let zones = take c.in-Some.count (drop c.in-Some.first db.zones) in
    let line : compiled_texts c.args.from c.args.to c.in-Ok-compiled_zones.zones.items ≡ dump_text db c.args.from c.args.to zones = search rules in
    simp to_z-of_z (
      search rules,
      record {
        db = db;
        reads = c.in-Ok.ensures.ok;
        zones = zones;
        are = rw (← c.in-Some.first-is, ← c.in-Some.count-is) c.in-Some.ensures.are;
        line_is = line;
      },
    )
