use Rattle.std.proofs.Common.{drop, sym, ◌∙◌}
use Rattle.tz_records.proofs.ZoneLines.{well_named}
use Rattle.tz_records.proofs.zone_record.zone_entry.Goals as goal

pub of_field-requires-clause-good : goal.of_field-requires-clause-good
of_field-requires-clause-good c =
    sym c.is_bad_name.ensures ∙ (well_named c.is_bad_name.result c.is_long_name.result (drop 2 c.args.fields.now.first) c.in-Ok.ensures.0).0

pub of_field-requires-clause-short : goal.of_field-requires-clause-short
of_field-requires-clause-short c =
    sym c.is_long_name.ensures ∙ (well_named c.is_bad_name.result c.is_long_name.result (drop 2 c.args.fields.now.first) c.in-Ok.ensures.0).1
