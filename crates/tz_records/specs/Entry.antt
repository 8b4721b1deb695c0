-- What entries stand for: records as they are written.
use Rattle.std.specs.Prelude.{option_map}
use Rattle.tz_specs.specs.Written.{WrittenRules, NoRules, FixedSave, RulesNamed, WrittenLine, Record, RuleRecord, ZoneRecord, Continuation, LinkRecord, written_rule, written_until}
use Rattle.tz_records.specs.FormatField.{format_told}
use Rattle.tz_records.specs.declared.entry.EntryRules.{EntryRules}
use Rattle.tz_records.specs.declared.entry.EntryRules.TheVariants as rules
use Rattle.tz_records.specs.declared.entry.EntryLine.{EntryLine}
use Rattle.tz_records.specs.declared.entry.Entry.{Entry}
use Rattle.tz_records.specs.declared.entry.Entry.TheVariants as entries

abbrev pub written_entry_rules : EntryRules → WrittenRules
written_entry_rules rules.Plain = NoRules
written_entry_rules (rules.Fixed save daylight) = FixedSave save daylight
written_entry_rules (rules.Named name) = RulesNamed name.bytes.now

abbrev pub written_entry_line : EntryLine → WrittenLine
written_entry_line line =
    record {
      stdoff = line.stdoff;
      rules = written_entry_rules line.rules;
      format = format_told line.format;
      until = option_map written_until line.until;
      line = line.line;
    }

abbrev pub written_entry : Entry → Record
written_entry (entries.Rule name rule) = RuleRecord name.bytes.now (written_rule rule)
written_entry (entries.Zone name line) = ZoneRecord name.bytes.now (written_entry_line line)
written_entry (entries.Continuation line) = Continuation (written_entry_line line)
written_entry (entries.Link target name line) =
    LinkRecord (record { target = target.bytes.now; name = name.bytes.now; line = line })
