-- The saves that lines of zones fix, before their names are looked up.
use Rattle.std.specs.Prelude.{Bool, true}
use Rattle.tz_types.specs.Amount.{is_shift}
use Rattle.tz_records.specs.declared.entry.EntryRules.{EntryRules}
use Rattle.tz_records.specs.declared.entry.EntryRules.TheVariants as rules

-- a fixed save is at most a day, with either sign
abbrev pub is_entry_save : EntryRules → Bool
is_entry_save rules.Plain = true
is_entry_save (rules.Fixed save daylight) = is_shift save
is_entry_save (rules.Named name) = true
