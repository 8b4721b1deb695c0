-- Years of texts, and years that occurrences have.
use Rattle.std.specs.Prelude.{ℤ}
use Rattle.jiff_core.specs.Calendar.{IsWithin}
use Rattle.tz_types.specs.declared.limit.TheConstants.{LAST_WRITTEN_YEAR, LAST_RULE_YEAR}

-- a year as a text may write it
abbrev pub IsWrittenYear : ℤ → Type 0
IsWrittenYear year = IsWithin LAST_WRITTEN_YEAR year

-- a year in which rules occur and lines end
abbrev pub IsRuleYear : ℤ → Type 0
IsRuleYear year = IsWithin LAST_RULE_YEAR year
