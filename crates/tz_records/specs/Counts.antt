-- Whether a line, or what it says, is one more than there may be, by what stands before it.
use Rattle.std.specs.Prelude.{ℕ, Bool, false, List, ◌∷◌, Option, Some, None}
use Rattle.tz_types.specs.declared.cause.Cause.{Cause}
use Rattle.tz_types.specs.declared.cause.Cause.TheVariants as causes
use Rattle.tz_specs.specs.Written.{Record, RuleRecord, ZoneRecord, Continuation, LinkRecord}
use Rattle.tz_specs.specs.LineCauses.{number_causes}
use Rattle.tz_specs.specs.Contents.{Contents, exceeds_rules, exceeds_zones, exceeds_lines, exceeds_links}

-- the record is one too many
abbrev pub exceeds : Contents → Record → Bool
exceeds before (RuleRecord name rule) = exceeds_rules name before
exceeds before (ZoneRecord name line) = exceeds_zones before
exceeds before (Continuation line) = exceeds_lines before
exceeds before (LinkRecord link) = exceeds_links before

-- what a line says is one too many; a blank line says nothing
abbrev pub exceeds_said : Contents → Option Record → Bool
exceeds_said before None = false
exceeds_said before (Some said) = exceeds before said

-- the causes that a line has by counts alone, by its number and by what it says
abbrev pub count_causes : Contents → ℕ → Option Record → List (Cause × Bool)
count_causes before number said =
    (causes.Limit, exceeds_said before said) ∷ number_causes number
