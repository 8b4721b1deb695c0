-- What a compiled line follows, and how large a save it may fix.
use Rattle.std.specs.Prelude.{Bool, true}
use Rattle.tz_types.specs.Amount.{is_shift}
use Rattle.tz_specs.specs.Until.{Following, Nothing, Fixed, Rules}
use Rattle.tz_expand.specs.declared.compiled_line.CompiledRules.{CompiledRules}
use Rattle.tz_expand.specs.declared.compiled_line.CompiledRules.TheVariants as rules

abbrev pub followed_by : CompiledRules → Following
followed_by rules.Plain = Nothing
followed_by (rules.Fixed save daylight) = Fixed save daylight
followed_by (rules.Set set) = Rules set

-- a fixed save is at most a day, with either sign
abbrev pub is_compiled_save : CompiledRules → Bool
is_compiled_save rules.Plain = true
is_compiled_save (rules.Fixed save daylight) = is_shift save
is_compiled_save (rules.Set set) = true
