-- The saves that lines of zones fix.
use Rattle.std.specs.Prelude.{Bool, true}
use Rattle.tz_types.specs.declared.zone_line.LineRules.{LineRules}
use Rattle.tz_types.specs.declared.zone_line.LineRules.TheVariants.{Plain, Fixed, Set}
use Rattle.tz_types.specs.Amount.{is_shift}

-- a fixed save is at most a day, with either sign
abbrev pub is_fixed_save : LineRules → Bool
is_fixed_save Plain = true
is_fixed_save (Fixed save daylight) = is_shift save
is_fixed_save (Set place) = true
