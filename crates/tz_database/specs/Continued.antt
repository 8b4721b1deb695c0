-- Lines of a zone that continue one another, and the names of rule sets that they give.
use Rattle.std.specs.Prelude.{ℕ, Bool, true, false, ◌&&◌, List, [], ◌∷◌, nat_lt, is_some}
use Rattle.tz_types.specs.declared.zone_line.LineRules.{LineRules}
use Rattle.tz_types.specs.declared.zone_line.LineRules.TheVariants as rules
use Rattle.tz_types.specs.declared.zone_line.ZoneLine.{ZoneLine}

-- there is a line, and each but the last has an UNTIL
abbrev pub are_continued : List ZoneLine → Bool
are_continued [] = false
are_continued (line ∷ []) = true
are_continued (line ∷ next ∷ lines) = is_some line.until && are_continued (next ∷ lines)

-- the place of the set's name is one of so many
abbrev pub is_named_by : ℕ → LineRules → Bool
is_named_by count rules.Plain = true
is_named_by count (rules.Fixed save daylight) = true
is_named_by count (rules.Set place) = nat_lt place count
