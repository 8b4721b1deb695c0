-- The zone that was begun last, and its lines.
use Rattle.std.specs.Prelude.{ℕ, ◌<◌, List, [], ◌∷◌, ◌++◌, length, map, None, IfSome}
use Rattle.std.specs.List.{last_or}
use Rattle.tz_types.specs.declared.limit.TheConstants.{MOST_ZONE_LINES}
use Rattle.tz_types.specs.declared.zone_line.ZoneLine.{ZoneLine}
use Rattle.tz_types.specs.declared.zone.Zone.{Zone}

-- the names of zones
abbrev pub names_of_zones : List Zone → List (List ℕ)
names_of_zones zones = map (λ zone. zone.name) zones

-- the lines of each zone
abbrev pub lines_of_zones : List Zone → List (List ZoneLine)
lines_of_zones zones = map (λ zone. zone.lines) zones

-- the lines of each zone, where the last has one more
abbrev pub with_last_line : ZoneLine → List (List ZoneLine) → List (List ZoneLine)
with_last_line line [] = []
with_last_line line (lines ∷ []) = (lines ++ line ∷ []) ∷ []
with_last_line line (lines ∷ next ∷ others) = lines ∷ with_last_line line (next ∷ others)

-- the last zone, if there is one, has room for one more line
abbrev pub HasRoom : List Zone → Type 0
HasRoom zones = IfSome (last_or None zones) (λ zone. length zone.lines < MOST_ZONE_LINES)
