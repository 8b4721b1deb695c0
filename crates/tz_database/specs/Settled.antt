-- Lines of zones that give their rule sets by the places of the sets, in place of those of their names.
use Rattle.std.specs.Prelude.{◌≡◌, ℕ, Bool, true, List, map, Option, Some, None, is_some, slice_get, IsTrue}
use Rattle.std.specs.List.{list_all}
use Rattle.tz_types.specs.declared.rule_set.RuleSet.{RuleSet}
use Rattle.tz_types.specs.declared.zone_line.LineRules.{LineRules}
use Rattle.tz_types.specs.declared.zone_line.LineRules.TheVariants as rules
use Rattle.tz_types.specs.declared.zone_line.ZoneLine.{ZoneLine}
use Rattle.tz_types.specs.declared.zone.Zone.{Zone}
use Rattle.tz_specs.specs.Choice.{◌>>=◌}
use Rattle.tz_specs.specs.Written.{set_names, written_line, written_zone}
use Rattle.tz_specs.specs.Sound.{is_known}
use Rattle.tz_database.specs.SetPlace.{set_place_of}

-- the place of a set, by the place of its name and the places of the sets of all names
abbrev pub place_at : List (Option ℕ) → ℕ → Option ℕ
place_at places name = slice_get places name >>= λ place. place

-- a set that is named is there
abbrev pub has_set : List (Option ℕ) → LineRules → Bool
has_set places rules.Plain = true
has_set places (rules.Fixed save daylight) = true
has_set places (rules.Set name) = is_some (place_at places name)

abbrev pub have_sets : List (Option ℕ) → List ZoneLine → Bool
have_sets places lines = list_all (λ (line : ZoneLine). has_set places line.rules) lines

-- the same rules, by the place of the set
abbrev pub settled_rules : List (Option ℕ) → LineRules → LineRules
settled_rules places rules.Plain = rules.Plain
settled_rules places (rules.Fixed save daylight) = rules.Fixed save daylight
settled_rules places (rules.Set name) = by_place (place_at places name)
  where
    by_place : Option ℕ → LineRules
    by_place None = rules.Plain
    by_place (Some place) = rules.Set place

-- the places are those of the sets that have the names
abbrev pub ArePlaces : List (Option ℕ) → List RuleSet → List (List ℕ) → Type 0
ArePlaces places sets names = places ≡ map (set_place_of sets) names

-- the lines say the same by the sets as they did by the names, and their sets are there
pub record AreSettled (sets : List RuleSet) (names : List (List ℕ)) (lines settled : List ZoneLine) : Type 0 where
  pub written : map (written_line (set_names sets)) settled ≡ map (written_line names) lines
  pub known : IsTrue (list_all (λ line. is_known sets line.rules) settled)

-- and so do the zones
pub record AreSettledZones (sets : List RuleSet) (names : List (List ℕ)) (zones settled : List Zone) : Type 0 where
  pub written : map (written_zone (set_names sets)) settled ≡ map (written_zone names) zones
  pub known : IsTrue (list_all (λ zone. list_all (λ line. is_known sets line.rules) zone.lines) settled)
