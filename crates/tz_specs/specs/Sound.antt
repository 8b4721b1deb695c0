-- Texts whose lines follow one another in time, and whose rules and links are known.
use Rattle.std.specs.Prelude.{Bool, true, ◌&&◌, List, [], ◌∷◌, length, nat_lt, int_lt, ℤ}
use Rattle.std.specs.List.{list_all}
use Rattle.std.specs.Ordering.{int_eq}
use Rattle.tz_types.specs.declared.rule_set.RuleSet.{RuleSet}
use Rattle.tz_types.specs.declared.zone_line.LineRules.{LineRules}
use Rattle.tz_types.specs.declared.zone_line.LineRules.TheVariants as rules
use Rattle.tz_types.specs.declared.zone.Zone.{Zone}
use Rattle.tz_types.specs.declared.database.Db.{Db}
use Rattle.tz_specs.specs.Expansion.{Period, periods_of, first_instant, end_of_time}

-- The periods lead from one instant to another: each starts where the one before it finishes, and finishes later.
abbrev pub leads : ℤ → ℤ → List Period → Bool
leads from to [] = int_eq from to
leads from to (period ∷ later) =
    int_eq period.start from && int_lt period.start period.finish && leads period.finish to later

-- the set is there
abbrev pub is_known : List RuleSet → LineRules → Bool
is_known sets rules.Plain = true
is_known sets (rules.Fixed save daylight) = true
is_known sets (rules.Set place) = nat_lt place (length sets)

-- the zone's rule sets are known, and its lines lead from the beginning of time to its end
abbrev pub is_sound_zone : Db → Zone → Bool
is_sound_zone db zone =
    list_all (λ line. is_known db.sets line.rules) zone.lines
    && leads first_instant end_of_time (periods_of db zone)

-- each zone is sound, and each link leads to a zone
abbrev pub is_sound : Db → Bool
is_sound db = list_all (is_sound_zone db) db.zones && list_all (λ link. nat_lt link.zone (length db.zones)) db.links
