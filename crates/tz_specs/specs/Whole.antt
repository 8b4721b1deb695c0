-- Why a zone text is refused as a whole, where none of its lines is by itself.
use Rattle.std.specs.Prelude.{ℕ, zero, suc, ◌==◌, nat_lt, nat_le, Bool, ◌&&◌, ◌||◌, if◌then◌else◌, List, [], ◌∷◌, ◌++◌, length, map, find, filter_map, flat_map, int_lt, ℤ, Option, Some, None, is_some, option_map, IsTrue, All, Contains}
use Rattle.std.specs.Option.{is_none}
use Rattle.std.specs.List.{list_any, last_or}
use Rattle.tz_types.specs.declared.cause.Cause.{Cause}
use Rattle.tz_types.specs.declared.cause.Cause.TheVariants as causes
use Rattle.tz_types.specs.declared.fault.LineFault.{LineFault}
use Rattle.tz_types.specs.declared.rule_set.RuleSet.{RuleSet}
use Rattle.tz_specs.specs.Choice.{◌>>=◌, only_if}
use Rattle.tz_specs.specs.Causes.{fault_at}
use Rattle.tz_specs.specs.Value.{is_exactly}
use Rattle.tz_specs.specs.Until.{Following, Nothing, Fixed, Rules, until_instant}
use Rattle.tz_specs.specs.Expansion.{first_instant}
use Rattle.tz_specs.specs.Written.{WrittenRules, WrittenLine, WrittenZone, WrittenLink, NoRules, FixedSave, RulesNamed}
use Rattle.tz_specs.specs.Contents.{Contents}

-- the fault of a line, where it has the cause
abbrev pub fault_where : Bool → ℕ → Cause → Option LineFault
fault_where holds number cause = only_if holds (fault_at number cause)

-- the last line of a zone, where it has an UNTIL and nothing follows it
abbrev pub missing_continuation : WrittenZone → Option LineFault
missing_continuation zone =
    last_or None zone.lines >>= λ line. fault_where (is_some line.until) line.line causes.NoContinuation

-- what the save of a line follows, where its rule set is among the sets
abbrev pub following_in : List RuleSet → WrittenRules → Option Following
following_in sets NoRules = Some Nothing
following_in sets (FixedSave save daylight) = Some (Fixed save daylight)
following_in sets (RulesNamed name) = option_map Rules (find (λ set. is_exactly set.name name) sets)

-- a line whose rule set has no rule
abbrev pub unknown_rule : List RuleSet → WrittenLine → Option LineFault
unknown_rule sets line = fault_where (is_none (following_in sets line.rules)) line.line causes.UnknownRule

-- a name, and the line that gives it to a zone or a link
abbrev pub zone_name : WrittenZone → Option (List ℕ × ℕ)
zone_name zone = option_map (λ line. (zone.name, line.line)) (first_of zone.lines)
  where
    first_of : List WrittenLine → Option WrittenLine
    first_of [] = None
    first_of (line ∷ lines) = Some line

abbrev pub names_given : Contents → List (List ℕ × ℕ)
names_given contents =
    filter_map zone_name contents.zones ++ map (λ link. (link.name, link.line)) contents.links

-- a name that an earlier line gives too
abbrev pub repeated_name : List (List ℕ × ℕ) → List ℕ × ℕ → Option LineFault
repeated_name names here =
    fault_where (list_any (λ other. is_exactly other.0 here.0 && nat_lt other.1 here.1) names) here.1 causes.DuplicateName

-- a zone has this name
abbrev pub is_zone_name : List WrittenZone → List ℕ → Bool
is_zone_name zones name = list_any (λ zone. is_exactly zone.name name) zones

-- The name of the zone that a name reaches: its own, or what the target of the earliest link of that name reaches, in at
-- most so many links.
abbrev pub reached : List WrittenZone → List WrittenLink → ℕ → List ℕ → Option (List ℕ)
reached zones links zero name = only_if (is_zone_name zones name) name
reached zones links (suc steps) name =
    if is_zone_name zones name then Some name
    else (find (λ link. is_exactly link.name name) links >>= λ link. reached zones links steps link.target)

-- The name of the zone to which a link leads. A way of more links than there are goes in a circle.
abbrev pub zone_of_link : Contents → WrittenLink → Option (List ℕ)
zone_of_link contents link = reached contents.zones contents.links (length contents.links) link.target

-- a link that leads to no zone
abbrev pub missing_target : Contents → WrittenLink → Option LineFault
missing_target contents link = fault_where (is_none (zone_of_link contents link)) link.line causes.LinkTarget

-- when a line with an UNTIL ends, where its rule set is known
abbrev pub finish_in : List RuleSet → WrittenLine → Option ℤ
finish_in sets line =
    line.until >>= λ until. option_map (λ following. until_instant following line.stdoff until.year until.moment) (following_in sets line.rules)

-- The lines of a zone, from a start on, that end no later than they start. Behind a line whose rule set is unknown, nobody
-- asks.
abbrev pub late_lines : List RuleSet → ℤ → List WrittenLine → List LineFault
late_lines sets start [] = []
late_lines sets start (line ∷ lines) =
    elim (finish_in sets line) [
      | None ↦ []
      | Some finish ↦
          if int_lt start finish then late_lines sets finish lines
          else fault_at line.line causes.UntilOrder ∷ late_lines sets finish lines
    ]

-- all faults of a text as a whole, where its rule sets are these
unfoldable pub whole_faults : List RuleSet → Contents → List LineFault
whole_faults sets contents =
    filter_map missing_continuation contents.zones
    ++ flat_map (λ zone. filter_map (unknown_rule sets) zone.lines) contents.zones
    ++ filter_map (repeated_name (names_given contents)) (names_given contents)
    ++ filter_map (missing_target contents) contents.links
    ++ flat_map (λ zone. late_lines sets first_instant zone.lines) contents.zones

-- an earlier line, or the same line and a cause that isn't greater
abbrev pub is_told_before : LineFault → LineFault → Bool
is_told_before fault other =
    nat_lt fault.line other.line || ((fault.line == other.line) && nat_le fault.cause other.cause)

-- of these faults the one at the least line, with the least cause there
pub record IsLeast (faults : List LineFault) (fault : LineFault) : Type 0 where
  pub among : Contains faults fault
  pub least : All (λ other. IsTrue (is_told_before fault other)) faults
