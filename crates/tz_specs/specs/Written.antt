-- What lines of a zone text say, as it is written: rules, lines of zones, and links.
use Rattle.std.specs.Prelude.{ℕ, Bool, List, map, ℤ, Option, Some, None, option_map, slice_get}
use Rattle.tz_types.specs.declared.moment.Moment.{Moment}
use Rattle.tz_types.specs.declared.format.Format.{Format}
use Rattle.tz_types.specs.declared.rule.Rule.{Rule}
use Rattle.tz_types.specs.declared.rule_set.RuleSet.{RuleSet}
use Rattle.tz_types.specs.declared.until.Until.{Until}
use Rattle.tz_types.specs.declared.zone_line.LineRules.{LineRules}
use Rattle.tz_types.specs.declared.zone_line.LineRules.TheVariants as line_rules
use Rattle.tz_types.specs.declared.zone_line.ZoneLine.{ZoneLine}
use Rattle.tz_types.specs.declared.zone.Zone.{Zone}
use Rattle.tz_types.specs.declared.link.Link.{Link}

-- a rule, and the line where it stands
pub record WrittenRule : Type 0 where
  pub from : ℤ
  pub to : ℤ
  pub moment : Moment
  pub save : ℤ
  pub daylight : Bool
  pub letters : List ℕ
  pub line : ℕ

-- all rules of one name, in the order of their lines
pub record WrittenSet : Type 0 where
  pub name : List ℕ
  pub rules : List WrittenRule

-- when a line of a zone ends
pub record WrittenUntil : Type 0 where
  pub year : ℤ
  pub moment : Moment

-- what the save of a line follows: nothing, a fixed amount of seconds, or the rules of a name
pub data WrittenRules : Type 0 where
  NoRules : WrittenRules
  FixedSave : ℤ → Bool → WrittenRules
  RulesNamed : List ℕ → WrittenRules

-- a line of a zone, and where it stands
pub record WrittenLine : Type 0 where
  pub stdoff : ℤ
  pub rules : WrittenRules
  pub format : Format
  pub until : Option WrittenUntil
  pub line : ℕ

-- a zone, with its lines in their order
pub record WrittenZone : Type 0 where
  pub name : List ℕ
  pub lines : List WrittenLine

-- another name for a zone or a link, and where it stands
pub record WrittenLink : Type 0 where
  pub target : List ℕ
  pub name : List ℕ
  pub line : ℕ

-- what a line that isn't blank says
pub data Record : Type 0 where
  RuleRecord : List ℕ → WrittenRule → Record
  ZoneRecord : List ℕ → WrittenLine → Record
  Continuation : WrittenLine → Record
  LinkRecord : WrittenLink → Record

-- The same of a database's own rules, zones and links.

abbrev pub written_rule : Rule → WrittenRule
written_rule rule =
    record {
      from = rule.from;
      to = rule.to;
      moment = rule.moment;
      save = rule.save;
      daylight = rule.daylight;
      letters = rule.letters;
      line = rule.line;
    }

abbrev pub written_set : RuleSet → WrittenSet
written_set set = record { name = set.name; rules = map written_rule set.rules }

-- the names of sets, in their order
abbrev pub set_names : List RuleSet → List (List ℕ)
set_names sets = map (λ set. set.name) sets

-- a line gives its rule set by the place of the set's name; a set that isn't there is none
abbrev pub written_rules : List (List ℕ) → LineRules → WrittenRules
written_rules names line_rules.Plain = NoRules
written_rules names (line_rules.Fixed save daylight) = FixedSave save daylight
written_rules names (line_rules.Set place) = by_place (slice_get names place)
  where
    by_place : Option (List ℕ) → WrittenRules
    by_place None = NoRules
    by_place (Some name) = RulesNamed name

abbrev pub written_until : Until → WrittenUntil
written_until until = record { year = until.year; moment = until.moment }

abbrev pub written_line : List (List ℕ) → ZoneLine → WrittenLine
written_line names line =
    record {
      stdoff = line.stdoff;
      rules = written_rules names line.rules;
      format = line.format;
      until = option_map written_until line.until;
      line = line.line;
    }

abbrev pub written_zone : List (List ℕ) → Zone → WrittenZone
written_zone names zone = record { name = zone.name; lines = map (written_line names) zone.lines }

abbrev pub written_link : Link → WrittenLink
written_link link = record { target = link.target; name = link.name; line = link.line }
