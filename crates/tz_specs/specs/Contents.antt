-- What the lines of zone texts give, one after another and file after file: rule sets, zones and links.
use Rattle.std.specs.Prelude.{ℕ, ◌+◌, nat_le, Bool, true, false, not, ◌&&◌, ◌||◌, if◌then◌else◌, List, [], ◌∷◌, ◌++◌, length, find, drop, Option, Some, None, is_some, Result, Ok, Err}
use Rattle.std.specs.List.{last_or}
use Rattle.tz_types.specs.Order.{name_before}
use Rattle.tz_types.specs.declared.limit.TheConstants.{MOST_RULES, MOST_SETS, MOST_ZONES, MOST_ZONE_LINES, MOST_LINKS}
use Rattle.tz_types.specs.declared.cause.Cause.{Cause}
use Rattle.tz_types.specs.declared.cause.Cause.TheVariants as causes
use Rattle.tz_types.specs.declared.fault.LineFault.{LineFault}
use Rattle.tz_specs.specs.Line.{lines_of}
use Rattle.tz_specs.specs.Field.{fields_of}
use Rattle.tz_specs.specs.Choice.{◌>>=◌}
use Rattle.tz_specs.specs.Causes.{least_cause, unless_cause, fault_at}
use Rattle.tz_specs.specs.LineCauses.{causes_with}
use Rattle.tz_specs.specs.Value.{field_at, is_exactly, is_bad_name, is_long_name}
use Rattle.tz_specs.specs.Written.{WrittenRule, WrittenSet, WrittenLine, WrittenZone, WrittenLink, Record, RuleRecord, ZoneRecord, Continuation, LinkRecord}
use Rattle.tz_specs.specs.Record.{Kind, RuleLine, ZoneLine, LinkLine, ContinuationLine, kind_of_record, has_count, rule_causes, line_causes, link_causes, record_of}

-- The rule sets in the order of their names, the zones and the links in the order of their lines, and whether a zone was begun
-- in the file that is read.
pub record Contents : Type 0 where
  pub sets : List WrittenSet
  pub zones : List WrittenZone
  pub links : List WrittenLink
  pub begun : Bool

-- before any line
abbrev pub no_contents : Contents
no_contents = record { sets = []; zones = []; links = []; begun = false }

-- at the end of a file: in the next one, no zone is begun
abbrev pub at_end_of_file : Contents → Contents
at_end_of_file contents =
    record { sets = contents.sets; zones = contents.zones; links = contents.links; begun = false }

-- the set has this name
abbrev pub is_set_named : List ℕ → WrittenSet → Bool
is_set_named name set = is_exactly set.name name

-- one more rule: behind those of its name, or as the first of them
abbrev pub with_rule : List ℕ → WrittenRule → List WrittenSet → List WrittenSet
with_rule name rule [] = record { name = name; rules = rule ∷ [] } ∷ []
with_rule name rule (set ∷ sets) =
    if is_set_named name set then record { name = name; rules = set.rules ++ rule ∷ [] } ∷ sets
    else (if name_before name set.name then record { name = name; rules = rule ∷ [] } ∷ set ∷ sets
    else set ∷ with_rule name rule sets)

-- one more line of the last zone
abbrev pub with_line : WrittenLine → List WrittenZone → List WrittenZone
with_line line [] = []
with_line line (zone ∷ []) = record { name = zone.name; lines = zone.lines ++ line ∷ [] } ∷ []
with_line line (zone ∷ next ∷ zones) = zone ∷ with_line line (next ∷ zones)

-- the contents with one more record
abbrev pub with_record : Record → Contents → Contents
with_record (RuleRecord name rule) contents =
    record {
      sets = with_rule name rule contents.sets;
      zones = contents.zones;
      links = contents.links;
      begun = contents.begun;
    }
with_record (ZoneRecord name line) contents =
    record {
      sets = contents.sets;
      zones = contents.zones ++ record { name = name; lines = line ∷ [] } ∷ [];
      links = contents.links;
      begun = true;
    }
with_record (Continuation line) contents =
    record {
      sets = contents.sets;
      zones = with_line line contents.zones;
      links = contents.links;
      begun = contents.begun;
    }
with_record (LinkRecord link) contents =
    record {
      sets = contents.sets;
      zones = contents.zones;
      links = contents.links ++ link ∷ [];
      begun = contents.begun;
    }

-- the lines of the zone that was begun last
abbrev pub last_lines : List WrittenZone → List WrittenLine
last_lines zones = lines_or_none (last_or None zones)
  where
    lines_or_none : Option WrittenZone → List WrittenLine
    lines_or_none None = []
    lines_or_none (Some zone) = zone.lines

-- the last line of a zone has an UNTIL, and so wants one that continues it
abbrev pub wants_line : List WrittenLine → Bool
wants_line lines = wants (last_or None lines)
  where
    wants : Option WrittenLine → Bool
    wants None = false
    wants (Some line) = is_some line.until

-- the zone that was begun last, in this file, waits for a line
abbrev pub waits : Contents → Bool
waits contents = contents.begun && wants_line (last_lines contents.zones)

-- The record would be one more than there may be rules of its set, sets, zones, lines of its zone, or links.

abbrev pub is_full_set : List WrittenSet → Option WrittenSet → Bool
is_full_set sets None = nat_le MOST_SETS (length sets)
is_full_set sets (Some set) = nat_le MOST_RULES (length set.rules)

abbrev pub exceeds_rules : List ℕ → Contents → Bool
exceeds_rules name contents = is_full_set contents.sets (find (is_set_named name) contents.sets)

abbrev pub exceeds_zones : Contents → Bool
exceeds_zones contents = nat_le MOST_ZONES (length contents.zones)

abbrev pub exceeds_lines : Contents → Bool
exceeds_lines contents = nat_le MOST_ZONE_LINES (length (last_lines contents.zones))

abbrev pub exceeds_links : Contents → Bool
exceeds_links contents = nat_le MOST_LINKS (length contents.links)

-- the causes of a record by its kind and by what stands before it
abbrev pub record_causes : Contents → Kind → List (List ℕ) → List (Cause × Bool)
record_causes contents RuleLine fields = rule_causes (exceeds_rules (field_at 1 fields) contents) fields
record_causes contents ZoneLine fields =
    line_causes (is_bad_name (field_at 1 fields)) (is_long_name (field_at 1 fields) || exceeds_zones contents) (drop 2 fields)
record_causes contents LinkLine fields = link_causes (exceeds_links contents) fields
record_causes contents ContinuationLine fields = line_causes false (exceeds_lines contents) fields

-- the causes of a line's fields; a first field that names no keyword leaves no kind
abbrev pub kind_causes : Contents → Option Kind → List (List ℕ) → List (Cause × Bool)
kind_causes contents None fields = (causes.Keyword, true) ∷ []
kind_causes contents (Some kind) fields =
    (causes.FieldCount, not (has_count kind (length fields))) ∷ record_causes contents kind fields

-- a blank line has none
abbrev pub field_causes : Contents → List (List ℕ) → List (Cause × Bool)
field_causes contents [] = []
field_causes contents (field ∷ fields) =
    kind_causes contents (kind_of_record (waits contents) (field ∷ fields)) (field ∷ fields)

-- the fields of a line; one that leaves a quote open has none
abbrev pub fields_or_none : Option (List (List ℕ)) → List (List ℕ)
fields_or_none None = []
fields_or_none (Some fields) = fields

-- the causes of a line, by its number and by what stands before it
abbrev pub causes_of_line : Contents → ℕ → List ℕ → List (Cause × Bool)
causes_of_line contents number line =
    causes_with number line (field_causes contents (fields_or_none (fields_of line)))

-- what fields say; no fields say nothing
abbrev pub record_of_fields : Contents → ℕ → List (List ℕ) → Option Record
record_of_fields contents number [] = None
record_of_fields contents number (field ∷ fields) =
    kind_of_record (waits contents) (field ∷ fields) >>= λ kind. record_of kind number (field ∷ fields)

-- the least cause of a line, or else its record; a blank line has none
unfoldable pub line_says : Contents → ℕ → List ℕ → Result (Option Record) Cause
line_says contents number line =
    unless_cause (least_cause (causes_of_line contents number line))
    (record_of_fields contents number (fields_or_none (fields_of line)))

-- what stands before a line, and its record
abbrev pub with_said : Option Record → Contents → Contents
with_said None contents = contents
with_said (Some said) contents = with_record said contents

-- What lines of a file give, numbered from a number on, by what stands before them; or the fault of the first line that has
-- a cause, with its least.
unfoldable pub contents_after : Contents → ℕ → List (List ℕ) → Result Contents LineFault
contents_after contents number [] = Ok contents
contents_after contents number (line ∷ lines) =
    elim (line_says contents number line) [
      | Ok said ↦ contents_after (with_said said contents) (number + 1) lines
      | Err cause ↦ Err (fault_at number cause)
    ]

-- What files give, one after another. The number of a line is its number in its file and that of all lines of the files before
-- it.
unfoldable pub contents_over : Contents → ℕ → List (List ℕ) → Result Contents LineFault
contents_over contents number [] = Ok contents
contents_over contents number (file ∷ files) =
    elim (contents_after contents number (lines_of file)) [
      | Ok after ↦ contents_over (at_end_of_file after) (number + length (lines_of file)) files
      | Err fault ↦ Err fault
    ]

-- what all files of a source give, where none of their lines has a cause
unfoldable pub contents_of : List (List ℕ) → Result Contents LineFault
contents_of files = contents_over no_contents 1 files
