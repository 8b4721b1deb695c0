-- The records of a source, in the order of their lines.
use Rattle.std.specs.Prelude.{ℕ, ◌+◌, List, [], ◌∷◌, ◌++◌, length, find, Option, Some, None, Ok, Err}
use Rattle.tz_specs.specs.Choice.{only_if}
use Rattle.tz_specs.specs.Line.{lines_of}
use Rattle.tz_specs.specs.Value.{is_exactly}
use Rattle.tz_specs.specs.Written.{WrittenRule, WrittenSet, WrittenLine, WrittenZone, WrittenLink, Record, RuleRecord, ZoneRecord, Continuation, LinkRecord}
use Rattle.tz_specs.specs.Contents.{Contents, no_contents, at_end_of_file, is_set_named, with_said, line_says, contents_after}

-- the records that lines say, by what stands before them
unfoldable pub records_after : Contents → ℕ → List (List ℕ) → List Record
records_after contents number [] = []
records_after contents number (line ∷ lines) =
    elim (line_says contents number line) [
      | Ok said ↦ onto said (records_after (with_said said contents) (number + 1) lines)
      | Err cause ↦ []
    ]
  where
    onto : Option Record → List Record → List Record
    onto None records = records
    onto (Some said) records = said ∷ records

-- those of files, one after another
unfoldable pub records_over : Contents → ℕ → List (List ℕ) → List Record
records_over contents number [] = []
records_over contents number (file ∷ files) =
    elim (contents_after contents number (lines_of file)) [
      | Ok after ↦ records_after contents number (lines_of file) ++ records_over (at_end_of_file after) (number + length (lines_of file)) files
      | Err fault ↦ []
    ]

-- all records of the files of a source
abbrev pub records_of : List (List ℕ) → List Record
records_of files = records_over no_contents 1 files

-- the rule of a Rule record of that name
abbrev pub rule_named : List ℕ → Record → Option WrittenRule
rule_named name (RuleRecord other rule) = only_if (is_exactly other name) rule
rule_named name (ZoneRecord other line) = None
rule_named name (Continuation line) = None
rule_named name (LinkRecord link) = None

-- the rules of the set of that name; where there is no such set, there are none
abbrev pub rules_in : List ℕ → List WrittenSet → List WrittenRule
rules_in name sets = rules_or_none (find (is_set_named name) sets)
  where
    rules_or_none : Option WrittenSet → List WrittenRule
    rules_or_none None = []
    rules_or_none (Some set) = set.rules

-- the link of a Link record
abbrev pub link_said : Record → Option WrittenLink
link_said (RuleRecord name rule) = None
link_said (ZoneRecord name line) = None
link_said (Continuation line) = None
link_said (LinkRecord link) = Some link

-- the lines that continue a zone: those of the Continuation records up to the next Zone record
abbrev pub continued : List Record → List WrittenLine
continued [] = []
continued (RuleRecord name rule ∷ records) = continued records
continued (ZoneRecord name line ∷ records) = []
continued (Continuation line ∷ records) = line ∷ continued records
continued (LinkRecord link ∷ records) = continued records

-- the zone of each Zone record, with the lines that continue it
abbrev pub zones_said : List Record → List WrittenZone
zones_said [] = []
zones_said (RuleRecord name rule ∷ records) = zones_said records
zones_said (ZoneRecord name line ∷ records) =
    record { name = name; lines = line ∷ continued records } ∷ zones_said records
zones_said (Continuation line ∷ records) = zones_said records
zones_said (LinkRecord link ∷ records) = zones_said records
