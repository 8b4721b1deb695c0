-- How answers are printed: each as one line.
use Rattle.std.specs.Prelude.{ℕ, zero, suc, List, [], ◌++◌, length, codes, ℤ}
use Rattle.std.specs.List.{sum_by}
use Rattle.std.specs.Fmt.{decimal, signed_decimal}
use Rattle.tz_types.specs.declared.range.SysInfo.{SysInfo}
use Rattle.tz_types.specs.declared.fault.Fault.{Fault}
use Rattle.tz_types.specs.declared.rule_set.RuleSet.{RuleSet}
use Rattle.tz_types.specs.declared.database.Db.{Db}
use Rattle.tz_moves.specs.declared.moves.Move.{Move}
use Rattle.tz_lookup.specs.Range.{range_text, spaced, shown}

-- a range
abbrev pub range_line : SysInfo → List ℕ
range_line range = range_text range ++ codes "\n"

-- a move: `AT OFFSET SAVE ABBREV`
abbrev pub move_line : Move → List ℕ
move_line change =
    spaced change.at ++ spaced change.offset ++ spaced change.save ++ shown change.abbrev ++ codes "\n"

-- a number alone
abbrev pub number_line : ℤ → List ℕ
number_line number = signed_decimal number ++ codes "\n"

-- a day and how many seconds it has: `DAY SECONDS`
abbrev pub day_line : ℤ → ℤ → List ℕ
day_line day seconds = spaced day ++ number_line seconds

-- how many rules a database has, in all its sets
abbrev pub rule_count : Db → ℕ
rule_count db = sum_by (λ (set : RuleSet). length set.rules) db.sets

-- `ok VERSION rules R zones Z links L`
unfoldable pub check_line : Db → List ℕ
check_line db =
    codes "ok " ++ db.version ++ codes " rules " ++ decimal (rule_count db) ++ codes " zones "
    ++ decimal (length db.zones) ++ codes " links " ++ decimal (length db.links) ++ codes "\n"

-- ` in F` where the fault is in a file of that number; 0 stands for the one file there is
abbrev pub in_file : ℕ → List ℕ
in_file zero = []
in_file (suc file) = codes " in " ++ decimal (suc file)

-- a word, then `LINE CAUSE`, and ` in F` where there are several files: the line at which a text is refused, the number
-- of the cause, and the file's number
unfoldable pub fault_line : List ℕ → Fault → List ℕ
fault_line word fault =
    word ++ codes " " ++ decimal fault.line ++ codes " " ++ decimal fault.cause ++ in_file fault.file ++ codes "\n"
