-- Why texts are refused: the number by which each cause is told, and what is said of it in words.
use Rattle.std.specs.Prelude.{ℕ, ◌==◌, List, [], ◌∷◌, find, codes, Option}
use Rattle.tz_types.specs.declared.cause.Cause.{Cause}
use Rattle.tz_types.specs.declared.cause.Cause.TheVariants as causes

abbrev pub cause_number : Cause → ℕ
cause_number causes.LongLine = 1
cause_number causes.Nul = 2
cause_number causes.OpenQuote = 3
cause_number causes.Keyword = 4
cause_number causes.FieldCount = 5
cause_number causes.Year = 6
cause_number causes.YearOrder = 7
cause_number causes.Reserved = 8
cause_number causes.Month = 9
cause_number causes.Day = 10
cause_number causes.Time = 11
cause_number causes.Save = 12
cause_number causes.BadName = 13
cause_number causes.Format = 14
cause_number causes.LongAbbrev = 15
cause_number causes.Corr = 16
cause_number causes.Rolling = 17
cause_number causes.Limit = 18
cause_number causes.NoContinuation = 19
cause_number causes.UnknownRule = 20
cause_number causes.DuplicateName = 21
cause_number causes.LinkTarget = 22
cause_number causes.UntilOrder = 23
cause_number causes.LeapRepeat = 24
cause_number causes.ExpiresTwice = 25
cause_number causes.ExpiresEarly = 26

-- every cause, by its number
abbrev pub all_causes : List Cause
all_causes =
    causes.LongLine ∷
    causes.Nul ∷
    causes.OpenQuote ∷
    causes.Keyword ∷
    causes.FieldCount ∷
    causes.Year ∷
    causes.YearOrder ∷
    causes.Reserved ∷
    causes.Month ∷
    causes.Day ∷
    causes.Time ∷
    causes.Save ∷
    causes.BadName ∷
    causes.Format ∷
    causes.LongAbbrev ∷
    causes.Corr ∷
    causes.Rolling ∷
    causes.Limit ∷
    causes.NoContinuation ∷
    causes.UnknownRule ∷
    causes.DuplicateName ∷
    causes.LinkTarget ∷
    causes.UntilOrder ∷
    causes.LeapRepeat ∷
    causes.ExpiresTwice ∷
    causes.ExpiresEarly ∷
    []

-- the cause of a number, if there is one
abbrev pub cause_numbered : ℕ → Option Cause
cause_numbered number = find (λ cause. cause_number cause == number) all_causes

-- what `{}` prints of a cause: what is wrong, and behind the colon what is wanted
abbrev pub cause_text : Cause → List ℕ
cause_text causes.LongLine = codes "line too long: at most 2048 bytes with its newline"
cause_text causes.Nul = codes "NUL byte: a line has none, not even in a comment"
cause_text causes.OpenQuote = codes "open quote: a quoted piece is closed in its line"
cause_text causes.Keyword = codes "no keyword: Rule, Zone or Link in a zone text, Leap or Expires in a leap text"
cause_text causes.FieldCount = codes "wrong number of fields: 10 in a Rule line, 5 to 9 in a Zone line, 3 to 7 in a line that continues it, 3 in a Link line, 7 in a Leap line, 5 in an Expires line"
cause_text causes.Year = codes "bad year: digits and in range, or in a Rule line maximum or only as TO"
cause_text causes.YearOrder = codes "years in wrong order: TO is not below FROM"
cause_text causes.Reserved = codes "bad fifth field of a Rule line: it is -"
cause_text causes.Month = codes "bad month: a name, as Jan or January"
cause_text causes.Day = codes "bad day: one that the month has, as 31, lastSun, Sun>=8 or Sun<=25"
cause_text causes.Time = codes "bad time or offset: as 2, 2:30 or -4:56:02, in range, in AT and TIME with w, s, u, g or z behind it; in a leap text 23:59:60 with +, 23:59:59 with -, or HH:MM:SS"
cause_text causes.Save = codes "bad save: -, an amount as 1:00 in range, with s or d behind it, or the name of a rule set"
cause_text causes.BadName = codes "bad name: visible ASCII, at least one byte, and no digit or sign at the start of a rule's name"
cause_text causes.Format = codes "bad format or letters: visible ASCII, and in a format %s or %z once, or a / between two parts"
cause_text causes.LongAbbrev = codes "format or letters too long: at most 24 and 8 bytes"
cause_text causes.Corr = codes "bad correction: + or -"
cause_text causes.Rolling = codes "bad seventh field of a Leap line: it is Stationary"
cause_text causes.Limit = codes "too much: a limit on lines, on records of one kind or on the bytes of a name is passed"
cause_text causes.NoContinuation = codes "no continuation: the last line of a zone has no UNTIL"
cause_text causes.UnknownRule = codes "unknown rule set: some Rule line has the name in RULES"
cause_text causes.DuplicateName = codes "repeated name: no two zones or links have one name"
cause_text causes.LinkTarget = codes "link to no zone: the targets of a link lead to a zone"
cause_text causes.UntilOrder = codes "UNTIL too early: a line ends later than it starts"
cause_text causes.LeapRepeat = codes "repeated date: no two leap seconds have one date"
cause_text causes.ExpiresTwice = codes "second Expires line: a leap text has at most one"
cause_text causes.ExpiresEarly = codes "Expires too early: it is later than every leap second"
