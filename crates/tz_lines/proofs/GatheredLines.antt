-- What lines give, one after another.
use Rattle.std.proofs.Common.{◌≡◌, ℕ, ◌+◌, nat_lt, Bool, true, false, ◌||◌, List, [], ◌∷◌, length, Option, Some, None, Result, Ok, Err, refl, ap, ◌∙◌}
use Rattle.tz_types.specs.declared.limit.TheConstants.{MOST_TEXT_LINES}
use Rattle.tz_types.specs.declared.cause.Cause.{Cause}
use Rattle.tz_types.specs.declared.fault.LineFault.{LineFault}
use Rattle.tz_types.specs.declared.cause.Cause.TheVariants as causes
use Rattle.tz_specs.specs.Line.{lines_of}
use Rattle.tz_specs.specs.Causes.{least_cause, unless_cause, fault_at}
use Rattle.tz_specs.specs.Written.{Record}
use Rattle.tz_specs.specs.Contents.{Contents, waits, no_contents, with_said, line_says, contents_after, at_end_of_file, contents_over, contents_of}
use Rattle.tz_records.specs.Counts.{exceeds_said, count_causes}
use Rattle.tz_records.specs.LineAlone.{SaysAlone, RefusesAlone}
use Rattle.tz_lines.specs.Refusal.{MeansLineFault}
use Rattle.tz_lines.specs.declared.error.LineError.{LineError}
use Rattle.tz_lines.specs.declared.error.LineError.TheVariants as errors

-- what a line and those behind it give, by what the line says
abbrev pub given_by : Contents → ℕ → List (List ℕ) → Result (Option Record) Cause → Result Contents LineFault
given_by contents number lines (Ok said) = contents_after (with_said said contents) (number + 1) lines
given_by contents number lines (Err cause) = Err (fault_at number cause)

by_said : (contents : Contents) (number : ℕ) (lines : List (List ℕ)) (said : Result (Option Record) Cause) → elim said [ Ok told ↦ contents_after (with_said told contents) (number + 1) lines | Err cause ↦ Err (fault_at number cause) ] ≡ given_by contents number lines said
by_said contents number lines (Ok said) = refl
by_said contents number lines (Err cause) = refl

pub after_line : (contents : Contents) (number : ℕ) (line : List ℕ) (lines : List (List ℕ)) → contents_after contents number (line ∷ lines) ≡ given_by contents number lines (line_says contents number line)
unfolding contents_after
after_line contents number line lines = by_said contents number lines (line_says contents number line)

-- ---- a line by what it says by itself

says_line : (before : Contents) (waiting : Bool) (number : ℕ) (line : List ℕ) (said : Option Record) → waits before ≡ waiting → SaysAlone waiting number line said → line_says before number line ≡ unless_cause (least_cause (count_causes before number said)) said
unfolding line_says
says_line before waiting number line said same says =
    rw (says.cause_is before number same, says.record_is before same) refl

no_count : (exceeded late : Bool) → (exceeded || late) ≡ false → least_cause ((causes.Limit, exceeded) ∷ (causes.Limit, late) ∷ []) ≡ None
no_count true late h = cc
no_count false true h = cc
no_count false false h = refl

one_count : (exceeded late : Bool) → (exceeded || late) ≡ true → least_cause ((causes.Limit, exceeded) ∷ (causes.Limit, late) ∷ []) ≡ Some causes.Limit
one_count true late h = refl
one_count false true h = refl
one_count false false h = cc

-- what is said is given, unless it is one too many
pub after_said : (before : Contents) (waiting : Bool) (number : ℕ) (line : List ℕ) (lines : List (List ℕ)) (said : Option Record) → waits before ≡ waiting → SaysAlone waiting number line said → (exceeds_said before said || nat_lt MOST_TEXT_LINES number) ≡ false → contents_after before number (line ∷ lines) ≡ contents_after (with_said said before) (number + 1) lines
after_said before waiting number line lines said same says fits =
    let is = says_line before waiting number line said same says in
    let none = no_count (exceeds_said before said) (nat_lt MOST_TEXT_LINES number) fits in
    after_line before number line lines ∙ ap (given_by before number lines) (is ∙ ap (λ (it : Option Cause). unless_cause it said) none)

-- a line that has a cause
fault_comes : (before : Contents) (number : ℕ) (line : List ℕ) (lines : List (List ℕ)) (cause : Cause) → line_says before number line ≡ Err cause → MeansLineFault (errors.Fault (fault_at number cause)) (contents_after before number (line ∷ lines))
fault_comes before number line lines cause e = after_line before number line lines ∙ ap (given_by before number lines) e

pub limit_comes : (before : Contents) (waiting : Bool) (number : ℕ) (line : List ℕ) (lines : List (List ℕ)) (said : Option Record) → waits before ≡ waiting → SaysAlone waiting number line said → (exceeds_said before said || nat_lt MOST_TEXT_LINES number) ≡ true → MeansLineFault (errors.Fault (fault_at number causes.Limit)) (contents_after before number (line ∷ lines))
limit_comes before waiting number line lines said same says exceeded =
    let is = says_line before waiting number line said same says in
    let one = one_count (exceeds_said before said) (nat_lt MOST_TEXT_LINES number) exceeded in
    fault_comes before number line lines causes.Limit (is ∙ ap (λ (it : Option Cause). unless_cause it said) one)

refuses_line : (before : Contents) (waiting : Bool) (number : ℕ) (line : List ℕ) (cause : Cause) → waits before ≡ waiting → RefusesAlone waiting line cause → line_says before number line ≡ Err cause
unfolding line_says
refuses_line before waiting number line cause same refuses = rw (refuses before number same) refl

pub cause_comes : (before : Contents) (waiting : Bool) (number : ℕ) (line : List ℕ) (lines : List (List ℕ)) (cause : Cause) → waits before ≡ waiting → RefusesAlone waiting line cause → MeansLineFault (errors.Fault (fault_at number cause)) (contents_after before number (line ∷ lines))
cause_comes before waiting number line lines cause same refuses =
    fault_comes before number line lines cause (refuses_line before waiting number line cause same refuses)

-- no more lines
pub after_all : (contents : Contents) (number : ℕ) → contents_after contents number [] ≡ Ok contents
unfolding contents_after
after_all contents number = refl

-- what a file and those behind it give, by what the file gives
abbrev pub files_after : ℕ → List (List ℕ) → Result Contents LineFault → Result Contents LineFault
files_after number files (Ok after) = contents_over (at_end_of_file after) number files
files_after number files (Err fault) = Err fault

by_given : (number : ℕ) (files : List (List ℕ)) (outcome : Result Contents LineFault) → elim outcome [ Ok after ↦ contents_over (at_end_of_file after) number files | Err fault ↦ Err fault ] ≡ files_after number files outcome
by_given number files (Ok after) = refl
by_given number files (Err fault) = refl

pub after_file : (contents : Contents) (number : ℕ) (file : List ℕ) (files : List (List ℕ)) → contents_over contents number (file ∷ files) ≡ files_after (number + length (lines_of file)) files (contents_after contents number (lines_of file))
unfolding contents_over
after_file contents number file files =
    by_given (number + length (lines_of file)) files (contents_after contents number (lines_of file))

-- a file that is read
pub after_read : (contents after : Contents) (number : ℕ) (file : List ℕ) (files : List (List ℕ)) → contents_after contents number (lines_of file) ≡ Ok after → contents_over contents number (file ∷ files) ≡ contents_over (at_end_of_file after) (number + length (lines_of file)) files
after_read contents after number file files e =
    after_file contents number file files ∙ ap (files_after (number + length (lines_of file)) files) e

-- a file that has a fault
pub file_refused : (error : LineError) (contents : Contents) (number : ℕ) (file : List ℕ) (files : List (List ℕ)) → MeansLineFault error (contents_after contents number (lines_of file)) → MeansLineFault error (contents_over contents number (file ∷ files))
file_refused errors.NoMemory contents number file files h = tt
file_refused (errors.Fault fault) contents number file files h =
    after_file contents number file files ∙ ap (files_after (number + length (lines_of file)) files) h

-- no more files
pub over_all : (contents : Contents) (number : ℕ) → contents_over contents number [] ≡ Ok contents
unfolding contents_over
over_all contents number = refl

pub files_from_none : (files : List (List ℕ)) → contents_of files ≡ contents_over no_contents 1 files
unfolding contents_of
files_from_none files = refl

-- all files
pub from_none : (contents : Contents) (files : List (List ℕ)) → contents ≡ no_contents → contents_over contents 1 files ≡ contents_of files
unfolding contents_of
from_none contents files e = ap (λ (it : Contents). contents_over it 1 files) e
