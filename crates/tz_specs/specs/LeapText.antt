-- What a leap text says, or why it is refused.
use Rattle.std.specs.Prelude.{◌≡◌, ℕ, ◌+◌, nat_lt, Bool, ◌&&◌, ◌⊎◌, List, [], ◌∷◌, ◌++◌, length, map, filter_map, int_le, ℤ, Option, Some, None, Result, Ok, Err}
use Rattle.std.specs.Ordering.{int_eq}
use Rattle.std.specs.List.{list_any}
use Rattle.std.specs.List.Sorted.{IsPermutation}
use Rattle.tz_types.specs.declared.cause.Cause.{Cause}
use Rattle.tz_types.specs.declared.cause.Cause.TheVariants as causes
use Rattle.tz_types.specs.declared.fault.LineFault.{LineFault}
use Rattle.tz_types.specs.declared.leap_entry.LeapEntry.{LeapEntry}
use Rattle.tz_types.specs.declared.leaps.Leaps.{Leaps}
use Rattle.tz_specs.specs.Line.{lines_of}
use Rattle.tz_specs.specs.Choice.{only_if}
use Rattle.tz_specs.specs.Causes.{fault_at}
use Rattle.tz_specs.specs.Whole.{IsLeast}
use Rattle.tz_specs.specs.LeapLine.{LeapRecord, SecondRecord, ExpiryRecord, leap_line_says}

-- a leap second, and the line where it stands
pub record WrittenLeap : Type 0 where
  pub entry : LeapEntry
  pub line : ℕ

-- the moment from which the table isn't known to hold, and the line where it stands
pub record WrittenExpiry : Type 0 where
  pub moment : ℤ
  pub line : ℕ

-- the leap seconds and the expiries of a text, in the order of their lines
pub record LeapContents : Type 0 where
  pub leaps : List WrittenLeap
  pub expiries : List WrittenExpiry

-- before any line
abbrev pub no_leap_contents : LeapContents
no_leap_contents = record { leaps = []; expiries = [] }

-- the contents with what one more line says
abbrev pub with_leap_record : ℕ → Option LeapRecord → LeapContents → LeapContents
with_leap_record number None contents = contents
with_leap_record number (Some (SecondRecord entry)) contents =
    record { leaps = contents.leaps ++ record { entry = entry; line = number } ∷ []; expiries = contents.expiries }
with_leap_record number (Some (ExpiryRecord moment)) contents =
    record { leaps = contents.leaps; expiries = contents.expiries ++ record { moment = moment; line = number } ∷ [] }

-- why a leap text is refused, and at which line
abbrev pub leap_fault : ℕ → Cause → LineFault
leap_fault number cause = fault_at number cause

-- What lines give, numbered from a number on, by what stands before them; or the fault of the first line that has a
-- cause, with its least.
unfoldable pub leap_contents_after : LeapContents → ℕ → List (List ℕ) → Result LeapContents LineFault
leap_contents_after contents number [] = Ok contents
leap_contents_after contents number (line ∷ lines) =
    elim (leap_line_says number (length contents.leaps) line) [
      | Ok said ↦ leap_contents_after (with_leap_record number said contents) (number + 1) lines
      | Err cause ↦ Err (leap_fault number cause)
    ]

-- what a text gives, where none of its lines has a cause
unfoldable pub leap_contents_of : List ℕ → Result LeapContents LineFault
leap_contents_of text = leap_contents_after no_leap_contents 1 (lines_of text)

-- the fault of a line, where it has the cause
abbrev pub leap_fault_where : Bool → ℕ → Cause → Option LineFault
leap_fault_where holds number cause = only_if holds (leap_fault number cause)

-- a leap second whose date an earlier line gives too
abbrev pub repeated_leap : List WrittenLeap → WrittenLeap → Option LineFault
repeated_leap leaps here =
    leap_fault_where (list_any (λ other. int_eq other.entry.date here.entry.date && nat_lt other.line here.line) leaps) here.line causes.LeapRepeat

-- an expiry before which another stands
abbrev pub repeated_expiry : List WrittenExpiry → WrittenExpiry → Option LineFault
repeated_expiry expiries here =
    leap_fault_where (list_any (λ other. nat_lt other.line here.line) expiries) here.line causes.ExpiresTwice

-- an expiry that isn't after the date of every leap second
abbrev pub early_expiry : List WrittenLeap → WrittenExpiry → Option LineFault
early_expiry leaps here =
    leap_fault_where (list_any (λ other. int_le here.moment other.entry.date) leaps) here.line causes.ExpiresEarly

-- all faults of a leap text as a whole
unfoldable pub leap_faults : LeapContents → List LineFault
leap_faults contents =
    filter_map (repeated_leap contents.leaps) contents.leaps
    ++ filter_map (repeated_expiry contents.expiries) contents.expiries
    ++ filter_map (early_expiry contents.leaps) contents.expiries

-- the moment of the first expiry
abbrev pub first_moment : List WrittenExpiry → Option ℤ
first_moment [] = None
first_moment (expiry ∷ expiries) = Some expiry.moment

-- The text has no fault, and the table, whose entries stand in the order of their dates, is what its lines give.
pub record ReadsLeaps (text : List ℕ) (leaps : Leaps) : Type 0 where
  pub contents : LeapContents
  pub given : leap_contents_of text ≡ Ok contents
  pub no_fault : leap_faults contents ≡ []
  pub entries : IsPermutation (map (λ written. written.entry) contents.leaps) leaps.entries
  pub expires : leaps.expires ≡ first_moment contents.expiries

-- The text as a whole is refused: this is the least fault of what its lines give.
pub record RefusesWholeLeaps (text : List ℕ) (fault : LineFault) : Type 0 where
  pub contents : LeapContents
  pub given : leap_contents_of text ≡ Ok contents
  pub least : IsLeast (leap_faults contents) fault

-- the text is refused, by one of its lines or as a whole
abbrev pub RefusesLeaps : List ℕ → LineFault → Type 0
RefusesLeaps text fault = (leap_contents_of text ≡ Err fault) ⊎ RefusesWholeLeaps text fault
