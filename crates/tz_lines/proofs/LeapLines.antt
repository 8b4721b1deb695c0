-- What the lines of a leap text give, one after another.
use Rattle.std.proofs.Common.{◌≡◌, ℕ, ◌+◌, List, ◌∷◌, length, map, Option, Result, Ok, Err, sym, ap, ◌∙◌}
use Rattle.std.proofs.lemmas.List.{length-map}
use Rattle.tz_types.specs.declared.cause.Cause.{Cause}
use Rattle.tz_specs.specs.Line.{lines_of}
use Rattle.tz_specs.specs.LeapLine.{LeapRecord, leap_line_says}
use Rattle.tz_specs.specs.LeapText.{LeapContents, no_leap_contents, with_leap_record, leap_fault, leap_contents_after, leap_contents_of}
use Rattle.tz_specs.proofs.LeapTextLemmas.{given_by, contents_step}
use Rattle.tz_lines.specs.declared.leap_contents.WrittenLeap.{WrittenLeap}
use Rattle.tz_lines.specs.declared.error.LineError.{LineError}
use Rattle.tz_lines.specs.declared.error.LineError.TheVariants as errors
use Rattle.tz_lines.specs.LeapContents.{leap_meant}
use Rattle.tz_lines.specs.Refusal.{MeansLineFault}

-- what is said where so many leap seconds are kept
pub said_after : (number count : ℕ) (line : List ℕ) (leaps : List WrittenLeap) (said : Result (Option LeapRecord) Cause) → count ≡ length leaps → leap_line_says number count line ≡ said → leap_line_says number (length (map leap_meant leaps)) line ≡ said
said_after number count line leaps said is e =
    ap (λ (n : ℕ). leap_line_says number n line) (length-map leaps leap_meant ∙ sym is) ∙ e

pub after_said : (contents : LeapContents) (number : ℕ) (line : List ℕ) (lines : List (List ℕ)) (said : Option LeapRecord) → leap_line_says number (length contents.leaps) line ≡ Ok said → leap_contents_after contents number (line ∷ lines) ≡ leap_contents_after (with_leap_record number said contents) (number + 1) lines
after_said contents number line lines said e = contents_step contents number line lines ∙ ap (given_by contents number lines) e

-- a fault comes where a line has a cause
pub cause_comes : (error : LineError) (contents : LeapContents) (number : ℕ) (line : List ℕ) (lines : List (List ℕ)) (cause : Cause) → error ≡ errors.Fault (leap_fault number cause) → leap_line_says number (length contents.leaps) line ≡ Err cause → MeansLineFault error (leap_contents_after contents number (line ∷ lines))
cause_comes error contents number line lines cause is e =
    rw is (contents_step contents number line lines ∙ ap (given_by contents number lines) e)

-- before any line
pub from_none : (contents : LeapContents) (text : List ℕ) → contents ≡ no_leap_contents → leap_contents_after contents 1 (lines_of text) ≡ leap_contents_of text
unfolding leap_contents_of
from_none contents text is = ap (λ (it : LeapContents). leap_contents_after it 1 (lines_of text)) is
